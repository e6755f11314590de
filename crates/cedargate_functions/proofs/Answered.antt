-- What the functions answer of values alone, and the facts that a table asks of what it stores.
use Rattle.std.proofs.Common.{◌≡◌, Bool, true, false, cond, ℕ, List, [], ◌∷◌, map, Option, Some, None, Result, Ok, Err, refl, sym, ap, ◌∙◌, subst}
use Rattle.std.specs.Option.{IfSome, option_map_or}
use Rattle.std.specs.Borrow.{Bor}
use Rattle.std.specs.declared.alloc.Global.{Global}
use Rattle.std.proofs.lemmas.Slice.Eq.{bytes_eq-Decides}
use Rattle.cedar_expr_model.specs.Name.{Name, name_eq}
use Rattle.cedar_expr_model.specs.Made as model
use Rattle.cedar_expr_model.specs.Made.{Made, made_prim, made_extension}
use Rattle.cedar_expr_model.specs.Order.{core_eq}
use Rattle.cedar_expr_model.specs.Substitution.{core_type_of}
use Rattle.cedar_expr_model.specs.Table.{Signature, Called, gives, fails, leaves}
use Rattle.cedar_expr_model.specs.Tree.{CoreType, string_core, extension_core}
use Rattle.cedar_expr_model.specs.Value.{V, text}
use Rattle.cedar_expr_model.proofs.Equality.{name_eq_same}
use Rattle.cedar_expr_model.proofs.CoreTypes.{core_eq-Decides}
use Rattle.cedar_expr_model.proofs.ValueOrder.{values_decide}
use Rattle.cedar_expr_values.specs.Values.{made}
use Rattle.cedar_expr_values.specs.Extensions.{extension_of}
use Rattle.cedar_expr_values.specs.declared.value.Value.{Value}
use Rattle.cedar_expr_values.specs.declared.extension.ExtValue.{ExtValue}
use Rattle.cedar_expr_functions.specs.Answers.{answer, agree, called_eq, is_of_result, IsStored}
use Rattle.cedar_expr_functions.specs.Signatures.{takes, bare_values}
use Rattle.cedar_expr_functions.specs.declared.extension.ExtensionOutputValue.{ExtensionOutputValue}
use Rattle.cedar_expr_functions.specs.declared.extension.ExtensionOutputValue.TheVariants.{Known, Unknown}
use Rattle.cedar_expr_functions.specs.declared.err.CallFault.{CallFault}
use Rattle.cedar_expr_functions.specs.declared.err.CallFault.TheVariants.{OutOfMemory, WrongNumArguments, ArgumentType, Fault}
use Rattle.cedar_evaluator_model.specs.Scope.{MadeCalled, makes, faults, leaves_unknown}
use Rattle.cedar_evaluator_model.specs.OfLaws.Calls.{bare_called}
use Rattle.cedargate_functions.specs.Ranks.{rank_name, rank_made, label_made, number_read, number_kept, ranked, labelled, rank_calls, bare_number_read, bare_number_kept, rank_answers}
use Rattle.cedargate_functions.specs.Outcomes.{ComesTo, made_values}

-- the numbers are those of the values alone
same_read : (ms : List Made) → bare_number_read (map model.bare ms) ≡ number_read ms
same_read (made_prim (text t) ∷ []) = refl
same_read ms = refl

same_kept : (ms : List Made) → bare_number_kept (map model.bare ms) ≡ number_kept ms
same_kept (made_extension k t f ps ∷ []) = refl
same_kept ms = refl

-- what is built of a number, or the fault
abbrev answered : (ℕ → Made) → Option ℕ → MadeCalled
answered build o = option_map_or (λ n. makes (build n)) o (faults rank_name)

abbrev bare_answered : (ℕ → Made) → Option ℕ → Called
bare_answered build o = option_map_or (λ n. gives (model.bare (build n))) o (fails rank_name)

alone : (build : ℕ → Made) (o : Option ℕ) → bare_called (answered build o) ≡ bare_answered build o
alone build None = refl
alone build (Some n) = refl

by_name : (b : Bool) (c d : MadeCalled) (e f : Called) → bare_called c ≡ e → bare_called d ≡ f → bare_called (cond b c d) ≡ cond b e f
by_name true c d e f h k = h
by_name false c d e f h k = k

-- the calls answer as the functions do of the values alone
pub calls_agree : (f : Name) (ms : List Made) → bare_called (rank_calls f ms) ≡ rank_answers f (map model.bare ms)
calls_agree f ms =
    by_name (name_eq f rank_name) (ranked ms) (labelled ms) _ _
    (alone rank_made (number_read ms) ∙ ap (bare_answered rank_made) (sym (same_read ms)))
    (alone label_made (number_kept ms) ∙ ap (bare_answered label_made) (sym (same_kept ms)))

-- where a call answered, it is this
answer_is : (c : MadeCalled) (r : Result ExtensionOutputValue CallFault) → ComesTo c r → IfSome (answer r) (λ d. d ≡ bare_called c)
answer_is c (Ok (Known v)) h = ap bare_called (sym h)
answer_is c (Ok (Unknown u)) h = absurd h
answer_is c (Err OutOfMemory) h = tt
answer_is c (Err (WrongNumArguments f m n)) h = absurd h
answer_is c (Err (ArgumentType a b)) h = absurd h
answer_is c (Err (Fault e m a)) h = ap bare_called (sym h.0)

called_same : (c : Called) → called_eq c c ≡ true
called_same (gives v) = (values_decide v v).1 refl
called_same (fails n) = name_eq_same n
called_same (leaves s) = (bytes_eq-Decides s s).1 refl

both_agree : (c : Called) (o p : Option Called) → IfSome o (λ e. e ≡ c) → IfSome p (λ e. e ≡ c) → agree o p ≡ true
both_agree c None p h k = refl
both_agree c (Some a) None h k = refl
both_agree c (Some a) (Some b) h k = subst (λ x. called_eq a x ≡ true) (h ∙ sym k) (called_same a)

same_values : (vs : List (Value ExtValue)) → map model.bare (made_values vs) ≡ bare_values vs
same_values [] = refl
same_values (v ∷ vs) = ap (λ us. model.bare (made extension_of v) ∷ us) (same_values vs)

-- A function that builds a value of this type of the number that stands in its arguments has the facts of its signature.
module _ (build : ℕ → Made) (t : CoreType) (typed : (n : ℕ) → core_type_of (model.bare (build n)) ≡ t) where
  of_type : (m : Made) (o : Option ℕ) → answered build o ≡ makes m → core_eq t (core_type_of (model.bare m)) ≡ true
  of_type m None h = absurd (cc)
  of_type m (Some n) h =
      let e : build n ≡ m = cc in
      (core_eq-Decides t (core_type_of (model.bare m))).1 (sym (typed n) ∙ ap (λ x. core_type_of (model.bare x)) e)

  results : (o : Option ℕ) (r : Result ExtensionOutputValue CallFault) → ComesTo (answered build o) r → is_of_result (Some t) r ≡ true
  results o (Ok (Known v)) h = of_type (made extension_of v) o h
  results o (Ok (Unknown u)) h = absurd h
  results o (Err OutOfMemory) h = refl
  results o (Err (WrongNumArguments f m n)) h = absurd h
  results o (Err (ArgumentType a b)) h = absurd h
  results o (Err (Fault e m a)) h = refl

  module _ (number : List Made → Option ℕ) (bare_number : List V → Option ℕ) (same : (ms : List Made) → bare_number (map model.bare ms) ≡ number ms) where
    number_is : (vs : List (Value ExtValue)) → number (made_values vs) ≡ bare_number (bare_values vs)
    number_is vs = sym (same (made_values vs)) ∙ ap bare_number (same_values vs)

    stored : (s : Signature) (pre : Global → Bor (List (Value ExtValue)) → Type 0) (post : Global → Bor (List (Value ExtValue)) → Result ExtensionOutputValue CallFault → Type 0) → s.result ≡ Some t
        → ((a : Global) (xs : Bor (List (Value ExtValue))) → pre a xs)
        → ((a : Global) (xs : Bor (List (Value ExtValue))) (r : Result ExtensionOutputValue CallFault) → post a xs r → ComesTo (answered build (number (made_values xs.now))) r)
        → IsStored s pre post
    stored s pre post gives_it may comes = record {
      callable = λ a xs h. may a xs;
      answers_alike = λ a b xs ys p q h e k l.
          let alike = number_is xs.now ∙ (ap bare_number e ∙ sym (number_is ys.now)) in
          let first = answer_is (answered build (number (made_values xs.now))) p (comes a xs p k) in
          let second = answer_is (answered build (number (made_values ys.now))) q (comes b ys q l) in
          both_agree (bare_called (answered build (number (made_values ys.now)))) (answer p) (answer q) (subst (λ o. IfSome (answer p) (λ d. d ≡ bare_called (answered build o))) alike first) second;
      of_result = λ a xs p h k. subst (λ o. is_of_result o p ≡ true) (sym gives_it) (results (number (made_values xs.now)) p (comes a xs p k));
    }

module _ (s : Signature) (pre : Global → Bor (List (Value ExtValue)) → Type 0) (post : Global → Bor (List (Value ExtValue)) → Result ExtensionOutputValue CallFault → Type 0) (may : (a : Global) (xs : Bor (List (Value ExtValue))) → pre a xs) where
  -- What comes to the answers of `rank` may be stored where ranks are the result, and what comes to those of `label` where texts are.
  pub rank_stored : s.result ≡ Some (extension_core rank_name) → ((a : Global) (xs : Bor (List (Value ExtValue))) (r : Result ExtensionOutputValue CallFault) → post a xs r → ComesTo (ranked (made_values xs.now)) r) → IsStored s pre post
  rank_stored e comes = stored rank_made (extension_core rank_name) (λ n. refl) number_read bare_number_read same_read s pre post e may comes

  pub label_stored : s.result ≡ Some string_core → ((a : Global) (xs : Bor (List (Value ExtValue))) (r : Result ExtensionOutputValue CallFault) → post a xs r → ComesTo (labelled (made_values xs.now)) r) → IsStored s pre post
  label_stored e comes = stored label_made string_core (λ n. refl) number_kept bare_number_kept same_kept s pre post e may comes
