-- The table of `rank` and `label` is fair: its functions answer with values of their result types as they are written, or fail.
use Rattle.std.proofs.Common.{◌≡◌, ℕ, ◌<◌, Bool, true, false, cond, List, [], ◌∷◌, map, length, Option, Some, None, Contains, refl, sym, ap, ◌∙◌, subst, ◌⊎◌, inl, inr, ⊎_elim, is_some}
use Rattle.std.specs.List.{find, list_all}
use Rattle.std.specs.Option.{option_map_or}
use Rattle.std.specs.Fmt.{decimal}
use Rattle.std.proofs.lemmas.List.Sorted.{Contains-permutation, IsPermutation-sym}
use Rattle.cedar_expr_model.specs.Name.{Text, Name, name_eq}
use Rattle.cedar_expr_model.specs.Made as model
use Rattle.cedar_expr_model.specs.Made.{Made}
use Rattle.cedar_expr_model.specs.OfLaws.Fair.{IsFair, IsAnswer, IsTaken}
use Rattle.cedar_expr_model.specs.Substitution.{core_type_of}
use Rattle.cedar_expr_model.specs.Table.{Signature, Table, Called, gives, fails, signature_of, all_typed}
use Rattle.cedar_expr_model.specs.Tree.{CoreType}
use Rattle.cedar_expr_model.specs.Value.{V, prim, text}
use Rattle.cedar_expr_model.proofs.Equality.{name_eq-Decides}
use Rattle.cedar_expr_model.proofs.Lists.{contains_head, contains_tail, contains_cases, contains_none, hold_both}
use Rattle.cedar_evaluator_model.specs.Scope.{MadeCalled, makes, faults}
use Rattle.cedar_evaluator_model.specs.OfLaws.Calls.{bare_called}
use Rattle.cedar_evaluator_model.specs.OfLaws.WellMade.{MakeValues}
use Rattle.cedar_expr_model.specs.Canonical.{is_canonical}
use Rattle.cedar_expr_model.specs.OfLaws.Represented.{IsRepresented}
use Rattle.cedar_gate_model.specs.RunsAnswer.{AnswerFairly}
use Rattle.cedargate_functions.specs.Ranks.{rank_name, label_name, rank_read, rank_key, rank_made, label_made, number_read, number_kept, ranked, labelled, rank_calls, bare_number_read, bare_number_kept, rank_answers}
use Rattle.cedargate_functions.specs.Tables.{rank_signature, label_signature, HoldsRanks, rank_functions}
use Rattle.cedargate_functions.proofs.Answered.{calls_agree}
use Rattle.cedargate_functions.proofs.Digits.{read_below, decimal_read}

-- what is found by its name is among those that are left, and has the name
found_case : (b : Bool) (f : Name) (z s : Signature) (zs : List Signature) (o : Option Signature) → name_eq f z.name ≡ b → cond b (Some z) o ≡ Some s → (o ≡ Some s → (f ≡ s.name) × Contains zs s) → (f ≡ s.name) × Contains (z ∷ zs) s
found_case true f z s zs o t e h =
    let same : z ≡ s = cc in
    subst (λ x. (f ≡ x.name) × Contains (z ∷ zs) x) same ((name_eq-Decides f z.name).0 t, contains_head z zs)
found_case false f z s zs o t e h = let k = h e in (k.0, contains_tail z zs s k.1)

found_in : (f : Name) (zs : List Signature) (s : Signature) → find (λ (z : Signature). name_eq f z.name) zs ≡ Some s → (f ≡ s.name) × Contains zs s
found_in f [] s e = absurd (cc)
found_in f (z ∷ zs) s e = found_case (name_eq f z.name) f z s zs (find (λ (z : Signature). name_eq f z.name) zs) refl e (found_in f zs s)

-- the one of its name is found
named_case : (b : Bool) (f : Name) (z s : Signature) (zs : List Signature) (o : Option Signature) → name_eq f z.name ≡ b → f ≡ s.name → Contains (z ∷ zs) s → (f ≡ z.name → z ≡ s) → (Contains zs s → o ≡ Some s) → cond b (Some z) o ≡ Some s
named_case true f z s zs o t e h same rest = ap Some (same ((name_eq-Decides f z.name).0 t))
named_case false f z s zs o t e h same rest =
    contains_cases (o ≡ Some s) z zs s h (λ k. let j : f ≡ z.name = e ∙ ap (λ (y : Signature). y.name) (sym k) in let u = (name_eq-Decides f z.name).1 j in absurd (cc)) rest

named_found : (f : Name) (zs : List Signature) (s : Signature) → f ≡ s.name → Contains zs s → ((z : Signature) → Contains zs z → f ≡ z.name → z ≡ s) → find (λ (z : Signature). name_eq f z.name) zs ≡ Some s
named_found f [] s e h same = absurd (contains_none s h)
named_found f (z ∷ zs) s e h same =
    named_case (name_eq f z.name) f z s zs (find (λ (z : Signature). name_eq f z.name) zs) refl e h (same z (contains_head z zs)) (λ k. named_found f zs s e k (λ y i. same y (contains_tail z zs y i)))

names_differ : rank_name ≡ label_name → ⊥
names_differ e = let t = (name_eq-Decides rank_name label_name).1 e in absurd (cc)

by_rank : (f : Name) (c d : Called) → f ≡ rank_name → cond (name_eq f rank_name) c d ≡ c
by_rank f c d e = ap (λ b. cond b c d) ((name_eq-Decides f rank_name).1 e)

by_label : (f : Name) (c d : Called) → f ≡ label_name → cond (name_eq f rank_name) c d ≡ d
by_label f c d e = ap (λ n. cond (name_eq n rank_name) c d) e

built_answer : (s : Signature) (build : ℕ → Made) (o : Option ℕ) → ((n : ℕ) → s.result ≡ Some (core_type_of (model.bare (build n)))) → IsAnswer s (option_map_or (λ n. gives (model.bare (build n))) o (fails rank_name))
built_answer s build None h = tt
built_answer s build (Some n) h = h n

module _ (x : Table) (h : HoldsRanks x) where
  either : (s : Signature) → Contains x.functions s → (rank_signature ≡ s) ⊎ (label_signature ≡ s)
  either s k =
      contains_cases ((rank_signature ≡ s) ⊎ (label_signature ≡ s)) rank_signature (label_signature ∷ []) s (Contains-permutation x.functions (rank_signature ∷ label_signature ∷ []) s (IsPermutation-sym (rank_signature ∷ label_signature ∷ []) x.functions h.functions) k) (λ e. inl e)
      (λ l. contains_cases ((rank_signature ≡ s) ⊎ (label_signature ≡ s)) label_signature [] s l (λ e. inr e) (λ m. absurd (contains_none s m)))

  rank_there : Contains x.functions rank_signature
  rank_there = Contains-permutation (rank_signature ∷ label_signature ∷ []) x.functions rank_signature h.functions (contains_head rank_signature (label_signature ∷ []))

  rank_found : signature_of x rank_name ≡ Some rank_signature
  rank_found =
      named_found rank_name x.functions rank_signature refl rank_there
      (λ z k e. ⊎_elim (λ i. sym i) (λ i. absurd (names_differ (e ∙ ap (λ (y : Signature). y.name) (sym i)))) (either z k))

  fair : IsFair x
  fair f s vs e t a =
      let there = found_in f x.functions s e in
      ⊎_elim
      (λ i. let named : f ≡ rank_name = there.0 ∙ ap (λ (y : Signature). y.name) (sym i) in
      subst (λ c. IsAnswer s c) (sym (h.answers f vs ∙ by_rank f _ _ named)) (subst (λ y. IsAnswer y (option_map_or (λ n. gives (model.bare (rank_made n))) (bare_number_read vs) (fails rank_name))) i (built_answer rank_signature rank_made (bare_number_read vs) (λ n. refl))))
      (λ i. let named : f ≡ label_name = there.0 ∙ ap (λ (y : Signature). y.name) (sym i) in
      subst (λ c. IsAnswer s c) (sym (h.answers f vs ∙ by_label f _ _ named)) (subst (λ y. IsAnswer y (option_map_or (λ n. gives (model.bare (label_made n))) (bare_number_kept vs) (fails rank_name))) i (built_answer label_signature label_made (bare_number_kept vs) (λ n. refl))))
      (either s there.1)

  each_typed : (ss : List Signature) → ((s : Signature) → Contains ss s → is_some s.result ≡ true) → list_all (λ (s : Signature). is_some s.result) ss ≡ true
  each_typed [] k = refl
  each_typed (s ∷ ss) k = hold_both (is_some s.result) (list_all (λ (s : Signature). is_some s.result) ss) (k s (contains_head s ss)) (each_typed ss (λ z i. k z (contains_tail s ss z i)))

  typed : all_typed x ≡ true
  typed = each_typed x.functions (λ s k. ⊎_elim (λ i. ap (λ (y : Signature). is_some y.result) (sym i)) (λ i. ap (λ (y : Signature). is_some y.result) (sym i)) (either s k))

  -- the calls answer as the table does
  agrees : (f : Name) (ms : List Made) → bare_called (rank_calls f ms) ≡ x.answers f (map model.bare ms)
  agrees f ms = calls_agree f ms ∙ sym (h.answers f (map model.bare ms))

  -- and what they make is what its call makes
  rank_well : (n : ℕ) → n < 10000 → IsRepresented x (rank_made n)
  rank_well n small = (
    (rank_signature, rank_found, refl, refl),
    h.answers rank_name (prim (text (decimal n)) ∷ []) ∙ ap (λ o. option_map_or (λ n. gives (model.bare (rank_made n))) o (fails rank_name)) (decimal_read n small),
  )

  read_well : (ms : List Made) (n : ℕ) → number_read ms ≡ Some n → n < 10000
  read_well (model.made_prim (text t) ∷ []) n e = read_below t n e
  read_well ms n e = absurd (cc)

  ranked_well : (ms : List Made) (m : Made) (o : Option ℕ) → number_read ms ≡ o → option_map_or (λ n. makes (rank_made n)) o (faults rank_name) ≡ makes m → IsRepresented x m
  ranked_well ms m None e k = absurd (cc)
  ranked_well ms m (Some n) e k = let same : rank_made n ≡ m = cc in subst (IsRepresented x) same (rank_well n (read_well ms n e))

  labelled_well : (m : Made) (o : Option ℕ) → option_map_or (λ n. makes (label_made n)) o (faults rank_name) ≡ makes m → IsRepresented x m
  labelled_well m None k = absurd (cc)
  labelled_well m (Some n) k = let same : label_made n ≡ m = cc in subst (IsRepresented x) same tt

  well_case : (b : Bool) (ms : List Made) (m : Made) → cond b (ranked ms) (labelled ms) ≡ makes m → IsRepresented x m
  well_case true ms m k = ranked_well ms m (number_read ms) refl k
  well_case false ms m k = labelled_well m (number_kept ms) k

  well : (f : Name) (ms : List Made) (m : Made) → rank_calls f ms ≡ makes m → IsRepresented x m
  well f ms m k = well_case (name_eq f rank_name) ms m k

-- The functions of the program are fair, each with a result type, and their calls answer as the table does.
pub ranks_answer_fairly : (x : Table) → HoldsRanks x → AnswerFairly (rank_functions x)
ranks_answer_fairly x h = record {
  fair = fair x h;
  typed = typed x h;
  agrees = λ f ms t. agrees x h f ms;
  represented = λ f ms m t k. well x h f ms m k;
}

-- what they make are values
rank_is_value : (m : Made) (o : Option ℕ) → option_map_or (λ n. makes (rank_made n)) o (faults rank_name) ≡ makes m → is_canonical (model.bare m) ≡ true
rank_is_value m None k = absurd (cc)
rank_is_value m (Some n) k = let same : rank_made n ≡ m = cc in subst (λ v. is_canonical (model.bare v) ≡ true) same refl

label_is_value : (m : Made) (o : Option ℕ) → option_map_or (λ n. makes (label_made n)) o (faults rank_name) ≡ makes m → is_canonical (model.bare m) ≡ true
label_is_value m None k = absurd (cc)
label_is_value m (Some n) k = let same : label_made n ≡ m = cc in subst (λ v. is_canonical (model.bare v) ≡ true) same refl

value_case : (b : Bool) (ms : List Made) (m : Made) → cond b (ranked ms) (labelled ms) ≡ makes m → is_canonical (model.bare m) ≡ true
value_case true ms m k = rank_is_value m (number_read ms) k
value_case false ms m k = label_is_value m (number_kept ms) k

pub rank_values : MakeValues rank_calls
rank_values f ms m k = value_case (name_eq f rank_name) ms m k
