-- What comes to an answer is that answer, and the table of the two functions answers as they do.
use Rattle.std.proofs.Common.{◌≡◌, true, List, [], ◌∷◌, map, Result, Ok, Err, IfOk, refl, sym, ap, ◌∙◌, subst, cond}
use Rattle.std.specs.Prelude.{IsPermutation}
use Rattle.std.specs.Borrow.{Bor}
use Rattle.std.specs.declared.alloc.Global.{Global}
use Rattle.std.proofs.lemmas.List.{append-nil}
use Rattle.std.proofs.lemmas.List.Sorted.{Contains-permutation, IsPermutation-sym}
use Rattle.cedar_expr_model.specs.Made.{Made}
use Rattle.cedar_expr_model.specs.Table.{Signature, Table, all_typed}
use Rattle.cedar_expr_model.proofs.Equality.{name_eq_same}
use Rattle.cedar_expr_model.proofs.Lists.{contains_cases, contains_none}
use Rattle.cedar_expr_values.specs.declared.value.Value.{Value}
use Rattle.cedar_expr_values.specs.declared.extension.ExtValue.{ExtValue}
use Rattle.cedar_expr_functions.specs.Extended.{functions_in, ordered_in}
use Rattle.cedar_expr_functions.specs.Functions.{function_name, function_signature, AnswersBy}
use Rattle.cedar_expr_functions.specs.Named.{all_functions, all_signatures, all_ordered}
use Rattle.cedar_expr_functions.specs.Tables.{table_of, functions_of, ordered_of, stored_in}
use Rattle.cedar_expr_functions.specs.declared.extension.Extension.{Extension}
use Rattle.cedar_expr_functions.specs.declared.extension.ExtensionFunction.{ExtensionFunction}
use Rattle.cedar_expr_functions.specs.declared.extensions.Extensions.{Extensions}
use Rattle.cedar_expr_functions.specs.declared.extension.ExtensionOutputValue.{ExtensionOutputValue}
use Rattle.cedar_expr_functions.specs.declared.extension.ExtensionOutputValue.TheVariants.{Known, Unknown}
use Rattle.cedar_expr_functions.specs.declared.err.CallFault.{CallFault}
use Rattle.cedar_expr_functions.specs.declared.err.CallFault.TheVariants.{OutOfMemory, WrongNumArguments, ArgumentType, Fault}
use Rattle.cedar_evaluator_model.specs.Scope.{MadeCalled}
use Rattle.cedar_evaluator_errors.specs.Answers.{IsAnswer, IsMadeBy, AnswersMade}
use Rattle.cedargate_functions.specs.Ranks.{rank_name, label_name, ranked, labelled, rank_calls, rank_answers}
use Rattle.cedargate_functions.specs.Outcomes.{ComesTo, made_values}
use Rattle.cedargate_functions.specs.Tables.{rank_signature, label_signature, HoldsRanks}
use Rattle.cedargate_functions.proofs.Ranked.{ranks_answer_fairly, rank_values}
use Rattle.cedargate_functions.specs.Stored.{AreRankFunctions}

made_answer : (c : MadeCalled) (r : Result ExtensionOutputValue CallFault) → ComesTo c r → IsAnswer c r
made_answer c (Ok (Known v)) h = h
made_answer c (Ok (Unknown u)) h = absurd h
made_answer c (Err OutOfMemory) h = tt
made_answer c (Err (WrongNumArguments f m n)) h = absurd h
made_answer c (Err (ArgumentType a b)) h = absurd h
made_answer c (Err (Fault e m a)) h = h.0

calls_rank : (ms : List Made) → ranked ms ≡ rank_calls rank_name ms
calls_rank ms = sym (ap (λ b. cond b (ranked ms) (labelled ms)) (name_eq_same rank_name))

-- A function that answers by what comes to these answers makes them.
module _ {B : _} {F : _} {g : _} (f : ExtensionFunction B F g) (post : Global → Bor (List (Value ExtValue)) → Result ExtensionOutputValue CallFault → Type 0) (by : AnswersBy post f) where
  made_by : (answers : List Made → MadeCalled) → ((a : Global) (xs : Bor (List (Value ExtValue))) (r : Result ExtensionOutputValue CallFault) → post a xs r → ComesTo (answers (made_values xs.now)) r) → IsMadeBy f answers
  made_by answers comes = record { agreeing = λ a xs r t h. made_answer (answers (made_values xs.now)) r (comes a xs r (by a xs r h)) }

  pub rank_made_by : ((a : Global) (xs : Bor (List (Value ExtValue))) (r : Result ExtensionOutputValue CallFault) → post a xs r → ComesTo (ranked (made_values xs.now)) r) → IsMadeBy f (rank_calls rank_name)
  rank_made_by comes = made_by (rank_calls rank_name) (λ a xs r h. subst (λ c. ComesTo c r) (calls_rank (made_values xs.now)) (comes a xs r h))

  pub label_made_by : ((a : Global) (xs : Bor (List (Value ExtValue))) (r : Result ExtensionOutputValue CallFault) → post a xs r → ComesTo (labelled (made_values xs.now)) r) → IsMadeBy f (rank_calls label_name)
  label_made_by comes = made_by (rank_calls label_name) comes

-- the two functions in a row
pub two_functions : {B : _} {F : _} {g : _} (r l : ExtensionFunction B F g) → function_signature r ≡ rank_signature → function_signature l ≡ label_signature → IsMadeBy r (rank_calls rank_name) → IsMadeBy l (rank_calls label_name) → AreRankFunctions (r ∷ l ∷ [])
two_functions {B} {F} {g} r l e k h i = record {
  signatures = ap (λ s. s ∷ function_signature l ∷ []) e ∙ ap (λ s. rank_signature ∷ s ∷ []) k;
  made = λ f m.
      contains_cases (IsMadeBy f (rank_calls (function_name f))) r (l ∷ []) f m
      (λ q. subst (λ (x : ExtensionFunction B F g). IsMadeBy x (rank_calls (function_name x))) q (subst (λ n. IsMadeBy r (rank_calls n)) (sym (ap (λ (s : Signature). s.name) e)) h))
      (λ n. contains_cases (IsMadeBy f (rank_calls (function_name f))) l [] f n
      (λ q. subst (λ (x : ExtensionFunction B F g). IsMadeBy x (rank_calls (function_name x))) q (subst (λ n. IsMadeBy l (rank_calls n)) (sym (ap (λ (s : Signature). s.name) k)) i))
      (λ o. absurd (contains_none f o)));
}

-- The table of an extension of the two answers as they do, and holds them.
module _ {B : _} {F : _} {g : _} (e : Extension B F g) (t : Extensions B F g) (are : AreRankFunctions (functions_in e)) where
  pub table_made : IsPermutation (all_functions (e ∷ [])) (stored_in t) → AnswersMade t rank_calls
  table_made p =
      let here = subst (λ fs. IsPermutation fs (stored_in t)) (append-nil (functions_in e)) p in
      record { values = rank_values; each = λ f k. are.made f (Contains-permutation (stored_in t) (functions_in e) f (IsPermutation-sym (functions_in e) (stored_in t) here) k) }

  pub table_holds : ordered_in e ≡ rank_name ∷ [] → IsPermutation (all_signatures (e ∷ [])) (functions_of t) → ordered_of t ≡ all_ordered (e ∷ []) → HoldsRanks (table_of t rank_answers)
  table_holds o p q = record {
    functions = subst (λ ss. IsPermutation ss (functions_of t)) (ap (map function_signature) (append-nil (functions_in e)) ∙ are.signatures) p;
    ordered = q ∙ (append-nil (ordered_in e) ∙ o);
    answers = λ f vs. refl;
  }

-- The table that holds them has only functions with result types.
pub table_typed : (x : Table) → HoldsRanks x → all_typed x ≡ true
table_typed x h = (ranks_answer_fairly x h).typed

-- A function that `unary` gives answers as `rank`, or `label`, does, if it gives one.
module _ {B : _} {F : _} {g : _} {E : Type 0} (post : Global → Bor (List (Value ExtValue)) → Result ExtensionOutputValue CallFault → Type 0) where
  pub rank_if_made : (r : Result (ExtensionFunction B F g) E) → ((a : Global) (xs : Bor (List (Value ExtValue))) (r : Result ExtensionOutputValue CallFault) → post a xs r → ComesTo (ranked (made_values xs.now)) r) → IfOk r (AnswersBy post) → IfOk r (λ f. IsMadeBy f (rank_calls rank_name))
  rank_if_made (Ok f) comes h = rank_made_by f post h comes
  rank_if_made (Err e) comes h = tt

  pub label_if_made : (r : Result (ExtensionFunction B F g) E) → ((a : Global) (xs : Bor (List (Value ExtValue))) (r : Result ExtensionOutputValue CallFault) → post a xs r → ComesTo (labelled (made_values xs.now)) r) → IfOk r (AnswersBy post) → IfOk r (λ f. IsMadeBy f (rank_calls label_name))
  label_if_made (Ok f) comes h = label_made_by f post h comes
  label_if_made (Err e) comes h = tt
