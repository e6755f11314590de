-- Where nothing is unknown and everything is loaded, the answer that evaluations leave is the answer.
use Rattle.std.proofs.Common.{◌≡◌, ◌∙◌, ℕ, List, [], ◌∷◌, ◌++◌, refl, sym}
use Rattle.std.specs.Prelude.{Option, Some, None, map, All}
use Rattle.std.specs.List.{filter_map, cons_option}
use Rattle.cedar_expr_model.specs.Value.{truth, long, text, entity}
use Rattle.cedar_expr_model.specs.Tree.{Tree}
use Rattle.cedar_expr_model.specs.Made.{Made, made_prim, made_set, made_record, made_extension}
use Rattle.cedar_store_model.specs.Policy.{Policy, Effect, permit, forbid, binding_of}
use Rattle.cedar_store_model.specs.Answer.{answer_of, decided, ids}
use Rattle.cedar_evaluator_model.specs.Evaluation.{evaluated}
use Rattle.cedar_evaluator_model.specs.Known.{known_world}
use Rattle.cedar_evaluator_model.specs.Laws.{IsBound, WithinLimit, as_concrete}
use Rattle.cedar_evaluator_model.specs.Members.{of_residual, if_none, satisfied_permits, satisfied_forbids, nontrivial_residuals, without_value, concretize}
use Rattle.cedar_evaluator_model.specs.OfLaws.Calls.{Agrees}
use Rattle.cedar_evaluator_model.specs.OfLaws.Whole.{NothingUnknown, AllLoaded}
use Rattle.cedar_evaluator_model.specs.Response.{Noted, verdict, of_effect, if_residual, if_stopped, group, slots_bound, with_bindings, response_of}
use Rattle.cedar_evaluator_model.specs.Scope.{Scope, Left, value_left, residual, stopped}
use Rattle.cedar_evaluator_model.specs.Steps.{on_value, truth_wanted}
use Rattle.cedar_evaluator_model.proofs.Limits.{none_met}
use Rattle.cedar_evaluator_model.proofs.Responses.{answers, no_residuals}
use Rattle.cedar_store_model.specs.Policy.{condition}
use Rattle.cedar_gate_sessions.specs.Answers.{if_erring, errors_left, answered}

-- what is empty in front, or was made of nothing, is empty
first_none : {A : Type 0} (xs ys : List A) → xs ++ ys ≡ [] → xs ≡ []
first_none [] ys e = refl
first_none (x ∷ xs) ys e = cc

second_none : {A : Type 0} (xs ys : List A) → xs ++ ys ≡ [] → ys ≡ []
second_none [] ys e = e
second_none (x ∷ xs) ys e = cc

map_none : {A B : Type 0} (f : A → B) (xs : List A) → map f xs ≡ [] → xs ≡ []
map_none f [] e = refl
map_none f (x ∷ xs) e = cc

taken_none : {A : Type 0} (o : Option A) (xs : List A) → cons_option o xs ≡ [] → (o ≡ None) × (xs ≡ [])
taken_none None xs e = (refl, e)
taken_none (Some x) xs e = cc

-- a policy that isn't residual errs as its verdict tells
error_of_value : (p : Policy) (m : Made) → if_erring p (truth_wanted m) ≡ if_stopped p (truth_wanted m)
error_of_value p (made_prim (truth b)) = refl
error_of_value p (made_prim (long n)) = refl
error_of_value p (made_prim (text t)) = refl
error_of_value p (made_prim (entity u)) = refl
error_of_value p (made_set ms) = refl
error_of_value p (made_record fs) = refl
error_of_value p (made_extension n k g ps) = refl

not_residual : {P : Type 0} (e : Effect) (n : Noted × Tree) → of_effect permit e (Some n) ≡ None → of_effect forbid e (Some n) ≡ None → P
not_residual permit n a b = cc
not_residual forbid n a b = cc

error_alike : (p : Policy) (f : Tree → Tree) (l : Left) → of_effect permit p.effect (if_residual p (on_value l truth_wanted (λ r. residual (f r)))) ≡ None → of_effect forbid p.effect (if_residual p (on_value l truth_wanted (λ r. residual (f r)))) ≡ None
    → if_erring p (on_value l truth_wanted residual) ≡ if_stopped p (on_value l truth_wanted (λ r. residual (f r)))
error_alike p f (value_left m) a b = error_of_value p m
error_alike p f (residual r) a b = not_residual p.effect _ a b
error_alike p f (stopped s) a b = refl

module _ (s : Scope) (n : ℕ) where
  errors_alike : (ps : List Policy) → group permit (λ p. if_residual p (verdict s n p)) ps ≡ [] → group forbid (λ p. if_residual p (verdict s n p)) ps ≡ [] → errors_left s n ps ≡ filter_map (λ p. if_stopped p (verdict s n p)) ps
  errors_alike [] a b = refl
  errors_alike (p ∷ ps) a b =
      let x = taken_none (of_effect permit p.effect (if_residual p (verdict s n p))) (group permit (λ q. if_residual q (verdict s n q)) ps) a in
      let y = taken_none (of_effect forbid p.effect (if_residual p (verdict s n p))) (group forbid (λ q. if_residual q (verdict s n q)) ps) b in
      let here = error_alike p (slots_bound (binding_of p.bindings)) (evaluated (with_bindings s p.bindings) n (condition p)) x.0 y.0 in
      let rest = errors_alike ps x.1 y.1 in
      λ i. cons_option (here i) (rest i)

  pub answered_is : Agrees s → NothingUnknown s → AllLoaded s → (ps : List Policy) → All (WithinLimit s n) ps → answered s n ps ≡ as_concrete (answer_of (known_world s) ps)
  answered_is agrees known loaded ps within =
      let r = response_of s n ps in
      let bound : All (IsBound s) ps = λ k d l. (within k d l).0 in
      let none : nontrivial_residuals r ≡ [] = no_residuals s agrees known loaded n ps bound in
      let permits : r.residual_permits ≡ [] = map_none _ r.residual_permits (first_none (of_residual permit r.residual_permits) (of_residual forbid r.residual_forbids) none) in
      let forbids : r.residual_forbids ≡ [] = map_none _ r.residual_forbids (second_none (of_residual permit r.residual_permits) (of_residual forbid r.residual_forbids) none) in
      let errors = errors_alike ps permits forbids ∙ (λ i. map without_value (sym forbids i ++ sym permits i) ++ r.errors) in
      let same : answered s n ps ≡ concretize r =
      λ i. record {
        decision = decided r.true_permits r.true_forbids;
        reasons = ids (if_none r.true_forbids (if_none (sym forbids i) (satisfied_permits r) (satisfied_forbids r)) (satisfied_forbids r));
        errors = errors i;
      } in
      same ∙ answers s agrees known loaded n ps bound (none_met s agrees known n ps within)
