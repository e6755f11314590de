-- Responses in which no policy met the limit.
use Rattle.std.proofs.Common.{◌≡◌, ℕ, false, List, [], ◌∷◌, Contains, refl, ap, subst}
use Rattle.std.specs.Prelude.{All}
use Rattle.std.specs.List.{filter_map, cons_option, list_any}
use Rattle.std.proofs.lemmas.List.Elements.{All-head, All-tail}
use Rattle.cedar_expr_model.specs.Value.{truth}
use Rattle.cedar_expr_model.specs.Tree.{Tree}
use Rattle.cedar_expr_model.specs.Made.{made_prim}
use Rattle.cedar_expr_model.proofs.Lists.{contains_cases, contains_none}
use Rattle.cedar_store_model.specs.Policy.{Policy, binding_of, condition}
use Rattle.cedar_evaluator_model.specs.Scope.{Scope, fault, limit, Left, value_left, residual, stopped}
use Rattle.cedar_evaluator_model.specs.OfLaws.Calls.{Agrees}
use Rattle.cedar_evaluator_model.specs.Steps.{on_value, truth_wanted}
use Rattle.cedar_evaluator_model.specs.Evaluation.{evaluated}
use Rattle.cedar_evaluator_model.specs.OfLaws.Whole.{NothingUnknown}
use Rattle.cedar_evaluator_model.specs.OfLaws.Standing.{NoLimit}
use Rattle.cedar_evaluator_model.specs.Response.{ResponseError, with_bindings, slots_bound, verdict, if_stopped, response_of}
use Rattle.cedar_evaluator_model.specs.Members.{is_limit, met_limit}
use Rattle.cedar_evaluator_model.specs.Laws.{WithinLimit}
use Rattle.cedar_evaluator_model.proofs.NoLimits.{no_limit}

-- no policy of a list met the limit
limit_case : (l : Left) (p : Policy) (es : List ResponseError) → list_any (λ e. is_limit e.cause) (cons_option (if_stopped p l) es) ≡ false → (l ≡ stopped limit → ⊥) × (list_any (λ e. is_limit e.cause) es ≡ false)
limit_case (value_left m) p es h = (λ e. cc, h)
limit_case (residual r) p es h = (λ e. cc, h)
limit_case (stopped (fault f)) p es h = (λ e. cc, h)
limit_case (stopped limit) p es h = cc

pub not_met : (s : Scope) (n : ℕ) (ps : List Policy) → met_limit (response_of s n ps) ≡ false → (p : Policy) → Contains ps p → verdict s n p ≡ stopped limit → ⊥
not_met s n [] h p c = absurd (contains_none p c)
not_met s n (q ∷ ps) h p c =
    let k = limit_case (verdict s n q) q (filter_map (λ p. if_stopped p (verdict s n p)) ps) h in
    contains_cases (verdict s n p ≡ stopped limit → ⊥) q ps p c (λ e. subst (λ x. verdict s n x ≡ stopped limit → ⊥) e k.0) (λ d. not_met s n ps k.1 p d)

-- the condition doesn't meet the limit where the verdict doesn't
pub no_limit_within : (s : Scope) (n : ℕ) (p : Policy) → (verdict s n p ≡ stopped limit → ⊥) → NoLimit (with_bindings s p.bindings) n (condition p)
no_limit_within s n p h e = h (ap (λ l. on_value l truth_wanted (λ r. residual (slots_bound (binding_of p.bindings) r))) e)

-- the verdict doesn't meet the limit where the condition doesn't
verdict_limit : (bound : Tree → Tree) (l : Left) → (l ≡ stopped limit → ⊥) → on_value l truth_wanted (λ r. residual (bound r)) ≡ stopped limit → ⊥
verdict_limit bound (value_left (made_prim (truth b))) h e = cc
verdict_limit bound (value_left m) h e = cc
verdict_limit bound (residual r) h e = cc
verdict_limit bound (stopped x) h e = h e

unmet_case : (l : Left) (p : Policy) (es : List ResponseError) → (l ≡ stopped limit → ⊥) → list_any (λ e. is_limit e.cause) es ≡ false → list_any (λ e. is_limit e.cause) (cons_option (if_stopped p l) es) ≡ false
unmet_case (value_left m) p es h k = k
unmet_case (residual r) p es h k = k
unmet_case (stopped (fault f)) p es h k = k
unmet_case (stopped limit) p es h k = absurd (h refl)

-- where nothing is unknown no policy within the limit meets it
pub none_met : (s : Scope) → Agrees s → NothingUnknown s → (n : ℕ) (ps : List Policy) → All (WithinLimit s n) ps → met_limit (response_of s n ps) ≡ false
none_met s agrees k n [] h = refl
none_met s agrees k n (p ∷ ps) h =
    let t = with_bindings s p.bindings in
    let known : NothingUnknown t = record { principal = k.principal; action = k.action; resource = k.resource; context = k.context; store = k.store; calls = k.calls } in
    let x = All-head (WithinLimit s n) p ps h in
    unmet_case (verdict s n p) p (filter_map (λ p. if_stopped p (verdict s n p)) ps) (verdict_limit (slots_bound (binding_of p.bindings)) (evaluated t n (condition p)) (no_limit t agrees known n (condition p) x.0 x.1)) (none_met s agrees k n ps (All-tail (WithinLimit s n) p ps h))
