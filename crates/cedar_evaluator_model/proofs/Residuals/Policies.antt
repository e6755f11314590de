-- What a policy's verdict says of its satisfaction in a completion.
use Rattle.std.proofs.Common.{◌≡◌, ◌↔◌, ℕ, Bool, true, false, refl, sym, ap, ◌∙◌, subst, ◌⊎◌, inl, inr}
use Rattle.std.specs.Prelude.{Option, Some, None, IsSome}
use Rattle.std.specs.Bool.{Decides}
use Rattle.cedar_expr_model.specs.Value.{truth, V}
use Rattle.cedar_expr_model.specs.Builder.{conjunction}
use Rattle.cedar_expr_model.specs.Tree.{Tree, lit}
use Rattle.cedar_expr_model.specs.Made.{made_prim}
use Rattle.cedar_store_model.specs.Outcome.{Res, val, err}
use Rattle.cedar_store_model.specs.World.{World}
use Rattle.cedar_store_model.specs.Meaning.{outcome_of}
use Rattle.cedar_store_model.specs.Policy.{Policy, Effect, SlotBindings, binding_of, no_bindings, condition}
use Rattle.cedar_store_model.specs.Answer.{with_slots, IsSatisfied, is_true, satisfied}
use Rattle.cedar_store_model.specs.AnswerLaws.{Holds}
use Rattle.cedar_store_model.proofs.Conditions.{holds_in, holds-Decides, satisfied_holds, satisfied-Decides, conjunction_true}
use Rattle.cedar_store_model.proofs.Known.{there}
use Rattle.cedar_evaluator_model.specs.Scope.{Scope, fault, limit, Left, value_left, residual, stopped}
use Rattle.cedar_evaluator_model.specs.OfLaws.Calls.{Agrees}
use Rattle.cedar_evaluator_model.specs.Steps.{truth_left, on_value, truth_wanted}
use Rattle.cedar_evaluator_model.specs.Evaluation.{evaluated}
use Rattle.cedar_evaluator_model.specs.OfLaws.WellMade.{AllMadeWell}
use Rattle.cedar_evaluator_model.specs.Completion.{FitsAnnotations}
use Rattle.cedar_evaluator_model.specs.OfLaws.Completing.{Completes}
use Rattle.cedar_evaluator_model.specs.Response.{Noted, slots_bound, with_bindings, verdict, noted}
use Rattle.cedar_evaluator_model.specs.Members.{left_policy}
use Rattle.cedar_evaluator_model.specs.ResponseLaws.{Says}
use Rattle.cedar_evaluator_model.proofs.Named.{FitsIn, fits_in, fits_annotations}
use Rattle.cedar_evaluator_model.proofs.Residuals.Stands.{Alike, IsNoValue, Stands, each_conjunction}
use Rattle.cedar_evaluator_model.proofs.Residuals.Node.{evaluated_stands}
use Rattle.cedar_evaluator_model.proofs.Residuals.Slots.{slots_bound_outcome, slots_bound_fits}
use Rattle.cedar_evaluator_model.proofs.Residuals.Completing.{completes_at, well_at}

-- Whether a policy of this outcome is satisfied, by its verdict.
abbrev pub Told : World → Bool → Left → Type 0
Told w b (value_left (made_prim (truth c))) = b ≡ c
Told w b (value_left m) = b ≡ false
Told w b (residual r) = (b ≡ holds_in (with_slots w no_bindings) r) × FitsIn w r
Told w b (stopped (fault f)) = b ≡ false
Told w b (stopped limit) = Unit {0}

told_alike : (o p : Option (Res V)) → IsSome o → Alike o p → is_true o ≡ is_true p
told_alike None p h a = cc
told_alike (Some (val v)) p h a = ap is_true (sym a)
told_alike (Some (err f)) p h a = ap is_true (sym a.1)

told_none : (o : Option (Res V)) → IsNoValue o → is_true o ≡ false
told_none None h = refl
told_none (Some (val v)) h = absurd h
told_none (Some (err f)) h = refl

told : (w : World) (b : SlotBindings) (o : Option (Res V)) → IsSome o → (l : Left) → Stands (with_slots w b) o l
    → Told w (is_true o) (on_value l truth_wanted (λ r. residual (slots_bound (binding_of b) r)))
told w b None h l k = cc
told w b (Some r) h (value_left (made_prim (truth c))) k = ap is_true (sym k.0)
told w b (Some r) h (value_left m) k = ap is_true (sym k.0)
told w b (Some q) h (residual r) k = (told_alike (Some q) (outcome_of (with_slots w b) r) h k.0 ∙ ap is_true (slots_bound_outcome w b r), slots_bound_fits _ (binding_of b) r k.1)
told w b (Some r) h (stopped (fault f)) k = told_none (Some r) k
told w b (Some r) h (stopped limit) k = tt

pub verdict_told : (w : World) (s : Scope) → Agrees s → Completes w s → AllMadeWell s → (n : ℕ) (p : Policy) → FitsAnnotations w (condition p) → Told w (satisfied w p) (verdict s n p)
verdict_told w s agrees complete well n p f =
    let u = with_slots w p.bindings in
    let c = completes_at w (binding_of p.bindings) s complete in
    let e = evaluated_stands u (with_bindings s p.bindings) agrees c (well_at s (binding_of p.bindings) well) n (condition p) (fits_in w (condition p) f) in
    subst (λ b. Told w b (verdict s n p)) (sym (satisfied_holds w p))
    (told w p.bindings (outcome_of u (condition p)) (there u c.whole (condition p)) (evaluated (with_bindings s p.bindings) n (condition p)) e)

-- as the law says it
not_satisfied : (w : World) (p : Policy) → satisfied w p ≡ false → IsSatisfied w p → ⊥
not_satisfied w p e h = let t = (satisfied-Decides w p).1 h in cc

pub both_ways : (a b : Bool) (A B : Type 0) → Decides a A → Decides b B → a ≡ b → A ↔ B
both_ways a b A B d e h = (λ x. e.0 (sym h ∙ d.1 x), λ y. d.0 (h ∙ e.1 y))

says : (w : World) (p : Policy) (l : Left) → Told w (satisfied w p) l → Says w p l
says w p (value_left (made_prim (truth true))) h = (satisfied-Decides w p).0 h
says w p (value_left m) h = not_satisfied w p h
says w p (residual r) h =
    both_ways (satisfied w p) (holds_in (with_slots w no_bindings) r) (IsSatisfied w p) (Holds (with_slots w no_bindings) r) (satisfied-Decides w p)
    (holds-Decides (with_slots w no_bindings) r) h.0
says w p (stopped (fault f)) h = not_satisfied w p h
says w p (stopped limit) h = tt

pub verdicts_hold : (s : Scope) → Agrees s → AllMadeWell s → (n : ℕ) (p : Policy) (w : World) → Completes w s → FitsAnnotations w (condition p) → Says w p (verdict s n p)
verdicts_hold s agrees well n p w complete f = says w p (verdict s n p) (verdict_told w s agrees complete well n p f)

-- the policy that is left of one with this verdict
abbrev pub tree_left : Left → Tree
tree_left (value_left (made_prim (truth b))) = lit (truth b)
tree_left (residual r) = r
tree_left l = lit (truth false)

abbrev pub policy_left : Policy → Left → Policy
policy_left p l = left_policy p.effect (noted p) (tree_left l)

left_satisfied : (w : World) (e : Effect) (n : Noted) (t : Tree) → satisfied w (left_policy e n t) ≡ holds_in (with_slots w no_bindings) t
left_satisfied w e n t =
    let u = with_slots w no_bindings in
    let one = lit (truth true) in
    satisfied_holds w (left_policy e n t) ∙ conjunction_true u one (conjunction one (conjunction one t)) ∙ conjunction_true u one (conjunction one t) ∙ conjunction_true u one t

-- where it isn't the limit, what is left is satisfied exactly where the policy is
told_left : (w : World) (b : Bool) (l : Left) → (l ≡ stopped limit → ⊥) → Told w b l → b ≡ holds_in (with_slots w no_bindings) (tree_left l)
told_left w b (value_left (made_prim (truth c))) k h = h
told_left w b (value_left m) k h = h
told_left w b (residual r) k h = h.0
told_left w b (stopped (fault f)) k h = h
told_left w b (stopped limit) k h = absurd (k refl)

pub kept : (w : World) (p : Policy) (l : Left) → (l ≡ stopped limit → ⊥) → Told w (satisfied w p) l → satisfied w p ≡ satisfied w (policy_left p l)
kept w p l k h = told_left w (satisfied w p) l k h ∙ sym (left_satisfied w p.effect (noted p) (tree_left l))

-- its unknowns fit
tree_left_fits : (w : World) (b : Bool) (l : Left) → Told w b l → FitsIn w (tree_left l)
tree_left_fits w b (value_left (made_prim (truth c))) h = tt
tree_left_fits w b (value_left m) h = tt
tree_left_fits w b (residual r) h = h.1
tree_left_fits w b (stopped s) h = tt

pub left_fits : (w : World) (p : Policy) (b : Bool) (l : Left) → Told w b l → FitsAnnotations w (condition (policy_left p l))
left_fits w p b l h =
    let one = lit (truth true) in
    let t = tree_left l in
    fits_annotations w (condition (policy_left p l))
    (each_conjunction _ one (conjunction one (conjunction one t)) tt (each_conjunction _ one (conjunction one t) tt (each_conjunction _ one t tt (tree_left_fits w b l h))))

-- a satisfied policy whose verdict isn't the limit has true or a residual for its verdict
pub satisfied_verdict : (w : World) (b : Bool) (l : Left) → (l ≡ stopped limit → ⊥) → Told w b l → b ≡ true → (l ≡ truth_left true) ⊎ ((r : Tree) × (l ≡ residual r))
satisfied_verdict w b (value_left (made_prim (truth c))) k h e = let t : c ≡ true = sym h ∙ e in inl (ap truth_left t)
satisfied_verdict w b (value_left m) k h e = cc
satisfied_verdict w b (residual r) k h e = inr (r, refl)
satisfied_verdict w b (stopped (fault f)) k h e = cc
satisfied_verdict w b (stopped limit) k h e = absurd (k refl)

pub true_satisfied : (w : World) (b : Bool) (l : Left) → Told w b l → l ≡ truth_left true → b ≡ true
true_satisfied w b l h e = subst (Told w b) e h
