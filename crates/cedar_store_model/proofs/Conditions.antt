-- What the condition of a policy says of its parts.
use Rattle.std.proofs.Common.{◌≡◌, ◌↔◌, Bool, true, false, ◌&&◌, refl, sym, ap, ◌∙◌}
use Rattle.std.specs.Prelude.{Option, Some, None}
use Rattle.std.specs.Bool.{Decides}
use Rattle.cedar_expr_model.specs.Value.{V, prim, truth, truth_value}
use Rattle.cedar_expr_model.specs.Tree.{Tree}
use Rattle.cedar_expr_model.specs.Builder.{conjunction}
use Rattle.cedar_expr_model.proofs.Lists.{both_hold, hold_both}
use Rattle.cedar_store_model.specs.Outcome.{Res, val, err, Fault, Is, bind}
use Rattle.cedar_store_model.specs.World.{World}
use Rattle.cedar_store_model.specs.Operators.{says}
use Rattle.cedar_store_model.specs.Meaning.{Means, picked, truth_asked, outcome_of}
use Rattle.cedar_store_model.specs.OfLaws.Extends.{Extends}
use Rattle.cedar_store_model.specs.Policy.{Policy, action_tree, body_tree, condition}
use Rattle.cedar_store_model.specs.Answer.{with_slots, PolicyMeans, policy_outcome, IsSatisfied, is_true, satisfied}
use Rattle.cedar_store_model.specs.AnswerLaws.{Holds}
use Rattle.cedar_store_model.proofs.Agree.{Agree, agree_is, agree_then}
use Rattle.cedar_store_model.proofs.Meaning.{agree, means_outcome, outcome_means}
use Rattle.cedar_store_model.proofs.Extends.{more_keeps}
use Rattle.cedar_store_model.proofs.Built.{conjunction_outcome}
use Rattle.cedar_store_model.proofs.Named.{principal_tree, resource_tree}

-- a truth value is asked for
abbrev asked : Option (Res V) → Option (Res V)
asked o = bind o (λ v. Some (truth_asked v))

asked_twice : (o : Option (Res V)) → asked (asked o) ≡ asked o
asked_twice None = refl
asked_twice (Some (err f)) = refl
asked_twice (Some (val (prim (truth b)))) = refl
asked_twice (Some (val v)) = refl

asked_both : (l r : Option (Res V)) → asked (bind l (picked (asked r) (Some (says false)))) ≡ bind l (picked (asked r) (Some (says false)))
asked_both None r = refl
asked_both (Some (err f)) r = refl
asked_both (Some (val (prim (truth true)))) r = asked_twice r
asked_both (Some (val (prim (truth false)))) r = refl
asked_both (Some (val v)) r = refl

-- the condition's outcome is a truth value or an error
pub condition_asked : (w : World) (p : Policy) → policy_outcome w p ≡ outcome_of (with_slots w p.bindings) (condition p)
condition_asked w p =
    let u = with_slots w p.bindings in
    let a = principal_tree p in
    let b = conjunction (action_tree p.action) (conjunction (resource_tree p) (body_tree p.body)) in
    ap asked (conjunction_outcome u a b) ∙ asked_both (outcome_of u a) (outcome_of u b) ∙ sym (conjunction_outcome u a b)

agree_policy : (w : World) (p : Policy) → Agree (PolicyMeans w p) (policy_outcome w p)
agree_policy w p =
    let u = with_slots w p.bindings in
    agree_then (Means u (condition p)) (λ v. Is (truth_asked v)) (outcome_of u (condition p)) (λ v. Some (truth_asked v)) (agree u (condition p)) (λ v. agree_is (truth_asked v))

pub policy_meaning_is_a_function : (w : World) (p : Policy) (r : Res V) → PolicyMeans w p r ↔ (policy_outcome w p ≡ Some r)
policy_meaning_is_a_function w p r = ((agree_policy w p).only r, (agree_policy w p).gives r)

pub policies_mean_truth : (w : World) (p : Policy) (r : Res V) → PolicyMeans w p r ↔ Means (with_slots w p.bindings) (condition p) r
policies_mean_truth w p r = (
  λ m. outcome_means (with_slots w p.bindings) (condition p) r (sym (condition_asked w p) ∙ (agree_policy w p).only r m),
  λ m. (agree_policy w p).gives r (condition_asked w p ∙ means_outcome (with_slots w p.bindings) (condition p) r m),
)

pub error_outcome : (w : World) (p : Policy) (f : Fault) → Means (with_slots w p.bindings) (condition p) (err f) → policy_outcome w p ≡ Some (err f)
error_outcome w p f m = condition_asked w p ∙ means_outcome (with_slots w p.bindings) (condition p) (err f) m

pub outcome_error : (w : World) (p : Policy) (f : Fault) → policy_outcome w p ≡ Some (err f) → Means (with_slots w p.bindings) (condition p) (err f)
outcome_error w p f e = outcome_means (with_slots w p.bindings) (condition p) (err f) (sym (condition_asked w p) ∙ e)

-- an outcome is true exactly where the test says so
pub true_outcome : (o : Option (Res V)) → is_true o ≡ true → o ≡ Some (val (truth_value true))
true_outcome (Some (val (prim (truth b)))) h = ap (λ (t : Bool). Some (val (truth_value t))) h
true_outcome o h = cc

-- the test beside `Holds`
abbrev pub holds_in : World → Tree → Bool
holds_in w t = is_true (outcome_of w t)

pub holds-Decides : (w : World) (t : Tree) → Decides (holds_in w t) (Holds w t)
holds-Decides w t = (λ h. outcome_means w t _ (true_outcome (outcome_of w t) h), λ h. ap is_true (means_outcome w t _ h))

pub satisfied_holds : (w : World) (p : Policy) → satisfied w p ≡ holds_in (with_slots w p.bindings) (condition p)
satisfied_holds w p = ap is_true (condition_asked w p)

pub satisfied-Decides : (w : World) (p : Policy) → Decides (satisfied w p) (IsSatisfied w p)
satisfied-Decides w p =
    let d = holds-Decides (with_slots w p.bindings) (condition p) in
    (λ h. d.0 (sym (satisfied_holds w p) ∙ h), λ h. satisfied_holds w p ∙ d.1 h)

asked_true : (r : Option (Res V)) → is_true (asked r) ≡ is_true r
asked_true (Some (val (prim (truth b)))) = refl
asked_true o = refl

-- a conjunction is true where both sides are
both_true : (l r : Option (Res V)) → is_true (bind l (picked (asked r) (Some (says false)))) ≡ (is_true l && is_true r)
both_true None r = refl
both_true (Some (err f)) r = refl
both_true (Some (val (prim (truth true)))) r = asked_true r
both_true (Some (val (prim (truth false)))) r = refl
both_true (Some (val v)) r = refl

pub conjunction_true : (w : World) (a b : Tree) → holds_in w (conjunction a b) ≡ (holds_in w a && holds_in w b)
conjunction_true w a b = ap is_true (conjunction_outcome w a b) ∙ both_true (outcome_of w a) (outcome_of w b)

pub conjunction-Decides : (w : World) (a b : Tree) (A B : Type 0) → Decides (holds_in w a) A → Decides (holds_in w b) B → Decides (holds_in w (conjunction a b)) (A × B)
conjunction-Decides w a b A B d e = (
  λ h. let k = both_hold (holds_in w a) (holds_in w b) (sym (conjunction_true w a b) ∙ h) in (d.0 k.0, e.0 k.1),
  λ h. conjunction_true w a b ∙ hold_both (holds_in w a) (holds_in w b) (d.1 h.0) (e.1 h.1),
)

pub parts-Decides : (w : World) (p : Policy) (A B C D : Type 0) → let u = with_slots w p.bindings in
    Decides (holds_in u (principal_tree p)) A → Decides (holds_in u (action_tree p.action)) B → Decides (holds_in u (resource_tree p)) C → Decides (holds_in u (body_tree p.body)) D → IsSatisfied w p ↔ (A × B × C × D)
parts-Decides w p A B C D da db dc dd =
    let u = with_slots w p.bindings in
    let rest = conjunction-Decides u (resource_tree p) (body_tree p.body) C D dc dd in
    let more = conjunction-Decides u (action_tree p.action) (conjunction (resource_tree p) (body_tree p.body)) B (C × D) db rest in
    let all = conjunction-Decides u (principal_tree p) (conjunction (action_tree p.action) (conjunction (resource_tree p) (body_tree p.body))) A (B × (C × D)) da more in
    let h = holds-Decides u (condition p) in
    (λ s. let k = all.0 (h.1 s) in (k.0, k.1.0, k.1.1.0, k.1.1.1), λ k. h.0 (all.1 (k.0, (k.1, (k.2, k.3)))))

pub satisfied_by_parts : (w : World) (p : Policy) → let u = with_slots w p.bindings in
    IsSatisfied w p ↔ (Holds u (principal_tree p) × Holds u (action_tree p.action) × Holds u (resource_tree p) × Holds u (body_tree p.body))
satisfied_by_parts w p =
    let u = with_slots w p.bindings in
    parts-Decides w p _ _ _ _ (holds-Decides u (principal_tree p)) (holds-Decides u (action_tree p.action)) (holds-Decides u (resource_tree p)) (holds-Decides u (body_tree p.body))

-- the slots of a policy stay bound as they are where more is known
pub slots_extend : (k w : World) → Extends k w → (p : Policy) → Extends (with_slots k p.bindings) (with_slots w p.bindings)
slots_extend k w h p = record {
  principal = h.principal;
  action = h.action;
  resource = h.resource;
  context = h.context;
  slots = λ s. refl;
  unknowns = h.unknowns;
  table = h.table;
  store = h.store;
}

pub satisfaction_is_kept : (k w : World) → Extends k w → (p : Policy) → IsSatisfied k p → IsSatisfied w p
satisfaction_is_kept k w h p s = more_keeps (with_slots k p.bindings) (with_slots w p.bindings) (slots_extend k w h p) (condition p) _ s
