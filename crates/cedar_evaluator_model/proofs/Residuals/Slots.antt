-- Expressions with their slots bound, or with values in place of unknowns, mean the same; and a value without slots is one with any.
use Rattle.std.proofs.Common.{◌≡◌, refl, sym, ap, ◌∙◌, subst}
use Rattle.std.specs.Prelude.{Option, Some, None, option_map}
use Rattle.std.specs.Option.{option_map_or}
use Rattle.cedar_expr_model.specs.Name.{Text}
use Rattle.cedar_expr_model.specs.Uid.{Uid}
use Rattle.cedar_expr_model.specs.Value.{V, entity}
use Rattle.cedar_expr_model.specs.Tree.{CoreType, SlotId, principal_slot, resource_slot, Tree, lit, slot, unknown}
use Rattle.cedar_expr_model.specs.Builder.{tree_builder, built}
use Rattle.cedar_expr_model.proofs.Gathering.{EachIn}
use Rattle.cedar_expr_model.specs.Made.{Made, bare, written}
use Rattle.cedar_expr_model.specs.Substitution.{Bindings, substituted}
use Rattle.cedar_expr_model.proofs.Substituting.{bound_or}
use Rattle.cedar_store_model.specs.Outcome.{Res, val, err, bind}
use Rattle.cedar_store_model.specs.World.{World}
use Rattle.cedar_store_model.proofs.Named.{bound_value}
use Rattle.cedar_store_model.specs.Meaning.{Means, slot_value, outcome_of}
use Rattle.cedar_store_model.specs.OfLaws.Extends.{Keeps}
use Rattle.cedar_store_model.specs.Policy.{SlotBindings, binding_of, no_bindings}
use Rattle.cedar_store_model.specs.Answer.{with_slots}
use Rattle.cedar_store_model.proofs.Built.{same_built}
use Rattle.cedar_store_model.proofs.Meaning.{means_outcome, outcome_means}
use Rattle.cedar_evaluator_model.specs.OfLaws.WellMade.{IsMadeWell}
use Rattle.cedar_evaluator_model.specs.Response.{slots_bound}
use Rattle.cedar_evaluator_model.proofs.Written.{written_means, no_unknown}
use Rattle.cedar_evaluator_model.proofs.Residuals.Rebuilt.{rebuilt, each_rebuilt}

-- outcomes that are the same
same_next : (A B : Type 0) (o p : Option (Res A)) (f g : A → Option (Res B)) → o ≡ p → ((v : A) → f v ≡ g v) → bind o f ≡ bind p g
same_next A B o p f g h n = λ i. bind (h i) (λ v. n v i)

-- slots bound
slot_bound : (w : World) (x : SlotId) (o : Option Uid) → Some (slot_value o) ≡ outcome_of (with_slots w no_bindings) (option_map_or (λ u. lit (entity u)) o (slot x))
slot_bound w principal_slot None = refl
slot_bound w resource_slot None = refl
slot_bound w x (Some u) = refl

pub slots_bound_outcome : (w : World) (b : SlotBindings) (t : Tree) → outcome_of (with_slots w b) t ≡ outcome_of (with_slots w no_bindings) (slots_bound (binding_of b) t)
slots_bound_outcome w b t =
    rebuilt (λ A o p. o ≡ p) (λ A o. refl) same_next (with_slots w b) (binding_of no_bindings) (λ x. option_map_or (λ u. lit (entity u)) (binding_of b x) (slot x)) unknown (λ x. slot_bound w x (binding_of b x)) (λ n a. refl) t

slot_fits : (P : Text → Option CoreType → Type 0) (x : SlotId) (o : Option Uid) → EachIn P (option_map_or (λ u. lit (entity u)) o (slot x))
slot_fits P x None = tt
slot_fits P x (Some u) = tt

pub slots_bound_fits : (P : Text → Option CoreType → Type 0) (bound : SlotId → Option Uid) (t : Tree) → EachIn P t → EachIn P (slots_bound bound t)
slots_bound_fits P bound t h = each_rebuilt P (λ x. option_map_or (λ u. lit (entity u)) (bound x) (slot x)) unknown (λ x. slot_fits P x (bound x)) (λ n a k. k) t h

-- values in place of unknowns
value_bound : (w : World) (n : Text) (a : Option CoreType) (o : Option Made) → IsMadeWell w.table o → Keeps (option_map bare o) (w.unknowns n)
    → bound_value (w.unknowns n) ≡ outcome_of w (bound_or tree_builder n a o)
value_bound w n a None g h = refl
value_bound w n a (Some m) g h = ap bound_value h ∙ sym (same_built w (written m) ∙ means_outcome w (written m) (val (bare m)) (written_means w m g))

pub substituted_outcome : (w : World) (env : Bindings) → ((n : Text) → IsMadeWell w.table (env n)) → ((n : Text) → Keeps (option_map bare (env n)) (w.unknowns n)) → (t : Tree)
    → outcome_of w t ≡ outcome_of w (substituted env t)
substituted_outcome w env g h t =
    rebuilt (λ A o p. o ≡ p) (λ A o. refl) same_next w w.slots slot (λ n a. bound_or tree_builder n a (env n)) (λ x. refl) (λ n a. value_bound w n a (env n) (g n) (h n)) t

value_fits : (P : Text → Option CoreType → Type 0) (n : Text) (a : Option CoreType) (o : Option Made) → P n a → EachIn P (bound_or tree_builder n a o)
value_fits P n a None h = h
value_fits P n a (Some m) h = each_rebuilt P slot unknown (λ x. tt) (λ k b i. i) (written m) (no_unknown P m)

pub substituted_fits : (P : Text → Option CoreType → Type 0) (env : Bindings) (t : Tree) → EachIn P t → EachIn P (substituted env t)
substituted_fits P env t h = each_rebuilt P slot (λ n a. bound_or tree_builder n a (env n)) (λ x. tt) (λ n a k. value_fits P n a (env n) k) t h

-- where the first is a value the second is that value
abbrev IsValueOf : (A : Type 0) → Option (Res A) → Option (Res A) → Type 0
IsValueOf A None p = Unit {0}
IsValueOf A (Some (val v)) p = p ≡ Some (val v)
IsValueOf A (Some (err f)) p = Unit {0}

value_same : (A : Type 0) (o : Option (Res A)) → IsValueOf A o o
value_same A None = tt
value_same A (Some (val v)) = refl
value_same A (Some (err f)) = tt

value_next : (A B : Type 0) (o p : Option (Res A)) (f g : A → Option (Res B)) → IsValueOf A o p → ((v : A) → IsValueOf B (f v) (g v)) → IsValueOf B (bind o f) (bind p g)
value_next A B None p f g h n = tt
value_next A B (Some (val v)) p f g h n = subst (λ x. IsValueOf B (f v) (bind x g)) (sym h) (n v)
value_next A B (Some (err e)) p f g h n = tt

-- an expression that means a value where no slot is bound means it whatever slots are bound to
pub value_with_slots : (w : World) (t : Tree) (v : V) → Means (record w { slots = λ x. None }) t (val v) → (y : SlotId → Option Uid) → Means (record w { slots = y }) t (val v)
value_with_slots w t v h y =
    let k = rebuilt IsValueOf value_same value_next (record w { slots = λ x. None }) y slot unknown (λ x. tt) (λ n a. value_same V (bound_value (w.unknowns n))) t in
    let e = subst (λ o. IsValueOf V o (outcome_of (record w { slots = y }) (built tree_builder t))) (means_outcome (record w { slots = λ x. None }) t (val v) h) k in
    outcome_means (record w { slots = y }) t (val v) (sym (same_built (record w { slots = y }) t) ∙ e)
