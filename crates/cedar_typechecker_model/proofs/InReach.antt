-- What is looked up where there is no violation is in the slice, or a declared action.
use Rattle.std.proofs.Common.{◌≡◌, ◌≤◌, ◌⊎◌, cond, inl, inr, ⊎_elim, ℕ, zero, suc, Bool, true, false, List, [], ◌∷◌, ◌++◌, Option, Some, sym, subst, arith}
use Rattle.std.specs.Prelude.{Contains, if◌then◌else◌}
use Rattle.std.specs.Map.{lookup}
use Rattle.std.specs.Str.{bytes_eq}
use Rattle.std.proofs.lemmas.List.Elements.{Contains-append_left, Contains-append_right}
use Rattle.cedar_expr_model.specs.Name.{Text}
use Rattle.cedar_expr_model.specs.Uid.{Uid}
use Rattle.cedar_expr_model.specs.Table.{Table}
use Rattle.cedar_expr_model.specs.Tree.{Tree}
use Rattle.cedar_expr_model.specs.Value.{V, Fields, no_fields, field, field_of}
use Rattle.cedar_expr_model.specs.ValueParts.{Part, known}
use Rattle.cedar_expr_model.proofs.Lists.{contains_head, contains_tail}
use Rattle.cedar_store_model.specs.World.{World, Entity, Found, held}
use Rattle.cedar_store_model.specs.Looks.{Looks}
use Rattle.cedar_store_model.specs.Policy.{Policy, condition}
use Rattle.cedar_store_model.specs.Answer.{with_slots}
use Rattle.cedar_schema_model.specs.Types.{Ty}
use Rattle.cedar_schema_model.specs.Schema.{Schema, declares_action}
use Rattle.cedar_schema_model.specs.Environment.{Environment}
use Rattle.cedar_schema_model.proofs.Types.Lookups.{inside, test_cases}
use Rattle.cedar_typechecker_model.specs.Facts.{Facts}
use Rattle.cedar_typechecker_model.specs.Typing.{Types}
use Rattle.cedar_typechecker_model.specs.Levels.{violations}
use Rattle.cedar_typechecker_model.specs.Verdicts.{strictly, Passes, policy_violations}
use Rattle.cedar_typechecker_model.specs.OfLaws.Simple.{IsOrderly}
use Rattle.cedar_typechecker_model.specs.Soundness.{Hold, Suits, SlotsAreBound}
use Rattle.cedar_typechecker_model.specs.PolicySoundness.{IsConforming, IsBound}
use Rattle.cedar_typechecker_model.specs.Slice.{mentioned, mentioned_in_fields, mentioned_by_parts, IsNear}
use Rattle.cedar_typechecker_model.specs.Reach.{IsInReach, SliceConforms}
use Rattle.cedar_typechecker_model.proofs.Mentions.{PartMentions, PartsMention, FoundMentions, IsKnown, ContextMentions, mentioned_there, root_from}
use Rattle.cedar_typechecker_model.proofs.Sound.Conditions.{condition_reached}
use Rattle.cedar_typechecker_model.proofs.Sound.Leading.{At, Stands}
use Rattle.cedar_typechecker_model.proofs.Sound.Policies.{slots_in, conforming}
use Rattle.cedar_typechecker_model.proofs.Sound.Reached.{Nearness, Reached}
use Rattle.cedar_typechecker_model.proofs.Sound.Reaching.{looks_reached}

pub near_within : (m n : ℕ) (w : World) (u : Uid) → m ≤ n → IsNear m w u → IsNear n w u
near_within zero n w u l h = absurd h
near_within (suc m) zero w u l h = omega (arith, l)
near_within (suc m) (suc n) w u l h = ⊎_elim (λ k. inl k) (λ r. inr (r.0, near_within m n w r.0 (omega (arith, l)) r.1, r.2)) h

pub named_there : (ps : List (Text × Part V)) (a : Text) (x : Part V) → lookup (bytes_eq a) ps ≡ Some x → (p : Text × Part V) × Contains ps p × (p.1 ≡ x)
named_there [] a x e = cc
named_there (q ∷ ps) a x e = go (named_there ps a x) (bytes_eq a q.0) e
  where
    go : (lookup (bytes_eq a) ps ≡ Some x → (p : Text × Part V) × Contains ps p × (p.1 ≡ x)) → (t : Bool) → cond t (Some q.1) (lookup (bytes_eq a) ps) ≡ Some x → (p : Text × Part V) × Contains (q ∷ ps) p × (p.1 ≡ x)
    go rest true e = (q, contains_head q ps, cc)
    go rest false e = let r = rest e in (r.0, contains_tail q ps r.0 r.1, r.2)

-- what stands in a value is mentioned by it
field_mentions : (a : Text) (fs : Fields) (v : V) (u : Uid) → field_of a fs ≡ Some v → Contains (mentioned v) u → Contains (mentioned_in_fields fs) u
field_mentions a no_fields v u e m = cc
field_mentions a (field b z fs) v u e m = by (bytes_eq a b) e (field_mentions a fs v u)
  where
    by : (c : Bool) → (if c then Some z else field_of a fs) ≡ Some v → (field_of a fs ≡ Some v → Contains (mentioned v) u → Contains (mentioned_in_fields fs) u) → Contains (mentioned z ++ mentioned_in_fields fs) u
    by true q f = Contains-append_left (mentioned z) (mentioned_in_fields fs) u (subst (λ y. Contains (mentioned y) u) (sym (inside q)) m)
    by false q f = Contains-append_right (mentioned z) (mentioned_in_fields fs) u (f q m)

at_mentions : (path : List Text) (v : V) (u : Uid) → At path v u → Contains (mentioned v) u
at_mentions [] v u h = subst (λ y. Contains (mentioned y) u) (sym h) (contains_head u [])
at_mentions (a ∷ path) v u h =
    let r = h.2 in
    subst (λ y. Contains (mentioned y) u) (sym h.1) (field_mentions a h.0 r.0 u r.1 (at_mentions path r.0 u r.2))

stands_mentions : (v : V) (u : Uid) → Stands v u → Contains (mentioned v) u
stands_mentions v u h = at_mentions h.0 v u h.1

part_mentions : (a : Text) (ps : List (Text × Part V)) (v : V) (u : Uid) → lookup (bytes_eq a) ps ≡ Some (known v) → Stands v u → PartsMention ps u
part_mentions a ps v u e h =
    let r = named_there ps a (known v) e in
    mentioned_there ps r.0 u r.1 (subst (λ (y : Part V). PartMentions y u) (sym r.2) (stands_mentions v u h))

-- what is near, one step after the other
known_itself : (o : Option Uid) (u : Uid) → o ≡ Some u → IsKnown o u
known_itself o u e = subst (λ p. IsKnown p u) (sym e) (contains_head u [])

found_mentions : (f : Found V) (d : Entity V) (u : Uid) → f ≡ held d → PartsMention d.attributes u ⊎ PartsMention d.tags u → FoundMentions f u
found_mentions f d u q h =
    subst (λ g. FoundMentions g u) (sym q)
    (⊎_elim (Contains-append_left (mentioned_by_parts d.attributes) (mentioned_by_parts d.tags) u) (Contains-append_right (mentioned_by_parts d.attributes) (mentioned_by_parts d.tags) u) h)

pub nearness : (w : World) → Nearness w (λ k u. IsNear k w u)
nearness w = record {
  principal = λ u e. inl (root_from w u (inl (known_itself w.principal u e)));
  resource = λ u e. inl (root_from w u (inr (inl (known_itself w.resource u e))));
  context = λ v u e h. inl (root_from w u (inr (inr (subst (λ o. ContextMentions o u) (sym e) (stands_mentions v u h)))));
  attribute = λ k y d a v u h q e m. inr (y, h, found_mentions (w.store y) d u q (inl (part_mentions a d.attributes v u e m)));
  tag = λ k y d a v u h q e m. inr (y, h, found_mentions (w.store y) d u q (inr (part_mentions a d.tags v u e m)));
  more = λ m n u l h. near_within m n w u l h;
}

in_reach : (s : Schema) (n : ℕ) (w : World) (u : Uid) → Reached s (λ k y. IsNear k w y) n u → IsInReach s n w u
in_reach s n w u h = test_cases (declares_action s u) (λ e. inr e) (λ e. ⊎_elim (λ k. inl (k, e)) (λ k. inr k) h)

pub lookups_are_in_reach : (n : ℕ) (s : Schema) (x : Table) (e : Environment) (w : World) → Suits s x e w → SliceConforms s n w
    → (known : Facts) (t : Tree) → Hold w known → SlotsAreBound w t → (ty : Ty) (out : Facts) → Types (strictly s x e) known t ty out
    → violations n (strictly s x e) known t ≡ [] → (u : Uid) → Looks w t u → IsInReach s n w u
lookups_are_in_reach n s x e w suits conform before t hold bound ty out d none u l =
    in_reach s n w u (looks_reached s x e w suits (λ k y. IsNear k w y) (nearness w) n (λ y h q. conform y (h, q)) before hold t (slots_in w t bound) ty out d none u l)

pub conditions_are_in_reach : (n : ℕ) (s : Schema) (x : Table) (w : World) (p : Policy) → IsOrderly s → IsConforming s x w → SliceConforms s n w → IsBound p
    → Passes s x p → policy_violations n s x p ≡ [] → (u : Uid) → Looks (with_slots w p.bindings) (condition p) u → IsInReach s n w u
conditions_are_in_reach n s x w p o c conform bound passes none u l =
    in_reach s n w u (condition_reached s x w p (conforming s x w o c) bound (λ k y. IsNear k w y) (nearness w) n (λ y h q. conform y (h, q)) passes none u l)
