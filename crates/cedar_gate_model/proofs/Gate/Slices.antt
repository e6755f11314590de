-- What is mentioned, what is near, and the slice.
use Rattle.std.proofs.Common.{◌≡◌, ◌↔◌, ◌≤◌, ℕ, zero, suc, Bool, true, false, cond, not, List, [], ◌∷◌, Option, Some, None, inl, inr, ⊎_elim, refl, sym, ap, ◌∙◌, subst, arith}
use Rattle.std.specs.Prelude.{Contains}
use Rattle.std.specs.Str.{bytes_eq}
use Rattle.std.specs.List.{flat_map}
use Rattle.std.proofs.lemmas.List.Elements.{Contains-append_left, Contains-append_right, Contains-append_cases}
use Rattle.std.proofs.lemmas.Slice.Eq.{bytes_eq-Decides}
use Rattle.cedar_expr_model.specs.Name.{Text}
use Rattle.cedar_expr_model.specs.Uid.{Uid}
use Rattle.cedar_expr_model.specs.Value.{V}
use Rattle.cedar_expr_model.proofs.Lists.{contains_cases, contains_none, filter_has, filter_only, map_has, flat_has, flat_from}
use Rattle.cedar_expr_model.specs.ValueParts.{Part, known, left}
use Rattle.cedar_store_model.specs.World.{World, Entity, Found, held, missing, not_loaded}
use Rattle.cedar_store_model.specs.OfLaws.Extends.{Keeps, KeepsPart, KeepsParts, KeepsFound, Extends}
use Rattle.cedar_schema_model.specs.Schema.{Schema, declares_action}
use Rattle.cedar_schema_model.specs.BagLaws.{HasTwice}
use Rattle.cedar_typechecker_model.specs.Slice.{IsNear, InSlice, mentioned_by_parts, mentioned_by_found, roots, near, slice}
use Rattle.cedar_gate_model.specs.GateLaws.{HasNamesOnce, HoldsNamesOnce, SameRoots}
use Rattle.std.specs.Map.{lookup, keys_of}
use Rattle.cedar_typechecker_model.proofs.Mentions.{PartMentions, PartsMention, FoundMentions, IsKnown, ContextMentions, IsRoot, mentioning, mentioned_there, root_cases, root_from}
use Rattle.cedar_typechecker_model.proofs.InReach.{near_within, named_there}

pub listed_near : (n : ℕ) (w : World) (u : Uid) → Contains (near n w) u → IsNear n w u
listed_near zero w u h = contains_none u h
listed_near (suc n) w u h =
    ⊎_elim (λ k. inl k) (λ k. let r = flat_from (λ v. mentioned_by_found (w.store v)) (near n w) u k in inr (r.0, listed_near n w r.0 r.1, r.2))
    (Contains-append_cases (roots w) (flat_map (λ v. mentioned_by_found (w.store v)) (near n w)) u h)

pub near_listed : (n : ℕ) (w : World) (u : Uid) → IsNear n w u → Contains (near n w) u
near_listed zero w u h = absurd h
near_listed (suc n) w u h =
    ⊎_elim (λ k. Contains-append_left (roots w) (flat_map (λ v. mentioned_by_found (w.store v)) (near n w)) u k)
    (λ r. Contains-append_right (roots w) (flat_map (λ v. mentioned_by_found (w.store v)) (near n w)) u (flat_has (λ v. mentioned_by_found (w.store v)) (near n w) r.0 u (near_listed n w r.0 r.1) r.2))
    h

pub near_are_listed : (n : ℕ) (w : World) (u : Uid) → Contains (near n w) u ↔ IsNear n w u
near_are_listed n w u = (listed_near n w u, near_listed n w u)

isnt : (b : Bool) → not b ≡ true → b ≡ false
isnt true e = cc
isnt false e = refl

is_not : (b : Bool) → b ≡ false → not b ≡ true
is_not true e = cc
is_not false e = refl

pub slice_is_listed : (s : Schema) (n : ℕ) (w : World) (u : Uid) → Contains (slice s n w) u ↔ InSlice s n w u
slice_is_listed s n w u = (
  λ h. let r = filter_only (λ v. not (declares_action s v)) (near n w) u h in (listed_near n w u r.0, isnt (declares_action s u) r.1),
  λ h. filter_has (λ v. not (declares_action s v)) (near n w) u (near_listed n w u h.0) (is_not (declares_action s u) h.1),
)

pub slice_is_empty : (s : Schema) (w : World) (u : Uid) → InSlice s 0 w u → ⊥
slice_is_empty s w u h = h.0

pub slice_grows : (s : Schema) (m n : ℕ) (w : World) (u : Uid) → m ≤ n → InSlice s m w u → InSlice s n w u
slice_grows s m n w u l h = (near_within m n w u l h.0, h.1)

-- Where roots and mentions are kept, so is what is near.
pub near_kept : (k w : World) → ((u : Uid) → IsRoot k u → IsRoot w u) → ((v u : Uid) → FoundMentions (k.store v) u → FoundMentions (w.store v) u) → (n : ℕ) (u : Uid) → IsNear n k u → IsNear n w u
near_kept k w r f zero u h = absurd h
near_kept k w r f (suc n) u h = ⊎_elim (λ m. inl (r u m)) (λ m. inr (m.0, near_kept k w r f n m.0 m.1, f m.0 u m.2)) h

-- a part that stands under its name is found there, where no name stands twice
named_once : (ps : List (Text × Part V)) (p : Text × Part V) → (HasTwice (keys_of ps) → ⊥) → Contains ps p → lookup (bytes_eq p.0) ps ≡ Some p.1
named_once [] p once k = absurd (contains_none p k)
named_once (q ∷ ps) p once k = contains_cases (lookup (bytes_eq p.0) (q ∷ ps) ≡ Some p.1) q ps p k here (λ m. later (named_once ps p) m (bytes_eq p.0 q.0) refl)
  where
    here : q ≡ p → lookup (bytes_eq p.0) (q ∷ ps) ≡ Some p.1
    here e =
        let same : bytes_eq p.0 q.0 ≡ true = (bytes_eq-Decides p.0 q.0).1 (ap (λ (x : Text × Part V). x.0) (sym e)) in
        ap (λ t. cond t (Some q.1) (lookup (bytes_eq p.0) ps)) same ∙ ap (λ (x : Text × Part V). Some x.1) e

    later : ((HasTwice (keys_of ps) → ⊥) → Contains ps p → lookup (bytes_eq p.0) ps ≡ Some p.1) → Contains ps p → (t : Bool) → bytes_eq p.0 q.0 ≡ t → lookup (bytes_eq p.0) (q ∷ ps) ≡ Some p.1
    later rest m true e = absurd (once (inl (subst (λ x. Contains (keys_of ps) x) ((bytes_eq-Decides p.0 q.0).0 e) (map_has (λ (x : Text × Part V). x.0) ps p m))))
    later rest m false e = ap (λ t. cond t (Some q.1) (lookup (bytes_eq p.0) ps)) e ∙ rest (λ h. once (inr h)) m

-- a part that is found under a name stands there
part_kept : (qs : List (Text × Part V)) (a : Text) (x : Part V) (u : Uid) → KeepsPart (Some x) (lookup (bytes_eq a) qs) → PartMentions x u → PartsMention qs u
part_kept qs a (known v) u k h = let r = named_there qs a (known v) k in mentioned_there qs r.0 u r.1 (subst (λ x. PartMentions x u) (sym r.2) h)
part_kept qs a (left t) u k h = absurd (contains_none u h)

parts_kept : (ps qs : List (Text × Part V)) (u : Uid) → (HasTwice (keys_of ps) → ⊥) → KeepsParts ps qs → PartsMention ps u → PartsMention qs u
parts_kept ps qs u once keeps h =
    let r = mentioning ps u h in
    part_kept qs (r.0).0 (r.0).1 u (subst (λ o. KeepsPart o (lookup (bytes_eq (r.0).0) qs)) (named_once ps r.0 once r.1) (keeps (r.0).0)) r.2

found_kept : (f g : Found V) (u : Uid) → ((e : Entity V) → f ≡ held e → HasNamesOnce e) → KeepsFound f g → FoundMentions f u → FoundMentions g u
found_kept (held e) g u once k h =
    let o = once e refl in
    let d = k.0 in
    subst (λ x. FoundMentions x u) (sym k.1)
    (⊎_elim (λ m. Contains-append_left (mentioned_by_parts d.attributes) (mentioned_by_parts d.tags) u (parts_kept e.attributes d.attributes u o.0 (k.2).attributes m))
    (λ m. Contains-append_right (mentioned_by_parts d.attributes) (mentioned_by_parts d.tags) u (parts_kept e.tags d.tags u o.1 (k.2).tags m))
    (Contains-append_cases (mentioned_by_parts e.attributes) (mentioned_by_parts e.tags) u h))
found_kept missing g u once k h = absurd (contains_none u h)
found_kept not_loaded g u once k h = absurd (contains_none u h)

pub known_kept : (o p : Option Uid) (u : Uid) → Keeps o p → IsKnown o u → IsKnown p u
known_kept None p u k h = absurd (contains_none u h)
known_kept (Some v) p u k h = subst (λ x. IsKnown x u) (sym k) h

pub context_kept : (o p : Option V) (u : Uid) → Keeps o p → ContextMentions o u → ContextMentions p u
context_kept None p u k h = absurd (contains_none u h)
context_kept (Some v) p u k h = subst (λ x. ContextMentions x u) (sym k) h

root_kept : (k w : World) → Extends k w → (u : Uid) → IsRoot k u → IsRoot w u
root_kept k w e u h =
    root_from w u
    (⊎_elim (λ m. inl (known_kept k.principal w.principal u e.principal m))
    (λ m. inr (⊎_elim (λ q. inl (known_kept k.resource w.resource u e.resource q)) (λ q. inr (context_kept k.context w.context u e.context q)) m)) (root_cases k u h))

pub knowledge_keeps_the_slice : (s : Schema) (n : ℕ) (k w : World) (u : Uid) → HoldsNamesOnce k → Extends k w → InSlice s n k u → InSlice s n w u
knowledge_keeps_the_slice s n k w u once e h = (near_kept k w (root_kept k w e) (λ v x m. found_kept (k.store v) (w.store v) x (once v) (e.store v) m) n u h.0, h.1)

-- Worlds with the same principal, resource and context have the same roots.
pub same_root : (v w : World) → SameRoots v w → (u : Uid) → IsRoot w u ↔ IsRoot v u
same_root v w r u = (
  λ h. root_from v u (⊎_elim (λ m. inl (subst (λ o. IsKnown o u) (sym r.principal) m)) (λ m. inr (⊎_elim (λ q. inl (subst (λ o. IsKnown o u) (sym r.resource) q)) (λ q. inr (subst (λ o. ContextMentions o u) (sym r.context) q)) m)) (root_cases w u h)),
  λ h. root_from w u (⊎_elim (λ m. inl (subst (λ o. IsKnown o u) r.principal m)) (λ m. inr (⊎_elim (λ q. inl (subst (λ o. IsKnown o u) r.resource q)) (λ q. inr (subst (λ o. ContextMentions o u) r.context q)) m)) (root_cases v u h)),
)

near_is_local : (n : ℕ) (v w : World) → SameRoots v w → ((x : Uid) → IsNear n w x → v.store x ≡ w.store x) → (u : Uid) → IsNear (suc n) w u ↔ IsNear (suc n) v u
near_is_local zero v w r same u = (λ h. ⊎_elim (λ m. inl ((same_root v w r u).0 m)) (λ m. absurd m.1) h, λ h. ⊎_elim (λ m. inl ((same_root v w r u).1 m)) (λ m. absurd m.1) h)
near_is_local (suc n) v w r same u =
    let before : (x : Uid) → IsNear (suc n) w x ↔ IsNear (suc n) v x = λ x. near_is_local n v w r (λ y k. same y (near_within n (suc n) w y (omega arith) k)) x in (
      λ h. ⊎_elim (λ m. inl ((same_root v w r u).0 m)) (λ m. inr (m.0, (before m.0).0 m.1, subst (λ f. FoundMentions f u) (sym (same m.0 m.1)) m.2)) h,
      λ h. ⊎_elim (λ m. inl ((same_root v w r u).1 m)) (λ m. let k = (before m.0).1 m.1 in inr (m.0, k, subst (λ f. FoundMentions f u) (same m.0 k) m.2)) h,
    )

pub slice_is_local : (s : Schema) (n : ℕ) (v w : World) → SameRoots v w → ((x : Uid) → IsNear n w x → v.store x ≡ w.store x) → (u : Uid) → InSlice s (suc n) w u ↔ InSlice s (suc n) v u
slice_is_local s n v w r same u = let k = near_is_local n v w r same u in (λ h. (k.0 h.0, h.1), λ h. (k.1 h.0, h.1))
