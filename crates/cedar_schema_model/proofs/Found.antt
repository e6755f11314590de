-- What is found by a name or a uid.
use Rattle.std.proofs.Common.{◌≡◌, Bool, true, false, cond, List, [], ◌∷◌, map, Option, Some, None, refl, sym, ap, ◌∙◌, subst, inl, inr}
use Rattle.std.specs.Prelude.{Contains, is_some}
use Rattle.std.specs.Bool.{Decides}
use Rattle.std.specs.List.{find}
use Rattle.std.proofs.lemmas.Bool.{true≢false}
use Rattle.cedar_expr_model.specs.Name.{Name, name_eq}
use Rattle.cedar_expr_model.specs.Uid.{Uid, uid_eq}
use Rattle.cedar_expr_model.proofs.Equality.{name_eq-Decides, uid_eq-Decides}
use Rattle.cedar_expr_model.proofs.Lists.{contains_head, contains_tail, contains_cases, contains_none, map_has}
use Rattle.cedar_schema_model.specs.BagLaws.{HasTwice}
use Rattle.cedar_schema_model.specs.Schema.{EntityType, Action, Schema, type_named, action_with, declares_type, declares_action}
use Rattle.cedar_schema_model.specs.Kept.{KeptType, KeptAction, Kept, kept_type, kept_action}
use Rattle.cedar_schema_model.specs.KeptOf.{IsSameType, IsSameAction, IsKeptOf}
use Rattle.cedar_schema_model.specs.KeptLaws.{TypesAreDeclared, ActionsAreDeclared, TypesAreFound, ActionsAreFound}

module _ {S : Type 0} (eq : S → S → Bool) (decides : (s t : S) → Decides (eq s t) (s ≡ t)) where
  module _ {A : Type 0} (name : A → S) where
    -- what is found is there, under its name
    found_there : (s : S) (as_ : List A) (a : A) → find (λ b. eq s (name b)) as_ ≡ Some a → Contains as_ a × (s ≡ name a)
    found_there s [] a h = absurd (cc)
    found_there s (b ∷ bs) a h = go (found_there s bs a) (eq s (name b)) refl
      where
        some_same : (x y : A) → Some x ≡ Some y → x ≡ y
        some_same x y q = cc

        step : (t : Bool) → eq s (name b) ≡ t → cond t (Some b) (find (λ b. eq s (name b)) bs) ≡ Some a
        step t e = ap (λ c. cond c (Some b) (find (λ b. eq s (name b)) bs)) (sym e) ∙ h

        go : (find (λ b. eq s (name b)) bs ≡ Some a → Contains bs a × (s ≡ name a)) → (t : Bool) → eq s (name b) ≡ t → Contains (b ∷ bs) a × (s ≡ name a)
        go rest true e = let same = some_same b a (step true e) in (subst (Contains (b ∷ bs)) same (contains_head b bs), (decides s (name b)).0 e ∙ ap name same)
        go rest false e = let r = rest (step false e) in (contains_tail b bs a r.0, r.1)

    -- what is there is found, by its name
    found_some : (s : S) (as_ : List A) (a : A) → Contains as_ a → s ≡ name a → is_some (find (λ b. eq s (name b)) as_) ≡ true
    found_some s [] a c h = absurd (contains_none a c)
    found_some s (b ∷ bs) a c h = contains_cases (is_some (find (λ b. eq s (name b)) (b ∷ bs)) ≡ true) b bs a c here (λ k. there (eq s (name b)) refl (found_some s bs a k h))
      where
        here : b ≡ a → is_some (find (λ b. eq s (name b)) (b ∷ bs)) ≡ true
        here q = ap (λ t. is_some (cond t (Some b) (find (λ b. eq s (name b)) bs))) ((decides s (name b)).1 (h ∙ ap name (sym q)))

        there : (t : Bool) → eq s (name b) ≡ t → is_some (find (λ b. eq s (name b)) bs) ≡ true → is_some (find (λ b. eq s (name b)) (b ∷ bs)) ≡ true
        there true e r = ap (λ t. is_some (cond t (Some b) (find (λ b. eq s (name b)) bs))) e
        there false e r = ap (λ t. is_some (cond t (Some b) (find (λ b. eq s (name b)) bs))) e ∙ r

    -- where no name stands twice, it is what is found
    found_once : (s : S) (as_ : List A) (a : A) → (HasTwice (map name as_) → ⊥) → Contains as_ a → s ≡ name a → find (λ b. eq s (name b)) as_ ≡ Some a
    found_once s [] a t c h = absurd (contains_none a c)
    found_once s (b ∷ bs) a t c h = contains_cases (find (λ b. eq s (name b)) (b ∷ bs) ≡ Some a) b bs a c here (λ k. go k (found_once s bs a (λ m. t (inr m)) k h) (eq s (name b)) refl)
      where
        here : b ≡ a → find (λ b. eq s (name b)) (b ∷ bs) ≡ Some a
        here q = ap (λ t. cond t (Some b) (find (λ b. eq s (name b)) bs)) ((decides s (name b)).1 (h ∙ ap name (sym q))) ∙ ap (λ x. Some x) q

        go : Contains bs a → find (λ b. eq s (name b)) bs ≡ Some a → (u : Bool) → eq s (name b) ≡ u → find (λ b. eq s (name b)) (b ∷ bs) ≡ Some a
        go k rest true e = absurd (t (inl (subst (Contains (map name bs)) (sym h ∙ (decides s (name b)).0 e) (map_has name bs a k))))
        go k rest false e = ap (λ t. cond t (Some b) (find (λ b. eq s (name b)) bs)) e ∙ rest

-- two look-ups that find together
found_alike : {A B : Type 0} (o : Option A) (p : Option B) → ((a : A) → o ≡ Some a → is_some p ≡ true) → ((b : B) → p ≡ Some b → is_some o ≡ true) → is_some o ≡ is_some p
found_alike None None f g = refl
found_alike None (Some b) f g = g b refl
found_alike (Some a) None f g = sym (f a refl)
found_alike (Some a) (Some b) f g = refl

type_there : (as_ : List KeptType) (n : Name) (t : KeptType) → find (λ (b : KeptType). name_eq n b.name) as_ ≡ Some t → Contains as_ t × (n ≡ t.name)
type_there as_ n t h = found_there name_eq name_eq-Decides (λ (b : KeptType). b.name) n as_ t h

action_there : (as_ : List KeptAction) (u : Uid) (a : KeptAction) → find (λ (b : KeptAction). uid_eq u b.uid) as_ ≡ Some a → Contains as_ a × (u ≡ a.uid)
action_there as_ u a h = found_there uid_eq uid_eq-Decides (λ (b : KeptAction). b.uid) u as_ a h

pub types_declared : TypesAreDeclared
types_declared s k h n =
    found_alike (kept_type k n) (type_named s n)
    (λ t f. let r = type_there k.types n t f in let e = h.types t r.0 in found_some name_eq name_eq-Decides (λ (e : EntityType). e.name) n s.types e.0 e.1 (r.1 ∙ e.2.name))
    (λ e f. let r = found_there name_eq name_eq-Decides (λ (e : EntityType). e.name) n s.types e f in let t = h.all_types e r.0 in found_some name_eq name_eq-Decides (λ (t : KeptType). t.name) n k.types t.0 t.1 (r.1 ∙ sym t.2.name))

pub actions_declared : ActionsAreDeclared
actions_declared s k h u =
    found_alike (kept_action k u) (action_with s u)
    (λ a f. let r = action_there k.actions u a f in let b = h.actions a r.0 in found_some uid_eq uid_eq-Decides (λ (b : Action). b.uid) u s.actions b.0 b.1 (r.1 ∙ b.2.uid))
    (λ b f. let r = found_there uid_eq uid_eq-Decides (λ (b : Action). b.uid) u s.actions b f in let a = h.all_actions b r.0 in found_some uid_eq uid_eq-Decides (λ (a : KeptAction). a.uid) u k.actions a.0 a.1 (r.1 ∙ sym a.2.uid))

pub types_found : TypesAreFound
types_found s k h n t f =
    let r = type_there k.types n t f in
    let e = h.types t r.0 in
    (e.0, found_once name_eq name_eq-Decides (λ (e : EntityType). e.name) n s.types e.0 h.types_once e.1 (r.1 ∙ e.2.name), e.2)

pub actions_found : ActionsAreFound
actions_found s k h u a f =
    let r = action_there k.actions u a f in
    let b = h.actions a r.0 in
    (b.0, found_once uid_eq uid_eq-Decides (λ (b : Action). b.uid) u s.actions b.0 h.actions_once b.1 (r.1 ∙ b.2.uid), b.2)
