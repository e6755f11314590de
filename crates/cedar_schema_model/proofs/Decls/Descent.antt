-- The tests of descent decide it.
use Rattle.std.proofs.Common.{◌≡◌, ◌⊎◌, List, [], ◌∷◌, ◌++◌, Bool, true, false, ◌&&◌, ◌||◌, refl, sym, subst, inl, inr, ⊎_elim}
use Rattle.std.specs.Prelude.{Contains}
use Rattle.std.specs.Bool.{Decides}
use Rattle.std.specs.List.{list_any}
use Rattle.std.proofs.lemmas.Bool.Decides.{Decides-and, Decides-or, Decides-like}
use Rattle.cedar_expr_model.specs.Name.{Name, name_eq}
use Rattle.cedar_expr_model.specs.Uid.{Uid, uid_eq}
use Rattle.cedar_expr_model.proofs.Equality.{name_eq-Decides, uid_eq-Decides}
use Rattle.cedar_expr_model.proofs.Lists.{both_hold, hold_both, hold_left, hold_right, contains_cases, contains_none, found-Decides, any-Decides, map_has}
use Rattle.cedar_schema_model.specs.Schema.{EntityType, Action, Schema}
use Rattle.cedar_schema_model.specs.DeclLaws.{ActionTypeDescends, TypeDescends}
use Rattle.cedar_schema_model.proofs.Named.{has_ancestor_of}
use Rattle.cedar_schema_model.specs.Descent.{Chain, Reaches, reaches, type_names, action_uids, HasParent, has_parent, Descends, descends, HasActionParent, has_action_parent, ActionDescends, action_descends, IsActionAncestor, is_action_ancestor, action_type_descends, type_descends}

-- chains one after the other
pub chains_join : {X : Type 0} (step : X → X → Type 0) (x : X) (zs : List X) (y : X) (ws : List X) (z : X) → Chain step x zs y → Chain step y ws z → Chain step x (zs ++ y ∷ ws) z
chains_join step x [] y ws z c d = (c, d)
chains_join step x (v ∷ vs) y ws z c d = (c.0, chains_join step v vs y ws z c.1 d)

pub reaches_on : {X : Type 0} (step : X → X → Type 0) (x y z : X) → Reaches step x y → Reaches step y z → Reaches step x z
reaches_on step x y z c d = (c.0 ++ y ∷ d.0, chains_join step x c.0 y d.0 z c.1 d.1)

-- a chain by way of these alone
abbrev pub Through : {X : Type 0} → (X → X → Type 0) → List X → X → List X → X → Type 0
Through step vs x [] y = step x y
Through step vs x (z ∷ zs) y = step x z × Contains vs z × Through step vs z zs y

abbrev pub ReachesBy : {X : Type 0} → (X → X → Type 0) → List X → X → X → Type 0
ReachesBy {X} step vs x y = (zs : List X) × Through step vs x zs y

-- it goes by way of the first of them or not
abbrev pub Splits : {X : Type 0} → (X → X → Type 0) → X → List X → X → X → Type 0
Splits step v vs x y = ReachesBy step vs x y ⊎ (ReachesBy step vs x v × ReachesBy step vs v y)

first_is : {X : Type 0} (step : X → X → Type 0) (v : X) (vs : List X) (x z y : X) → step x z → v ≡ z → Splits step v vs z y → Splits step v vs x y
first_is {X} step v vs x z y h e s =
    let at : step x v = subst (step x) (sym e) h in
    ⊎_elim
    (λ c. inr (([], at), subst (λ w. ReachesBy step vs w y) (sym e) c))
    (λ c. inr (([], at), c.1))
    s

first_isnt : {X : Type 0} (step : X → X → Type 0) (v : X) (vs : List X) (x z y : X) → step x z → Contains vs z → Splits step v vs z y → Splits step v vs x y
first_isnt step v vs x z y h k s =
    ⊎_elim
    (λ c. inl (z ∷ c.0, (h, k, c.1)))
    (λ c. inr ((z ∷ c.0.0, (h, k, c.0.1)), c.1))
    s

through_splits : {X : Type 0} (step : X → X → Type 0) (v : X) (vs : List X) (x : X) (zs : List X) (y : X) → Through step (v ∷ vs) x zs y → Splits step v vs x y
through_splits step v vs x [] y h = inl ([], h)
through_splits step v vs x (z ∷ zs) y h =
    contains_cases (Splits step v vs x y) v vs z h.1
    (λ e. first_is step v vs x z y h.0 e (through_splits step v vs z zs y h.2))
    (λ k. first_isnt step v vs x z y h.0 k (through_splits step v vs z zs y h.2))

-- a disjunction that holds
pub either_holds : (a b : Bool) → (a || b) ≡ true → (a ≡ true) ⊎ (b ≡ true)
either_holds true b h = inl refl
either_holds false b h = inr h

-- The test is complete for chains by way of these, and sound.
pub reaches_complete : {X : Type 0} (step : X → X → Type 0) (test : X → X → Bool) → ((x y : X) → Decides (test x y) (step x y)) → (vs : List X) (x y : X) → ReachesBy step vs x y → reaches test vs x y ≡ true
reaches_complete {X} step test each [] x y h = go h.0 h.1
  where
    go : (zs : List X) → Through step [] x zs y → test x y ≡ true
    go [] c = (each x y).1 c
    go (z ∷ zs) c = absurd (contains_none z c.1)
reaches_complete step test each (v ∷ vs) x y h =
    ⊎_elim
    (λ c. hold_left (reaches test vs x y) _ (reaches_complete step test each vs x y c))
    (λ c. hold_right (reaches test vs x y) _ (hold_both (reaches test vs x v) _ (reaches_complete step test each vs x v c.0) (reaches_complete step test each vs v y c.1)))
    (through_splits step v vs x h.0 y h.1)

pub reaches_sound : {X : Type 0} (step : X → X → Type 0) (test : X → X → Bool) → ((x y : X) → Decides (test x y) (step x y)) → (vs : List X) (x y : X) → reaches test vs x y ≡ true → Reaches step x y
reaches_sound step test each [] x y h = ([], (each x y).0 h)
reaches_sound step test each (v ∷ vs) x y h =
    ⊎_elim
    (λ e. reaches_sound step test each vs x y e)
    (λ e. let p = both_hold (reaches test vs x v) (reaches test vs v y) e in
    reaches_on step x v y (reaches_sound step test each vs x v p.0) (reaches_sound step test each vs v y p.1))
    (either_holds (reaches test vs x y) (reaches test vs x v && reaches test vs v y) h)

-- all that have a step are among these
abbrev pub Covers : {X : Type 0} → (X → X → Type 0) → List X → Type 0
Covers {X} step vs = (x y : X) → step x y → Contains vs x

pub chain_starts : {X : Type 0} (step : X → X → Type 0) (vs : List X) → Covers step vs → (x : X) (zs : List X) (y : X) → Chain step x zs y → Contains vs x
chain_starts step vs all x [] y c = all x y c
chain_starts step vs all x (z ∷ zs) y c = all x z c.0

chain_through : {X : Type 0} (step : X → X → Type 0) (vs : List X) → Covers step vs → (x : X) (zs : List X) (y : X) → Chain step x zs y → Through step vs x zs y
chain_through step vs all x [] y c = c
chain_through step vs all x (z ∷ zs) y c = (c.0, chain_starts step vs all z zs y c.1, chain_through step vs all z zs y c.1)

pub reaches-Decides : {X : Type 0} (step : X → X → Type 0) (test : X → X → Bool) → ((x y : X) → Decides (test x y) (step x y)) → (vs : List X) → Covers step vs → (x y : X) → Decides (reaches test vs x y) (Reaches step x y)
reaches-Decides step test each vs all x y = (reaches_sound step test each vs x y, λ h. reaches_complete step test each vs x y (h.0, chain_through step vs all x h.0 y h.1))

-- entity types
pub has_parent-Decides : (s : Schema) (m n : Name) → Decides (has_parent s m n) (HasParent s m n)
has_parent-Decides s m n =
    Decides-like _ (λ h. (h.0, h.1, h.2.0, h.2.1)) (λ h. (h.0, h.1, (h.2, h.3)))
    (any-Decides (λ (t : EntityType). name_eq m t.name && list_any (name_eq n) t.parents) (λ t. (m ≡ t.name) × Contains t.parents n)
    (λ t. Decides-and _ _ (name_eq-Decides m t.name) (found-Decides name_eq name_eq-Decides n t.parents)) s.types)

types_cover : (s : Schema) → Covers (HasParent s) (type_names s)
types_cover s m n h = subst (Contains (type_names s)) (sym h.2) (map_has (λ (t : EntityType). t.name) s.types h.0 h.1)

pub descends-Decides : (s : Schema) (m n : Name) → Decides (descends s m n) (Descends s m n)
descends-Decides s m n = reaches-Decides (HasParent s) (has_parent s) (has_parent-Decides s) (type_names s) (types_cover s) m n

-- actions
pub has_action_parent-Decides : (s : Schema) (u v : Uid) → Decides (has_action_parent s u v) (HasActionParent s u v)
has_action_parent-Decides s u v =
    Decides-like _ (λ h. (h.0, h.1, h.2.0, h.2.1)) (λ h. (h.0, h.1, (h.2, h.3)))
    (any-Decides (λ (a : Action). uid_eq u a.uid && list_any (uid_eq v) a.parents) (λ a. (u ≡ a.uid) × Contains a.parents v)
    (λ a. Decides-and _ _ (uid_eq-Decides u a.uid) (found-Decides uid_eq uid_eq-Decides v a.parents)) s.actions)

actions_cover : (s : Schema) → Covers (HasActionParent s) (action_uids s)
actions_cover s u v h = subst (Contains (action_uids s)) (sym h.2) (map_has (λ (a : Action). a.uid) s.actions h.0 h.1)

pub action_descends-Decides : (s : Schema) (u v : Uid) → Decides (action_descends s u v) (ActionDescends s u v)
action_descends-Decides s u v = reaches-Decides (HasActionParent s) (has_action_parent s) (has_action_parent-Decides s) (action_uids s) (actions_cover s) u v

pub is_action_ancestor-Decides : (s : Schema) (u v : Uid) → Decides (is_action_ancestor s u v) (IsActionAncestor s u v)
is_action_ancestor-Decides s u v = Decides-and _ _ (found-Decides uid_eq uid_eq-Decides v (action_uids s)) (action_descends-Decides s u v)

-- types of actions
abbrev HasAncestorOf : Schema → Name → Uid → Type 0
HasAncestorOf s n u = (v : Uid) × IsActionAncestor s u v × (n ≡ v.kind)

has_ancestor_of-Decides : (s : Schema) (n : Name) (u : Uid) → Decides (has_ancestor_of s n u) (HasAncestorOf s n u)
has_ancestor_of-Decides s n u =
    Decides-like _ (λ h. (h.0, (h.1, h.2.0), h.2.1)) (λ h. (h.0, h.1.0, (h.1.1, h.2)))
    (any-Decides (λ v. action_descends s u v && name_eq n v.kind) (λ v. ActionDescends s u v × (n ≡ v.kind))
    (λ v. Decides-and _ _ (action_descends-Decides s u v) (name_eq-Decides n v.kind)) (action_uids s))

pub action_type_descends-Decides : (s : Schema) (m n : Name) → Decides (action_type_descends s m n) (ActionTypeDescends s m n)
action_type_descends-Decides s m n =
    Decides-like _ (λ h. (h.0, h.1, h.2.0, h.2.1)) (λ h. (h.0, h.1, (h.2, h.3)))
    (any-Decides (λ u. name_eq m u.kind && has_ancestor_of s n u) (λ u. (m ≡ u.kind) × HasAncestorOf s n u)
    (λ u. Decides-and _ _ (name_eq-Decides m u.kind) (has_ancestor_of-Decides s n u)) (action_uids s))

pub type_descends-Decides : (s : Schema) (m n : Name) → Decides (type_descends s m n) (TypeDescends s m n)
type_descends-Decides s m n = Decides-or _ _ (descends-Decides s m n) (action_type_descends-Decides s m n)
