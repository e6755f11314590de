-- What a conforming entity has: the attributes and tags that its type declares.
use Rattle.std.proofs.Common.{◌≡◌, Bool, true, false, List, [], ◌∷◌, Option, Some, None, refl, sym, ◌∙◌, subst}
use Rattle.std.specs.Prelude.{Contains, is_some, option_map, option_and_then, if◌then◌else◌}
use Rattle.std.specs.Option.{option_map_or}
use Rattle.std.specs.Str.{bytes_eq}
use Rattle.std.proofs.lemmas.Slice.Eq.{bytes_eq-Decides}
use Rattle.cedar_expr_model.specs.Name.{Text}
use Rattle.cedar_expr_model.specs.Uid.{Uid}
use Rattle.cedar_expr_model.specs.Value.{V}
use Rattle.cedar_expr_model.proofs.Lists.{contains_head, contains_tail}
use Rattle.cedar_store_model.specs.World.{Entity}
use Rattle.cedar_expr_model.specs.ValueParts.{Part, known, left}
use Rattle.cedar_schema_model.specs.Types.{Ty, Attributes, no_attributes, attribute, Declared, attribute_named}
use Rattle.cedar_schema_model.specs.Schema.{EntityKind, standard, enumerated, external, EntityType, Schema, type_named, declares_action}
use Rattle.cedar_schema_model.specs.Lookup.{declared_of}
use Rattle.cedar_schema_model.specs.HasType.{HasType}
use Rattle.cedar_schema_model.specs.Conforming.{Place, among_actions, of_kind, nowhere, place_of, attributes_at, tags_at, attribute_list, type_at, EntityConforms}
use Rattle.cedar_schema_model.specs.DeclLaws.{IsOf}
use Rattle.cedar_schema_model.proofs.Types.Lookups.{named_cases}
use Rattle.cedar_schema_model.proofs.Decls.Direct.{good_entity}
use Rattle.cedar_typechecker_model.specs.Rules.{tags_of}
use Rattle.cedar_typechecker_model.specs.OfLaws.Simple.{IsOrderly}
use Rattle.std.specs.Map.{lookup}

-- where a schema speaks of an entity is where it declares its type
kind_declared : (k : EntityKind) (a : Text) → attribute_named a (attributes_at (of_kind k)) ≡ attribute_named a (attributes_at (of_kind k))
kind_declared (standard as_ t) a = refl
kind_declared (enumerated ids) a = refl
kind_declared external a = refl

kind_tagged : (k : EntityKind) → tags_at (of_kind k) ≡ tags_at (of_kind k)
kind_tagged (standard as_ t) = refl
kind_tagged (enumerated ids) = refl
kind_tagged external = refl

abbrev pub place_by : Bool → Option EntityType → Place
place_by b o = if b then among_actions else option_map_or (λ (t : EntityType). of_kind t.kind) o nowhere

declared_by : (a : Text) (b : Bool) (o : Option EntityType) → (b ≡ true → is_some o ≡ false) → attribute_named a (attributes_at (place_by b o)) ≡ option_and_then (λ e. attribute_named a (attributes_at (of_kind e.kind))) o
declared_by a true None h = refl
declared_by a true (Some t) h = (let q = h refl in cc)
declared_by a false None h = refl
declared_by a false (Some t) h = kind_declared t.kind a

tagged_by : (b : Bool) (o : Option EntityType) → (b ≡ true → is_some o ≡ false) → tags_at (place_by b o) ≡ option_and_then (λ e. tags_at (of_kind e.kind)) o
tagged_by true None h = refl
tagged_by true (Some t) h = (let q = h refl in cc)
tagged_by false None h = refl
tagged_by false (Some t) h = kind_tagged t.kind

declared_there : (s : Schema) → IsOrderly s → (u : Uid) (a : Text) → attribute_named a (attributes_at (place_of s u)) ≡ declared_of s a u.kind
declared_there s o u a = declared_by a (declares_action s u) (type_named s u.kind) (o.apart u)

tagged_there : (s : Schema) → IsOrderly s → (u : Uid) → tags_at (place_of s u) ≡ tags_of s u.kind
tagged_there s o u = tagged_by (declares_action s u) (type_named s u.kind) (o.apart u)

-- a part that is found stands in the list
found_by : {A : Type 0} (b : Bool) (a c : Text) (p q : Part A) (ps : List (Text × Part A)) (rest : Option (Part A)) → (b ≡ true → a ≡ c) → (rest ≡ Some q → Contains ps (a, q)) → (if b then Some p else rest) ≡ Some q → Contains ((c, p) ∷ ps) (a, q)
found_by true a c p q ps rest f g e =
    let s : a ≡ c = f refl in
    let r : p ≡ q = cc in
    subst (Contains ((c, p) ∷ ps)) (λ i. (sym s i, r i)) (contains_head (c, p) ps)
found_by false a c p q ps rest f g e = contains_tail (c, p) ps (a, q) (g e)

pub part_stands : {A : Type 0} (a : Text) (ps : List (Text × Part A)) (q : Part A) → lookup (bytes_eq a) ps ≡ Some q → Contains ps (a, q)
part_stands a [] q e = cc
part_stands a (p ∷ ps) q e = found_by (bytes_eq a p.0) a p.0 p.1 q ps (lookup (bytes_eq a) ps) (bytes_eq-Decides a p.0).0 (part_stands a ps q) e

attribute_stands : (as_ : Attributes) (a : Text) (d : Declared) → attribute_named a as_ ≡ Some d → Contains (attribute_list as_) (a, d)
attribute_stands no_attributes a d e = cc
attribute_stands (attribute b t r as_) a d e =
    named_cases a b t r as_ d e
    (λ q k. subst (Contains (attribute_list (attribute b t r as_))) (λ i. (sym q i, k i)) (contains_head _ (attribute_list as_)))
    (λ q k. contains_tail _ (attribute_list as_) (a, d) (attribute_stands as_ a d k))

-- what is known of a part is of the type
known_of : (o : Option Ty) (p : Part V) → IsOf o p → (t : Ty) × (v : V) × (o ≡ Some t) × (p ≡ known v) × HasType v t
known_of None p h = absurd h
known_of (Some t) (known v) h = (t, v, refl, refl, h)
known_of (Some t) (left e) h = absurd h

declared_type : (o : Option Declared) (t : Ty) → option_map (λ (d : Declared). d.type) o ≡ Some t → (d : Declared) × (o ≡ Some d) × (d.type ≡ t)
declared_type None t e = cc
declared_type (Some d) t e = (d, refl, (let q : d.type ≡ t = cc in q))

-- An attribute that is there is declared for the entity's type, and is a value of its type.
pub record Declares (o : Option Declared) (p : Part V) : Type 0 where
  pub what : Declared
  pub is_what : o ≡ Some what
  pub held : V
  pub is_held : p ≡ known held
  pub of_type : HasType held what.type

pub held_attribute : (s : Schema) → IsOrderly s → (u : Uid) (e : Entity V) → EntityConforms s u e → (a : Text) (p : Part V) → lookup (bytes_eq a) e.attributes ≡ Some p → Declares (declared_of s a u.kind) p
held_attribute s o u e c a p h =
    let k = known_of (type_at (attributes_at (place_of s u)) a) p ((good_entity s u e c).attributes (a, p) (part_stands a e.attributes p h)) in
    let d = declared_type (attribute_named a (attributes_at (place_of s u))) k.0 k.2 in
    record { what = d.0; is_what = sym (declared_there s o u a) ∙ d.1; held = k.1; is_held = k.3; of_type = subst (HasType k.1) (sym d.2) k.4 }

pub required_attribute : (s : Schema) → IsOrderly s → (u : Uid) (e : Entity V) → EntityConforms s u e → (a : Text) (d : Declared) → declared_of s a u.kind ≡ Some d → d.is_required ≡ true → is_some (lookup (bytes_eq a) e.attributes) ≡ true
required_attribute s o u e c a d h r = (good_entity s u e c).required (a, d) (attribute_stands (attributes_at (place_of s u)) a d (declared_there s o u a ∙ h)) r

-- a tag likewise
pub record Tags (o : Option Ty) (p : Part V) : Type 0 where
  pub what : Ty
  pub is_what : o ≡ Some what
  pub held : V
  pub is_held : p ≡ known held
  pub of_type : HasType held what

pub held_tag : (s : Schema) → IsOrderly s → (u : Uid) (e : Entity V) → EntityConforms s u e → (a : Text) (p : Part V) → lookup (bytes_eq a) e.tags ≡ Some p → Tags (tags_of s u.kind) p
held_tag s o u e c a p h =
    let k = known_of (tags_at (place_of s u)) p ((good_entity s u e c).tags (a, p) (part_stands a e.tags p h)) in
    record { what = k.0; is_what = sym (tagged_there s o u) ∙ k.2; held = k.1; is_held = k.3; of_type = k.4 }
