-- Where the fields of a value lead to an entity, and which types lead to one.
use Rattle.std.proofs.Common.{◌≡◌, ◌&&◌, Bool, true, false, List, [], ◌∷◌, Option, Some, None, refl, sym, ap, ◌∙◌}
use Rattle.std.specs.Prelude.{option_map}
use Rattle.std.specs.Option.{option_map_or}
use Rattle.cedar_expr_model.specs.Name.{Text, Name, name_eq}
use Rattle.cedar_expr_model.specs.Uid.{Uid}
use Rattle.cedar_expr_model.specs.Value.{entity, V, prim, record_of, Fields, field_of}
use Rattle.cedar_schema_model.specs.Types.{BoolType, Ty, never, bool_type, long_type, string_type, any_entity, entity_types, any_set, set_type, record_type, extension_type, Declared, attribute_named, strict}
use Rattle.cedar_schema_model.specs.Subtype.{are_among}
use Rattle.cedar_schema_model.specs.HasType.{HasType}
use Rattle.cedar_schema_model.specs.Join.{bool_join, join, names_of_both, attributes_join}
use Rattle.cedar_schema_model.proofs.Types.Lookups.{inside}
use Rattle.cedar_schema_model.proofs.Types.JoinParts.{given_if, joint}
use Rattle.cedar_schema_model.proofs.Types.JoinAbove.{allowed, opened}
use Rattle.cedar_typechecker_model.specs.Levels.{is_entity}
use Rattle.cedar_typechecker_model.specs.OfLaws.Simple.{is_simple}
use Rattle.cedar_typechecker_model.proofs.Sound.Joins.{join_found, simple_at}

-- The entity stands in the value at the end of these fields.
abbrev pub At : List Text → V → Uid → Type 0
At [] v u = v ≡ prim (entity u)
At (a ∷ path) v u = (fs : Fields) × (v ≡ record_of fs) × ((x : V) × (field_of a fs ≡ Some x) × At path x u)

-- it stands somewhere in the value
abbrev pub Stands : V → Uid → Type 0
Stands v u = (path : List Text) × At path v u

pub stands_itself : (u : Uid) → Stands (prim (entity u)) u
stands_itself u = ([], refl)

pub stands_within : (a : Text) (fs : Fields) (x : V) (u : Uid) → field_of a fs ≡ Some x → Stands x u → Stands (record_of fs) u
stands_within a fs x u e h = (a ∷ h.0, (fs, refl, (x, e, h.1)))

-- in an entity stands the entity alone
pub at_entity : (y : Uid) (path : List Text) (u : Uid) → At path (prim (entity y)) u → y ≡ u
at_entity y [] u h = cc
at_entity y (a ∷ path) u h = (let q : prim (entity y) ≡ record_of h.0 = h.1 in cc)

-- The fields of a value of the type lead to an entity. A type without values may lead anywhere.
abbrev pub leads : Ty → List Text → Bool
leads never path = true
leads t [] = is_entity (Some t)
leads (record_type as_ o) (a ∷ path) = option_map_or (λ d. leads d.type path) (attribute_named a as_) false
leads t (a ∷ path) = false

-- a type whose values have neither fields nor are entities leads nowhere
pub nowhere_bool : (b : BoolType) (path : List Text) → leads (bool_type b) path ≡ false
nowhere_bool b [] = refl
nowhere_bool b (a ∷ path) = refl

pub nowhere_long : (path : List Text) → leads long_type path ≡ false
nowhere_long [] = refl
nowhere_long (a ∷ path) = refl

pub nowhere_text : (path : List Text) → leads string_type path ≡ false
nowhere_text [] = refl
nowhere_text (a ∷ path) = refl

pub nowhere_set : (t : Ty) (path : List Text) → leads (set_type t) path ≡ false
nowhere_set t [] = refl
nowhere_set t (a ∷ path) = refl

pub nowhere_extension : (n : Name) (path : List Text) → leads (extension_type n) path ≡ false
nowhere_extension n [] = refl
nowhere_extension n (a ∷ path) = refl

-- a join leads where both sides do
abbrev LeadBoth : Ty → Ty → List Text → Type 0
LeadBoth a b path = (leads a path ≡ true) × (leads b path ≡ true)

pub named_leads : (o : Option Declared) (path : List Text) → option_map_or (λ (d : Declared). leads d.type path) o false ≡ true → (d : Declared) × (o ≡ Some d) × (leads d.type path ≡ true)
named_leads None path h = cc
named_leads (Some d) path h = (d, refl, h)

pub leads_named : (o : Option Declared) (path : List Text) (d : Declared) → o ≡ Some d → leads d.type path ≡ true → option_map_or (λ (c : Declared). leads c.type path) o false ≡ true
leads_named o path d e h = ap (λ x. option_map_or (λ (c : Declared). leads c.type path) x false) e ∙ h

astray : {P : Type 0} (t j : Ty) (path : List Text) → Some t ≡ Some j → leads t path ≡ false → leads j path ≡ true → P
astray {P} t j path e f h = absurd (lies (sym f ∙ ap (λ x. leads x path) (inside e) ∙ h))
  where
    lies : false ≡ true → ⊥
    lies q = cc

onward : (t j : Ty) (path : List Text) → Some t ≡ Some j → leads j path ≡ true → leads t path ≡ true
onward t j path e h = ap (λ x. leads x path) (inside e) ∙ h

some_set : (o : Option Ty) (j : Ty) → option_map set_type o ≡ Some j → (k : Ty) × (Some (set_type k) ≡ Some j)
some_set None j e = cc
some_set (Some k) j e = (k, e)

set_astray : {P : Type 0} (o : Option Ty) (j : Ty) (path : List Text) → option_map set_type o ≡ Some j → leads j path ≡ true → P
set_astray {P} o j path e h = let k = some_set o j e in astray (set_type k.0) j path k.1 (nowhere_set k.0 path) h

pub join_leads : (path : List Text) (a b j : Ty) → is_simple a ≡ true → is_simple b ≡ true → join strict a b ≡ Some j → leads j path ≡ true → LeadBoth a b path
join_leads path never b j v w e h = (refl, onward b j path e h)
join_leads path a never j v w e h = (onward a j path e h, refl)
join_leads path (bool_type x) (bool_type y) j v w e h = astray (bool_type (bool_join x y)) j path e (nowhere_bool (bool_join x y) path) h
join_leads path long_type long_type j v w e h = (onward long_type j path e h, onward long_type j path e h)
join_leads path string_type string_type j v w e h = (onward string_type j path e h, onward string_type j path e h)
join_leads path any_entity any_entity j v w e h = (onward any_entity j path e h, onward any_entity j path e h)
join_leads [] (entity_types ns) (entity_types ms) j v w e h = (refl, refl)
join_leads (n ∷ path) (entity_types ns) (entity_types ms) j v w e h =
    let g = given_if (are_among ns ms && are_among ms ns) (entity_types (names_of_both ns ms)) j e in
    astray (entity_types (names_of_both ns ms)) j (n ∷ path) (ap Some g.1) refl h
join_leads path any_set any_set j v w e h = (onward any_set j path e h, onward any_set j path e h)
join_leads [] any_set (set_type b) j v w e h = astray any_set j [] e refl h
join_leads (n ∷ path) any_set (set_type b) j v w e h = astray any_set j (n ∷ path) e refl h
join_leads [] (set_type a) any_set j v w e h = astray any_set j [] e refl h
join_leads (n ∷ path) (set_type a) any_set j v w e h = astray any_set j (n ∷ path) e refl h
join_leads path (set_type a) (set_type b) j v w e h = set_astray (join strict a b) j path e h
join_leads [] (record_type as_ o) (record_type bs p) j v w e h =
    let js = attributes_join strict as_ bs in
    let g = given_if (allowed strict as_ o bs p js) (record_type js (opened as_ o bs p js)) j e in
    astray (record_type js (opened as_ o bs p js)) j [] (ap Some g.1) refl h
join_leads (n ∷ path) (record_type as_ o) (record_type bs p) j v w e h =
    let js = attributes_join strict as_ bs in
    let g = given_if (allowed strict as_ o bs p js) (record_type js (opened as_ o bs p js)) j e in
    let d = named_leads (attribute_named n js) path (onward (record_type js (opened as_ o bs p js)) j (n ∷ path) (ap Some g.1) h) in
    let k = joint strict (attribute_named n as_) (attribute_named n bs) d.0 (sym (join_found as_ bs v n) ∙ d.1) in
    let r = join_leads path k.first.type k.second.type d.0.type (simple_at as_ v n k.first k.first_is) (simple_at bs w n k.second k.second_is) k.types d.2 in
    (leads_named (attribute_named n as_) path k.first k.first_is r.0, leads_named (attribute_named n bs) path k.second k.second_is r.1)
join_leads path (extension_type k) (extension_type n) j v w e h =
    let g = given_if (name_eq k n) (extension_type k) j e in
    astray (extension_type k) j path (ap Some g.1) (nowhere_extension k path) h
join_leads path a b j v w e h = cc

-- a value that is an entity is of a type of entities
pub entity_typed : (t : Ty) (u : Uid) → HasType (prim (entity u)) t → is_entity (Some t) ≡ true
entity_typed any_entity u h = refl
entity_typed (entity_types ns) u h = refl
entity_typed t u h = absurd h

-- and a type of entities leads to one
pub entity_leads : (t : Ty) → is_entity (Some t) ≡ true → leads t [] ≡ true
entity_leads any_entity h = refl
entity_leads (entity_types ns) h = refl
entity_leads t h = cc
