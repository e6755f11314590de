-- What the laws of the code's types say.
-- Rule: subtypes; values of a type; joins (docs/RULES.md).
use Rattle.std.specs.Prelude.{◌≡◌, ◌↔◌, List, true, map, Some, Contains}
use Rattle.std.specs.List.{list_all}
use Rattle.cedar_expr_values.specs.Extension.{Extension}
use Rattle.cedar_expr_values.specs.Values.{bare}
use Rattle.cedar_expr_values.specs.declared.value.Value.{Value}
use Rattle.cedar_schema_model.specs.Types.{Ty}
use Rattle.cedar_schema_model.specs.Subtype.{is_subtype}
use Rattle.cedar_schema_model.specs.Join.{join, reduce_to_join, are_disjoint}
use Rattle.cedar_schema_model.specs.HasType.{has_type}
use Rattle.cedar_schema_model.specs.OfLaws.Formed.{is_well_formed_type}
use Rattle.cedar_schema_model.specs.TypeLaws.{has_no_any_set}
use Rattle.cedar_schema_types.specs.Types.{type_of}
use Rattle.cedar_schema_types.specs.declared.types.Type.{«Type» as CodeType}
use Rattle.cedar_schema_joins.specs.Modes.{mode_of}
use Rattle.cedar_store_parts.specs.declared.validation_mode.ValidationMode.{ValidationMode}

-- the type is well-formed, as each is
abbrev pub Formed : CodeType → Type 0
Formed t = is_well_formed_type (type_of t) ≡ true

-- the type of all sets stands nowhere in it
abbrev pub Free : CodeType → Type 0
Free t = has_no_any_set (type_of t) ≡ true

-- the first type is below the second
abbrev pub Below : ValidationMode → CodeType → CodeType → Type 0
Below m a b = is_subtype (mode_of m) (type_of a) (type_of b) ≡ true

-- the two types join to the third
abbrev pub Joins : ValidationMode → CodeType → CodeType → CodeType → Type 0
Joins m a b j = join (mode_of m) (type_of a) (type_of b) ≡ Some (type_of j)

-- a type is below itself
abbrev pub SubtypesReflexive : Type 0
SubtypesReflexive = (m : ValidationMode) (a : CodeType) → Formed a → Below m a a

-- what is below a type is below all that are above it
abbrev pub SubtypesTransitive : Type 0
SubtypesTransitive = (m : ValidationMode) (a b c : CodeType) → Below m a b → Below m b c → Below m a c

-- types below each other are the same
abbrev pub SubtypesAntisymmetric : Type 0
SubtypesAntisymmetric = (m : ValidationMode) (a b : CodeType) → Formed a → Formed b → Below m a b → Below m b a → type_of a ≡ type_of b

-- a join is above both
abbrev pub JoinIsAbove : Type 0
JoinIsAbove = (m : ValidationMode) (a b j : CodeType) → Formed a → Formed b → Joins m a b j → Below m a j × Below m b j

-- and below every type that is above both and in which the type of all sets stands nowhere
abbrev pub JoinIsLeast : Type 0
JoinIsLeast = (m : ValidationMode) (a b j c : CodeType) → Formed a → Formed b → Joins m a b j → Free c → Below m a c → Below m b c → Below m j c

-- the order of the two doesn't matter
abbrev pub JoinSwaps : Type 0
JoinSwaps = (m : ValidationMode) (a b : CodeType) → Formed a → Formed b → join (mode_of m) (type_of a) (type_of b) ≡ join (mode_of m) (type_of b) (type_of a)

-- without the type of all sets neither the order of several types nor how often one stands among them matters
abbrev pub ReductionIsOfMembers : Type 0
ReductionIsOfMembers =
    (m : ValidationMode) (ts us : List CodeType) → list_all is_well_formed_type (map type_of ts) ≡ true → list_all is_well_formed_type (map type_of us) ≡ true
    → list_all has_no_any_set (map type_of ts) ≡ true → list_all has_no_any_set (map type_of us) ≡ true
    → ((t : Ty) → Contains (map type_of ts) t ↔ Contains (map type_of us) t) → reduce_to_join (mode_of m) (map type_of ts) ≡ reduce_to_join (mode_of m) (map type_of us)

module _ {X : Type 0} (seen : X → Extension) where
  -- a value of a type is a value of every type above it
  abbrev pub SupertypesKeepValues : Type 0
  SupertypesKeepValues = (m : ValidationMode) (a b : CodeType) (v : Value X) → Below m a b → has_type (bare seen v) (type_of a) ≡ true → has_type (bare seen v) (type_of b) ≡ true

  -- no value is of both of two disjoint types
  abbrev pub DisjointShareNoValue : Type 0
  DisjointShareNoValue = (a b : CodeType) (v : Value X) → are_disjoint (type_of a) (type_of b) ≡ true → has_type (bare seen v) (type_of a) ≡ true → has_type (bare seen v) (type_of b) ≡ true → ⊥
