-- What the laws of types say.
-- Rule: subtypes; values of a type; joins; attributes of a type (docs/RULES.md).
use Rattle.std.specs.Prelude.{◌≡◌, ◌↔◌, List, true, false, Option, Some, is_some, MatchOption, Contains, Bool, ◌&&◌, None}
use Rattle.std.specs.Bool.{Decides, beq}
use Rattle.std.specs.List.{list_all}
use Rattle.cedar_expr_model.specs.Name.{Text, Name}
use Rattle.cedar_expr_model.specs.SamenessLaws.{Among}
use Rattle.cedar_expr_model.specs.Canonical.{is_canonical}
use Rattle.cedar_expr_model.specs.Value.{V, Vs, set_of, record_of, Fields, field_of}
use Rattle.cedar_schema_model.specs.Types.{Ty, never, entity_types, set_type, Declared, attribute_named, Mode, strict, permissive, any_entity, any_set, record_type, Attributes, no_attributes, attribute}
use Rattle.cedar_schema_model.specs.Schema.{Schema}
use Rattle.cedar_schema_model.specs.Subtype.{are_among, are_named, is_closed_record}
use Rattle.cedar_schema_model.specs.OfLaws.Formed.{Below, is_well_formed_type}
use Rattle.cedar_schema_model.specs.HasType.{HasType, has_type}
use Rattle.cedar_schema_model.specs.Join.{join, reduce_to_join, are_disjoint}
use Rattle.cedar_schema_model.specs.Lookup.{declared_of, lookup_attribute, may_have_attribute}

-- the attribute is declared, with a type that passes, and required exactly where that is asked
abbrev pub is_declared_alike : (Ty → Bool) → Bool → Option Declared → Bool
is_declared_alike test r None = false
is_declared_alike test r (Some d) = test d.type && beq d.is_required r

-- At every place where the two are compared, entities are of the same type and records have the same names and required
-- flags, and both are open or neither is.
abbrev mutual
  pub is_alike : Ty → Ty → Bool
  is_alike any_entity (entity_types ms) = false
  is_alike (entity_types ns) any_entity = false
  is_alike (entity_types ns) (entity_types ms) = are_among ns ms && are_among ms ns
  is_alike (set_type a) (set_type b) = is_alike a b
  is_alike (record_type as_ o) (record_type bs p) = beq (is_closed_record o) (is_closed_record p) && (are_named as_ bs && have_alike as_ bs)
  is_alike a b = true

  -- the first attributes have each of the second, alike
  pub have_alike : Attributes → Attributes → Bool
  have_alike as_ no_attributes = true
  have_alike as_ (attribute n t r bs) = is_declared_alike (λ a. is_alike a t) r (attribute_named n as_) && have_alike as_ bs

-- `any_set` stands nowhere in the type.
abbrev mutual
  pub has_no_any_set : Ty → Bool
  has_no_any_set any_set = false
  has_no_any_set (set_type t) = has_no_any_set t
  has_no_any_set (record_type as_ o) = have_no_any_set as_
  has_no_any_set t = true

  pub have_no_any_set : Attributes → Bool
  have_no_any_set no_attributes = true
  have_no_any_set (attribute n t r as_) = has_no_any_set t && have_no_any_set as_

-- All parts of the type have values, and all attributes are required: `never` stands nowhere in it.
abbrev mutual
  pub is_filled : Ty → Bool
  is_filled never = false
  is_filled (set_type t) = is_filled t
  is_filled (record_type as_ o) = are_filled as_
  is_filled t = true

  pub are_filled : Attributes → Bool
  are_filled no_attributes = true
  are_filled (attribute n t r as_) = r && (is_filled t && are_filled as_)

-- the type is well-formed
abbrev pub Formed : Ty → Type 0
Formed a = is_well_formed_type a ≡ true

-- `any_set` stands nowhere in it
abbrev pub Free : Ty → Type 0
Free a = has_no_any_set a ≡ true

-- a type is below itself
abbrev pub SubtypesReflexive : Type 0
SubtypesReflexive = (m : Mode) (a : Ty) → Formed a → Below m a a

-- what is below a type is below all that are above it
abbrev pub SubtypesTransitive : Type 0
SubtypesTransitive = (m : Mode) (a b c : Ty) → Below m a b → Below m b c → Below m a c

-- types below each other are the same
abbrev pub SubtypesAntisymmetric : Type 0
SubtypesAntisymmetric = (m : Mode) (a b : Ty) → Formed a → Formed b → Below m a b → Below m b a → a ≡ b

-- strict subtypes are permissive ones
abbrev pub StrictIsPermissive : Type 0
StrictIsPermissive = (a b : Ty) → Below strict a b → Below permissive a b

-- strict is permissive where the two are alike at every place where they are compared
abbrev pub StrictSubtypesExactly : Type 0
StrictSubtypesExactly = (a b : Ty) → Below strict a b ↔ (Below permissive a b × (is_alike a b ≡ true))

-- Where all parts of both have values and all attributes are required, a type is below another exactly where its values are
-- values of the other.
abbrev pub SubtypesAreInclusions : Type 0
SubtypesAreInclusions = (a b : Ty) → Formed a → Formed b → is_filled a ≡ true → is_filled b ≡ true → Below permissive a b ↔ ((v : V) → is_canonical v ≡ true → HasType v a → HasType v b)

-- the test of a value decides whether it is of the type
abbrev pub HasTypeDecides : Type 0
HasTypeDecides = (v : V) (t : Ty) → Decides (has_type v t) (HasType v t)

-- a set is of a type where each member is
abbrev pub SetsByMembers : Type 0
SetsByMembers = (t : Ty) (vs : Vs) → HasType (set_of vs) (set_type t) ↔ ((v : V) → Among v vs → HasType v t)

-- a value of a type is a value of every type above it
abbrev pub SupertypesKeepValues : Type 0
SupertypesKeepValues = (m : Mode) (a b : Ty) (v : V) → Below m a b → HasType v a → HasType v b

-- no value is of `never`
abbrev pub NeverHasNoValue : Type 0
NeverHasNoValue = (v : V) → HasType v never → ⊥

-- no value is of both of two disjoint types
abbrev pub DisjointShareNoValue : Type 0
DisjointShareNoValue = (a b : Ty) (v : V) → are_disjoint a b ≡ true → HasType v a → HasType v b → ⊥

-- of two types of which one is below the other, the greater
abbrev pub JoinOfOrdered : Type 0
JoinOfOrdered = (m : Mode) (a b : Ty) → Formed a → Formed b → Below m a b → join m a b ≡ Some b

-- a join is above both
abbrev pub JoinIsAbove : Type 0
JoinIsAbove = (m : Mode) (a b j : Ty) → Formed a → Formed b → join m a b ≡ Some j → Below m a j × Below m b j

-- a join is below every upper bound in which `any_set` stands nowhere
abbrev pub JoinIsLeast : Type 0
JoinIsLeast = (m : Mode) (a b j c : Ty) → Formed a → Formed b → join m a b ≡ Some j → Free c → Below m a c → Below m b c → Below m j c

-- swapping the two changes neither whether there is a join nor which
abbrev pub JoinSwaps : Type 0
JoinSwaps = (m : Mode) (a b : Ty) → Formed a → Formed b → join m a b ≡ join m b a

-- where the strict join exists the permissive one is the same
abbrev pub StrictJoinIsPermissive : Type 0
StrictJoinIsPermissive = (a b j : Ty) → Formed a → Formed b → join strict a b ≡ Some j → join permissive a b ≡ Some j

-- the permissive join is the strict one exactly where it is strictly above both
abbrev pub StrictJoinsExactly : Type 0
StrictJoinsExactly = (a b j : Ty) → Formed a → Formed b → (join strict a b ≡ Some j) ↔ ((join permissive a b ≡ Some j) × Below strict a j × Below strict b j)

-- a join exists wherever there is an upper bound without `any_set`
abbrev pub JoinExists : Type 0
JoinExists = (m : Mode) (a b c : Ty) → Formed a → Formed b → Free c → Below m a c → Below m b c → is_some (join m a b) ≡ true

-- and, between types without it, only there
abbrev pub JoinExistsExactly : Type 0
JoinExistsExactly = (m : Mode) (a b : Ty) → Formed a → Formed b → Free a → Free b → (is_some (join m a b) ≡ true) ↔ ((c : Ty) × Free c × Below m a c × Below m b c)

-- a join of well-formed types is well-formed
abbrev pub JoinIsFormed : Type 0
JoinIsFormed = (m : Mode) (a b j : Ty) → Formed a → Formed b → join m a b ≡ Some j → Formed j

-- a join of types without `any_set` has none
abbrev pub JoinIsFree : Type 0
JoinIsFree = (m : Mode) (a b j : Ty) → Free a → Free b → join m a b ≡ Some j → Free j

-- the join of several types is above each
abbrev pub ReductionIsAbove : Type 0
ReductionIsAbove = (m : Mode) (ts : List Ty) (j : Ty) → list_all is_well_formed_type ts ≡ true → reduce_to_join m ts ≡ Some j → (t : Ty) → Contains ts t → Below m t j

-- it exists wherever there is an upper bound without `any_set`, and is below it
abbrev pub ReductionIsLeast : Type 0
ReductionIsLeast = (m : Mode) (ts : List Ty) (c : Ty) → list_all is_well_formed_type ts ≡ true → Free c → ((t : Ty) → Contains ts t → Below m t c) → (j : Ty) × (reduce_to_join m ts ≡ Some j) × Below m j c

-- without `any_set` neither the order of the types nor how often one stands among them matters
abbrev pub ReductionIsOfMembers : Type 0
ReductionIsOfMembers = (m : Mode) (ts us : List Ty) → list_all is_well_formed_type ts ≡ true → list_all is_well_formed_type us ≡ true → list_all has_no_any_set ts ≡ true → list_all has_no_any_set us ≡ true → ((t : Ty) → Contains ts t ↔ Contains us t) → reduce_to_join m ts ≡ reduce_to_join m us

-- the types of the schema's attributes are well-formed and have no `any_set`
abbrev pub HasPlainAttributes : Schema → Type 0
HasPlainAttributes s = (a : Text) (n : Name) (d : Declared) → declared_of s a n ≡ Some d → Formed d.type × Free d.type

-- declared with a type below, and required where that one is
abbrev pub DeclaredBelow : Option Declared → Declared → Type 0
DeclaredBelow x e = (d : Declared) × (x ≡ Some d) × Below permissive d.type e.type × (e.is_required ≡ true → d.is_required ≡ true)

-- What a union knows of an attribute each member declares, with a type below, and required where the union says so.
abbrev pub UnionKnowsWhatAllDeclare : Type 0
UnionKnowsWhatAllDeclare = (s : Schema) (ns : List Name) (a : Text) (e : Declared) → HasPlainAttributes s → lookup_attribute s (entity_types ns) a ≡ Some e → (n : Name) → Contains ns n → DeclaredBelow (declared_of s a n) e

-- What all members declare below one type without `any_set` a union knows, with a type below, and required where all require it.
abbrev pub UnionKnowsAll : Type 0
UnionKnowsAll = (s : Schema) (ns : List Name) (a : Text) (e : Declared) → HasPlainAttributes s → Free e.type → ((n : Name) → Contains ns n → DeclaredBelow (declared_of s a n) e) → DeclaredBelow (lookup_attribute s (entity_types ns) a) e

-- A larger union knows no more, and no narrower type.
abbrev pub LargerUnionKnowsLess : Type 0
LargerUnionKnowsLess = (s : Schema) (ns ms : List Name) (a : Text) (e : Declared) → HasPlainAttributes s → Below permissive (entity_types ns) (entity_types ms) → lookup_attribute s (entity_types ms) a ≡ Some e → DeclaredBelow (lookup_attribute s (entity_types ns) a) e

-- the field of a value of a record type is as declared, and is there where it is required
abbrev pub RecordsHaveWhatIsDeclared : Type 0
RecordsHaveWhatIsDeclared = (s : Schema) (t : Ty) (fs : Fields) (a : Text) (d : Declared) → HasType (record_of fs) t → lookup_attribute s t a ≡ Some d → MatchOption (field_of a fs) (d.is_required ≡ false) (λ v. HasType v d.type)

-- a record that has the field is of a type that may have it
abbrev pub RecordsMayHaveWhatTheyHave : Type 0
RecordsMayHaveWhatTheyHave = (s : Schema) (t : Ty) (fs : Fields) (a : Text) → HasType (record_of fs) t → is_some (field_of a fs) ≡ true → may_have_attribute s t a ≡ true

-- what is looked up may be there
abbrev pub LookedUpMayBeThere : Type 0
LookedUpMayBeThere = (s : Schema) (t : Ty) (a : Text) → Formed t → is_some (lookup_attribute s t a) ≡ true → may_have_attribute s t a ≡ true
