-- What the laws of values and patterns say.
-- Rule: values and equality; patterns (docs/RULES.md).
use Rattle.std.specs.Prelude.{◌≡◌, ◌↔◌, ℕ, true, List, Contains, Option, Some}
use Rattle.std.specs.Bool.{Decides}
use Rattle.std.specs.List.{list_all}
use Rattle.std.specs.Cmp.{IsTotalOrder}
use Rattle.std.specs.declared.cmp.Ordering.{Ordering}
use Rattle.std.specs.declared.cmp.Ordering.TheVariants.{Equal}
use Rattle.cedar_expr_model.specs.Name.{Text, Name, is_well_formed}
use Rattle.cedar_expr_model.specs.Uid.{Uid}
use Rattle.cedar_expr_model.specs.UidOrder.{name_cmp, uid_cmp}
use Rattle.cedar_expr_model.specs.Value.{V, Vs, Fields, values_list, field_of}
use Rattle.cedar_expr_model.specs.Tree.{CoreType}
use Rattle.cedar_expr_model.specs.Substitution.{IsOfType, fits_annotation}
use Rattle.cedar_expr_model.specs.Order.{name_order, uid_order, value_eq, core_eq}
use Rattle.cedar_expr_model.specs.Canonical.{is_canonical, have_canonical, are_rising, members_made, set_made, is_member}
use Rattle.cedar_expr_model.specs.SamenessLaws.{Among, FieldAmong, Same}
use Rattle.cedar_expr_model.specs.Pattern.{Pattern, Matches, matches}

-- The order is total, and it finds no difference between two things exactly where they are the same.
pub record IsLinear {K : Type 0} (R : K → K → Ordering) : Type 0 where
  pub total : IsTotalOrder R
  pub tells : (x y : K) → (R x y ≡ Equal) ↔ (x ≡ y)

-- well-formed names are in the order of their texts
abbrev pub NamesByText : Type 0
NamesByText = (m n : Name) → is_well_formed m ≡ true → is_well_formed n ≡ true → name_order m n ≡ name_cmp m n

-- so are uids of well-formed types: by the text of the type and then by the id
abbrev pub UidsByText : Type 0
UidsByText = (u v : Uid) → is_well_formed u.kind ≡ true → is_well_formed v.kind ≡ true → uid_order u v ≡ uid_cmp u v

-- the test of two values decides whether they are the same
abbrev pub ValuesDecide : Type 0
ValuesDecide = (v w : V) → Decides (value_eq v w) (v ≡ w)

-- on canonical values equality as of sets and maps is equality
abbrev pub CanonicalSame : Type 0
CanonicalSame = (v w : V) → is_canonical v ≡ true → is_canonical w ≡ true → Same v w ↔ (v ≡ w)

-- the set of canonical values is canonical
abbrev pub SetsAreCanonical : Type 0
SetsAreCanonical = (vs : List V) → list_all is_canonical vs ≡ true → is_canonical (set_made vs) ≡ true

-- the set of a list of any values rises, and a value is its member exactly where it stands in the list
abbrev pub SetsRise : Type 0
SetsRise = (vs : List V) → are_rising (members_made vs) ≡ true

abbrev pub MembersAreListed : Type 0
MembersAreListed = (v : V) (vs : List V) → Decides (is_member v (members_made vs)) (Contains vs v)

-- the test of a member decides what stands in a rising list
abbrev pub MembersDecide : Type 0
MembersDecide = (v : V) (vs : Vs) → are_rising vs ≡ true → Decides (is_member v vs) (Among v vs)

-- lists with the same members make the same set
abbrev pub SetsAreSame : Type 0
SetsAreSame = (vs ws : List V) → ((u : V) → Contains vs u ↔ Contains ws u) → set_made vs ≡ set_made ws

-- a rising list is what is made of its members
abbrev pub SetsAreMade : Type 0
SetsAreMade = (vs : Vs) → are_rising vs ≡ true → members_made (values_list vs) ≡ vs

-- In a canonical record the value that is found for a name is the one that stands there.
abbrev pub FieldsAreFound : Type 0
FieldsAreFound = (a : Text) (v : V) (fs : Fields) → have_canonical fs ≡ true → (field_of a fs ≡ Some v) ↔ FieldAmong a v fs

-- the test of a pattern decides whether it matches
abbrev pub PatternsDecide : Type 0
PatternsDecide = (p : Pattern) (cs : List ℕ) → Decides (matches p cs) (Matches p cs)

-- the tests of core types and of annotations decide
abbrev pub CoreTypesDecide : Type 0
CoreTypesDecide = (a b : CoreType) → Decides (core_eq a b) (a ≡ b)

abbrev pub AnnotationsDecide : Type 0
AnnotationsDecide = (a : Option CoreType) (v : V) → Decides (fits_annotation a v) (IsOfType a v)
