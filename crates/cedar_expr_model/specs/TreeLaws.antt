-- What the laws of expressions say: builders, substitution, unknowns, parts, restricted expressions, evident types.
-- Rule: expressions; substitution; parts of an expression; restricted expressions; the evident type (docs/RULES.md).
use Rattle.std.specs.Prelude.{◌≡◌, ◌↔◌, ◌&&◌, Bool, true, false, Option, Some, None, option_and_then}
use Rattle.std.specs.Bool.{Decides}
use Rattle.cedar_expr_model.specs.Tree.{CoreType, extension_core, Tree}
use Rattle.cedar_expr_model.specs.Builder.{Builder, built, tree_builder}
use Rattle.cedar_expr_model.specs.BuilderForm.{IsLawful}
use Rattle.cedar_expr_model.specs.OfLaws.Built.{is_built}
use Rattle.cedar_expr_model.specs.Made.{Made, made_prim, made_set, made_record, made_extension, Mades, no_mades, made, MadeFields, no_made_fields, made_field, bare, written}
use Rattle.cedar_expr_model.specs.Substitution.{Bindings, built_under, substituted, core_type_of, mismatch}
use Rattle.cedar_expr_model.specs.Unknowns.{has_unknown, EachUnknown}
use Rattle.cedar_expr_model.specs.Restricted.{offence}
use Rattle.cedar_expr_model.specs.Table.{Table, signature_of}
use Rattle.cedar_expr_model.specs.OfLaws.Fair.{IsFair}
use Rattle.cedar_expr_model.specs.Canonical.{is_canonical}
use Rattle.cedar_expr_model.specs.ValueParts.{value_of_tree}
use Rattle.cedar_expr_model.specs.OfLaws.Represented.{IsRepresented}
use Rattle.cedar_expr_model.specs.Shape.{tree_eq}
use Rattle.cedar_expr_model.specs.Evident.{evident_type, has_valid_calls}

-- what the builder of trees makes is in the builder's form, and so is what substitution makes
abbrev pub BuiltIsBuilt : Type 0
BuiltIsBuilt = (t : Tree) → is_built (built tree_builder t) ≡ true

abbrev pub SubstitutedIsBuilt : Type 0
SubstitutedIsBuilt = (env : Bindings) (t : Tree) → is_built (substituted env t) ≡ true

-- an expression in that form is made as it is
abbrev pub BuiltStays : Type 0
BuiltStays = (t : Tree) → is_built t ≡ true → built tree_builder t ≡ t

-- making twice is making once
abbrev pub BuiltTwice : Type 0
BuiltTwice = (t : Tree) → built tree_builder (built tree_builder t) ≡ built tree_builder t

-- each unknown is bound
abbrev pub AllBound : Bindings → Tree → Type 0
AllBound env t = EachUnknown (λ n a. (m : Made) × (env n ≡ Some m)) t

-- no unknown is bound
abbrev pub NoneBound : Bindings → Tree → Type 0
NoneBound env t = EachUnknown (λ n a. env n ≡ None) t

-- where nothing in the expression is bound, substitution only makes it
abbrev pub UnboundStays : Type 0
UnboundStays = (env : Bindings) (t : Tree) → NoneBound env t → substituted env t ≡ built tree_builder t

-- where each unknown is bound, none is left
abbrev pub BoundLeavesNone : Type 0
BoundLeavesNone = (env : Bindings) (t : Tree) → AllBound env t → has_unknown (substituted env t) ≡ false

-- To substitute and then to build, through a lawful builder, is to build with each bound unknown made of its value.
abbrev pub BuildersAgree : Type 0 → Type 0
BuildersAgree B = (b : Builder B) → IsLawful b → (env : Bindings) (t : Tree) → built b (substituted env t) ≡ built_under b env t

-- a written value is restricted, has no unknown and is in the builder's form
abbrev pub WrittenIsRestricted : Type 0
WrittenIsRestricted = (m : Made) → offence (written m) ≡ None

abbrev pub WrittenHasNoUnknown : Type 0
WrittenHasNoUnknown = (m : Made) → has_unknown (written m) ≡ false

abbrev pub WrittenIsBuilt : Type 0
WrittenIsBuilt = (m : Made) → is_built (written m) ≡ true

-- The value, where there is one, is of the annotation's type, where there is one.
abbrev pub FitsBound : Option CoreType → Option Made → Type 0
FitsBound (Some a) (Some m) = a ≡ core_type_of (bare m)
FitsBound a m = Unit {0}

-- each unknown that is bound and annotated is bound to a value of that type
abbrev pub FitsAll : Bindings → Tree → Type 0
FitsAll env t = EachUnknown (λ n a. FitsBound a (env n)) t

-- there is no mismatch exactly where all bindings fit
abbrev pub MismatchDecides : Type 0
MismatchDecides = (env : Bindings) (t : Tree) → (mismatch env t ≡ None) ↔ FitsAll env t

-- an extension value's function is in the table and gives its type
abbrev pub HasResult : Table → Made → Type 0
HasResult x (made_extension n k f ps) = option_and_then (λ s. s.result) (signature_of x f) ≡ Some (extension_core n)
HasResult x m = Unit {0}

-- a written value shows its type, where the function of an extension value has it for its result
abbrev pub WrittenShowsType : Type 0
WrittenShowsType = (x : Table) (m : Made) → HasResult x m → evident_type x (written m) ≡ Some (core_type_of (bare m))

-- no extension value stands in it
abbrev mutual
  pub is_plain : Made → Bool
  is_plain (made_prim p) = true
  is_plain (made_set ms) = are_plain ms
  is_plain (made_record fs) = have_plain fs
  is_plain (made_extension n k f ps) = false

  pub are_plain : Mades → Bool
  are_plain no_mades = true
  are_plain (made m ms) = is_plain m && are_plain ms

  pub have_plain : MadeFields → Bool
  have_plain no_made_fields = true
  have_plain (made_field a m fs) = is_plain m && have_plain fs

-- the expression of a canonical value is that value, where no extension value stands in it
abbrev pub WrittenIsValue : Type 0
WrittenIsValue = (m : Made) → is_plain m ≡ true → is_canonical (bare m) ≡ true → value_of_tree (written m) ≡ Some (bare m)

-- expressions of one shape are the same
abbrev pub ShapesDecide : Type 0
ShapesDecide = (t u : Tree) → Decides (tree_eq t u) (t ≡ u)

-- under a fair table a represented value shows its type when written
abbrev pub RepresentedHasResult : Type 0
RepresentedHasResult = (x : Table) (m : Made) → IsFair x → IsRepresented x m → HasResult x m

-- the calls of a represented value name functions of the table and have right counts of arguments
abbrev pub RepresentedIsValid : Type 0
RepresentedIsValid = (x : Table) (m : Made) → IsRepresented x m → has_valid_calls x (written m) ≡ true
