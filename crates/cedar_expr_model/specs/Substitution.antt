-- Substitution of values for unknowns.
-- Rule: substitution (docs/RULES.md).
use Rattle.std.specs.Prelude.{◌≡◌, Bool, true, Option, Some, None, if◌then◌else◌}
use Rattle.std.specs.Option.{option_map_or}
use Rattle.cedar_expr_model.specs.Name.{Text}
use Rattle.cedar_expr_model.specs.Value.{truth, long, text, entity, V, prim, set_of, record_of, extension}
use Rattle.cedar_expr_model.specs.Tree.{CoreType, bool_core, long_core, string_core, set_core, record_core, entity_core, extension_core, Tree}
use Rattle.cedar_expr_model.specs.Order.{core_eq}
use Rattle.cedar_expr_model.specs.Lists.{first_found}
use Rattle.cedar_expr_model.specs.Parts.{unknowns}
use Rattle.cedar_expr_model.specs.Builder.{Builder, built, tree_builder}
use Rattle.cedar_expr_model.specs.Made.{Made, bare, written}

-- An environment binds unknowns by name.
abbrev pub Bindings : Type 0
Bindings = Text → Option Made

-- what the builder makes of an expression under bindings: of an unknown that is bound, what it makes of its value
abbrev pub built_under : {B : Type 0} → Builder B → Bindings → Tree → B
built_under b env t = built (record b { of_unknown = λ n a. option_map_or (λ m. built b (written m)) (env n) (b.of_unknown n a) }) t

-- the expression under bindings
abbrev pub substituted : Bindings → Tree → Tree
substituted env t = built_under tree_builder env t

-- the core type of a value
abbrev pub core_type_of : V → CoreType
core_type_of (prim (truth b)) = bool_core
core_type_of (prim (long n)) = long_core
core_type_of (prim (text s)) = string_core
core_type_of (prim (entity u)) = entity_core u.kind
core_type_of (set_of vs) = set_core
core_type_of (record_of fs) = record_core
core_type_of (extension n k) = extension_core n

-- the annotation, where there is one, is the value's type; and the test
abbrev pub IsOfType : Option CoreType → V → Type 0
IsOfType None v = Unit {0}
IsOfType (Some a) v = a ≡ core_type_of v

abbrev pub fits_annotation : Option CoreType → V → Bool
fits_annotation a v = option_map_or (λ c. core_eq c (core_type_of v)) a true

-- an unknown bound to a value of another type than its annotation
pub record Mismatch : Type 0 where
  pub name : Text
  pub annotation : CoreType
  pub actual : CoreType

abbrev pub mismatch_at : Text → Option CoreType → Option Made → Option Mismatch
mismatch_at n (Some a) (Some m) = if core_eq a (core_type_of (bare m)) then None else Some (record { name = n; annotation = a; actual = core_type_of (bare m) })
mismatch_at n a m = None

-- the leftmost mismatch in an expression, the fields of a record in the order of their names
abbrev pub mismatch : Bindings → Tree → Option Mismatch
mismatch env t = first_found (λ u. mismatch_at u.name u.annotation (env u.name)) (unknowns t)
