-- When what is declared in a namespace stands in the empty one too.
-- Rule: well-formed declarations (docs/RULES.md).
use Rattle.std.specs.Prelude.{◌≡◌, ◌&&◌, ◌||◌, not, Bool, Option, Some, find, option_map}
use Rattle.std.specs.List.{list_any}
use Rattle.std.specs.Option.{option_or}
use Rattle.cedar_expr_model.specs.Name.{Name, name_eq}
use Rattle.cedar_expr_model.specs.Uid.{Uid}
use Rattle.cedar_expr_model.specs.Names.{is_unqualified, unqualified}
use Rattle.cedar_expr_names.specs.Views.{name_of, uid_of}
use Rattle.cedar_schema_model.specs.WellFormed.{unqualified_uid}
use Rattle.cedar_schema_decl.specs.Defined.{Defined, is_defined_action}
use Rattle.cedar_schema_decl.specs.declared.err.ShadowingError.{ShadowingError}
use Rattle.cedar_schema_decl.specs.declared.err.ShadowingError.TheVariants.{OutOfMemory, TypeShadowing, ActionShadowing}

-- whether a type of either kind has this name
abbrev pub is_type : Defined → Name → Bool
is_type s n = list_any (name_eq n) s.commons || list_any (name_eq n) s.entities

-- whether a type, or an action, of a namespace has the last name, or the id, of one of the empty namespace
abbrev pub type_shadows : Defined → Name → Bool
type_shadows s n = not (is_unqualified n) && is_type s (unqualified n.base)

abbrev pub action_shadows : Defined → Uid → Bool
action_shadows s u = not (is_unqualified u.kind) && is_defined_action s (unqualified_uid u)

-- what shadows: a type, or an action
pub data Shadowing : Type 0 where
  shadowing_type : Name → Shadowing
  shadowing_action : Uid → Shadowing

-- The first that shadows: of the common types, of the entity types, and then of the actions.
abbrev pub first_shadowing : Defined → Option Shadowing
first_shadowing s = option_or (option_map shadowing_type (find (type_shadows s) s.commons)) (option_or (option_map shadowing_type (find (type_shadows s) s.entities)) (option_map shadowing_action (find (action_shadows s) s.actions)))

-- The error tells what shadows. Out of memory tells nothing.
abbrev pub TellsShadowing : Option Shadowing → ShadowingError → Type 0
TellsShadowing o OutOfMemory = Unit {0}
TellsShadowing o (TypeShadowing n) = o ≡ Some (shadowing_type (name_of n))
TellsShadowing o (ActionShadowing u) = o ≡ Some (shadowing_action (uid_of u))
