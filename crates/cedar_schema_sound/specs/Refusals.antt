-- What a refusal tells.
-- Rule: schemas; descent; well-formed declarations (docs/RULES.md).
use Rattle.std.specs.Prelude.{◌≡◌, List, Option, Some, None}
use Rattle.cedar_expr_model.specs.Name.{Name}
use Rattle.cedar_expr_names.specs.Views.{plain_name_of, type_name_of, uid_of}
use Rattle.cedar_schema_model.specs.Kept.{Kept}
use Rattle.cedar_schema_assembly.specs.Lists.{IsSetOf}
use Rattle.cedar_schema_model.specs.Unsound.{first_fault, Unsound, undeclared_type, unknown_extension, type_as_action, type_left_out, undeclared_action, action_of_other_type, open_context, action_below_itself, action_left_out}
use Rattle.cedar_schema_sound.specs.declared.err.UnsoundSchemaError.{UnsoundSchemaError}
use Rattle.cedar_schema_sound.specs.declared.err.UnsoundSchemaError.TheVariants.{OutOfMemory, UndeclaredType, UnknownExtensionType, TypeNamedAction, TypeLeftOut, UndeclaredAction, ActionOfOtherType, ContextNotClosedRecord, ActionBelowItself, ActionLeftOut}

-- what is wrong. Out of memory tells nothing.
abbrev pub refusal : UnsoundSchemaError → Option Unsound
refusal OutOfMemory = None
refusal (UndeclaredType t) = Some (undeclared_type (type_name_of t))
refusal (UnknownExtensionType n) = Some (unknown_extension (plain_name_of n))
refusal (TypeNamedAction t) = Some (type_as_action (type_name_of t))
refusal (TypeLeftOut t m) = Some (type_left_out (type_name_of t) (type_name_of m))
refusal (UndeclaredAction u) = Some (undeclared_action (uid_of u))
refusal (ActionOfOtherType u) = Some (action_of_other_type (uid_of u))
refusal (ContextNotClosedRecord u) = Some (open_context (uid_of u))
refusal (ActionBelowItself u) = Some (action_below_itself (uid_of u))
refusal (ActionLeftOut u v) = Some (action_left_out (uid_of u) (uid_of v))

-- What the error tells is what was found.
abbrev pub Refuses : Option Unsound → UnsoundSchemaError → Type 0
Refuses o e = (f : Unsound) → refusal e ≡ Some f → o ≡ Some f

-- What it tells comes first, where the extension types that are known are these in some order.
abbrev pub RefusesBy : List Name → Kept → UnsoundSchemaError → Type 0
RefusesBy x k e = (f : Unsound) → refusal e ≡ Some f → (y : List Name) × IsSetOf x y × (first_fault y k ≡ Some f)
