-- What an error reports.
-- Rule: references (docs/RULES.md).
use Rattle.std.specs.Prelude.{◌≡◌, Option, Some, None}
use Rattle.std.specs.Rc.{rc_str_bytes}
use Rattle.std.specs.declared.result.Result.{Result}
use Rattle.std.specs.declared.result.Result.TheVariants.{Err}
use Rattle.cedar_expr_model.specs.Name.{Text, Name}
use Rattle.cedar_expr_names.specs.Views.{refused_name_of}
use Rattle.cedar_schema_decl.specs.Conditional.{Conditional, conditional_of}
use Rattle.cedar_schema_fragments.specs.declared.err.FragmentError.{FragmentError}
use Rattle.cedar_schema_fragments.specs.declared.err.FragmentError.TheVariants.{OutOfMemory, TypeNotDefined, ActionNotDefined, ReservedName}

-- Why declarations are refused: a name of a type that means nothing, a parent of an action that means nothing, or a reserved name.
pub data Refusal : Type 0 where
  no_type : Conditional → Refusal
  no_action : Conditional × Text → Refusal
  reserved_type : Name → Refusal

-- what is refused. Out of memory reports nothing.
abbrev pub refusal : FragmentError → Option Refusal
refusal OutOfMemory = None
refusal (TypeNotDefined c) = Some (no_type (conditional_of c))
refusal (ActionNotDefined c id) = Some (no_action (conditional_of c, rc_str_bytes id))
refusal (ReservedName e) = Some (reserved_type (refused_name_of e))

-- The refusal that the error reports is the outcome.
abbrev pub Refuses : {B : Type 0} → Result B Refusal → FragmentError → Type 0
Refuses o e = (r : Refusal) → refusal e ≡ Some r → o ≡ Err r
