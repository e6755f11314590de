-- What the laws of built schemas say.
-- Rule: schemas; typing (docs/RULES.md).
use Rattle.std.specs.Prelude.{◌≡◌, List, true}
use Rattle.cedar_expr_model.specs.Name.{Name}
use Rattle.cedar_expr_leaves.specs.declared.conditional_name.ConditionalName.{ConditionalName}
use Rattle.cedar_schema_model.specs.Declarations.{Declarations}
use Rattle.cedar_schema_model.specs.Resolved.{schema_of}
use Rattle.cedar_schema_model.specs.Kept.{Kept}
use Rattle.cedar_schema_model.specs.Unsound.{is_sound}
use Rattle.cedar_schema_fragments.specs.WrittenDeclarations.{AreWritten}
use Rattle.cedar_schema_fragments.specs.declared.namespace_def.ValidatorSchemaFragment.{ValidatorSchemaFragment}
use Rattle.cedar_schema_built.specs.BuiltOf.{IsBuiltOf, IsBuiltOfFormed}
use Rattle.cedar_typechecker_model.specs.Alike.{AnswersAlike}
use Rattle.cedar_typechecker_model.specs.Seen.{schema_seen, IsClosed}

-- What is built of fragments is closed.
abbrev pub BuiltAreClosed : Type 0
BuiltAreClosed = (x : List Name) (fs : List (ValidatorSchemaFragment ConditionalName ConditionalName)) (k : Kept) → IsBuiltOfFormed x fs k → IsClosed k

-- Where declarations write them it answers as their schema.
abbrev pub BuiltAnswerAlike : Type 0
BuiltAnswerAlike = (x : List Name) (fs : List (ValidatorSchemaFragment ConditionalName ConditionalName)) (k : Kept) → IsBuiltOf x fs k → (d : Declarations) → AreWritten fs d → AnswersAlike (schema_of d) (schema_seen k)

-- What is sound, whichever extension types are known, is closed.
abbrev pub SoundIsClosed : Kept → Type 0
SoundIsClosed k = (x : List Name) → is_sound x k ≡ true → IsClosed k
