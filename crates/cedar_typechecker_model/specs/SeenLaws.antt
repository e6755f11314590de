-- What the laws of a schema as it is seen say.
-- Rule: schemas; descent; typing; the scope rules (docs/RULES.md).
use Rattle.cedar_schema_model.specs.Declarations.{Declarations}
use Rattle.cedar_schema_model.specs.Resolved.{schema_of}
use Rattle.cedar_schema_model.specs.Schema.{Schema}
use Rattle.cedar_schema_model.specs.Kept.{Kept}
use Rattle.cedar_schema_model.specs.KeptOf.{IsKeptOf}
use Rattle.cedar_typechecker_model.specs.Alike.{AnswersAlike, DescendsToDeclared}
use Rattle.cedar_typechecker_model.specs.Seen.{schema_seen, IsClosed}

-- What is kept of a schema is closed.
abbrev pub KeptAreClosed : Type 0
KeptAreClosed = (s : Schema) (k : Kept) → IsKeptOf s k → IsClosed k

-- What is kept of a schema in which what descends leads to what is declared answers as the schema does;
abbrev pub SeenAnswerAlike : Type 0
SeenAnswerAlike = (s : Schema) (k : Kept) → IsKeptOf s k → DescendsToDeclared s → AnswersAlike s (schema_seen k)

-- the schema of declarations is such a one.
abbrev pub DeclaredDescend : Type 0
DeclaredDescend = (d : Declarations) → DescendsToDeclared (schema_of d)

abbrev pub DeclaredAnswerAlike : Type 0
DeclaredAnswerAlike = (d : Declarations) (k : Kept) → IsKeptOf (schema_of d) k → AnswersAlike (schema_of d) (schema_seen k)
