-- What the laws of sound schemas say.
-- Rule: schemas; descent; well-formed declarations (docs/RULES.md).
use Rattle.std.specs.Prelude.{◌≡◌, List, None}
use Rattle.std.specs.Bool.{Decides}
use Rattle.cedar_expr_model.specs.Name.{Name}
use Rattle.cedar_schema_model.specs.Declarations.{Declarations}
use Rattle.cedar_schema_model.specs.Resolved.{schema_of}
use Rattle.cedar_schema_model.specs.WellFormed.{IsWellFormed}
use Rattle.cedar_schema_model.specs.Kept.{Kept}
use Rattle.cedar_schema_model.specs.KeptOf.{IsKeptOf}
use Rattle.cedar_schema_model.specs.Sound.{IsSound}
use Rattle.cedar_schema_model.specs.Unsound.{first_fault, is_sound}

-- The search decides whether a schema is what it has to be.
abbrev pub SoundDecides : Type 0
SoundDecides = (x : List Name) (k : Kept) → Decides (is_sound x k) (IsSound x k)

-- What is kept of the schema of well-formed declarations is what it has to be, for the same extension types.
abbrev pub KeptAreSound : Type 0
KeptAreSound = (x : List Name) (d : Declarations) (k : Kept) → IsWellFormed x d → IsKeptOf (schema_of d) k → IsSound x k

-- So nothing is found wrong with it.
abbrev pub KeptAreFaultless : Type 0
KeptAreFaultless = (x : List Name) (d : Declarations) (k : Kept) → IsWellFormed x d → IsKeptOf (schema_of d) k → first_fault x k ≡ None
