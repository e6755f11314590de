-- Contexts as types.
-- Rule: well-formed declarations (docs/RULES.md).
use Rattle.std.specs.Prelude.{◌≡◌, Bool, true, false}
use Rattle.cedar_schema_model.specs.Types.{Ty, record_type}
use Rattle.cedar_schema_model.specs.BagLaws.{HasTwice}
use Rattle.cedar_schema_model.specs.Declarations.{ActionDeclaration, Declarations, common_names}
use Rattle.cedar_schema_model.specs.Resolved.{resolved}
use Rattle.cedar_schema_model.specs.WellFormed.{becomes_record}

-- a type of records
abbrev pub is_record_type : Ty → Bool
is_record_type (record_type as_ o) = true
is_record_type t = false

-- What is written becomes a record exactly where the type that it stands for is one of records.
abbrev pub ContextsBecomeRecords : Type 0
ContextsBecomeRecords = (d : Declarations) → (HasTwice (common_names d) → ⊥) → (a : ActionDeclaration) → becomes_record d a ≡ is_record_type (resolved d a.namespace a.context)
