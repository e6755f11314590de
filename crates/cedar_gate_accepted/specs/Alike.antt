-- That what is kept is that of a schema, as it can be held with a value.
-- Rule: schemas (docs/RULES.md).
use Rattle.cedar_schema_model.specs.Kept.{Kept}
use Rattle.cedar_schema_model.specs.KeptOf.{IsKeptOf}
use Rattle.cedar_schema_model.specs.Schema.{Schema}

-- It can't be that this isn't kept of the schema. So each test that what is kept of a schema answers as the schema does is answered so.
pub record IsKeptByTests (s : Schema) (k : Kept) : Type 0 where
  pub tested : (IsKeptOf s k → ⊥) → ⊥
