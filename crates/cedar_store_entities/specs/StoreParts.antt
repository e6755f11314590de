-- What the entities of a code store are as the model's.
-- Rule: the store (docs/RULES.md).
use Rattle.std.specs.Prelude.{List, map}
use Rattle.cedar_expr_model.specs.Uid.{Uid}
use Rattle.cedar_store_model.specs.Store.{Entities}
use Rattle.cedar_store_entities.specs.Views.{entity_pair, Kept, kept_pair}
use Rattle.cedar_store_entities.specs.declared.entity.Entity.{Entity}

-- the entities; and all that is kept of each
abbrev pub entities_in : List Entity → Entities
entities_in es = map entity_pair es

abbrev pub kept_in : List Entity → List (Uid × Kept)
kept_in es = map kept_pair es
