-- Worlds of which the store alone is known.
-- Rule: the store (docs/RULES.md).
use Rattle.std.specs.Prelude.{[], None}
use Rattle.cedar_expr_model.specs.Table.{Table, fails}
use Rattle.cedar_store_model.specs.World.{World}
use Rattle.cedar_store_model.specs.Store.{Store, OpenRequest, world_of}

-- the table without functions
abbrev pub no_functions : Table
no_functions = record { functions = []; ordered = []; answers = λ f vs. fails f }

-- the request of which nothing is known
abbrev pub open_throughout : OpenRequest
open_throughout = record { principal = None; action = None; resource = None; context = None }

-- the world of which this store alone is known
abbrev pub store_alone : Store → World
store_alone s = world_of no_functions (λ n. None) open_throughout s
