-- The table that a host makes is one that it looks entities up in.
use Rattle.std.specs.Prelude.{◌≡◌, ℕ, List, [], ◌∷◌, Ok, codes}
use Rattle.sqlite.specs.Compile.{table_defined_by}
use Rattle.sqlite.specs.Effect.{Database}
use Rattle.sqlite.specs.Table.{Table}
use Rattle.sqlite.specs.Tree.{Trees}
use Rattle.cedar_database_host.specs.Lookup.{IsLookup}

abbrev pub make_text : List ℕ
make_text = codes "CREATE TABLE IF NOT EXISTS entity (uid TEXT PRIMARY KEY, body TEXT NOT NULL) STRICT"

-- a database with this table alone
abbrev pub alone : Trees → Table → Database
alone trees t = record { schema = record { tables = t ∷ []; indexes = []; views = [] }; trees = trees }

-- whatever its rows are, where the text defines the table
abbrev pub LooksUpWhatIsMade : Type 0
LooksUpWhatIsMade = (trees : Trees) (t : Table) → table_defined_by make_text ≡ Ok t → IsLookup (alone trees t)
