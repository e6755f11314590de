-- What is printed by the functions `rank` and `label`.
-- Rule: extension functions; the lines (docs/RULES.md).
use Rattle.std.specs.Prelude.{ℕ, List}
use Rattle.cedar_expr_model.specs.Name.{Text}
use Rattle.cedar_expr_model.specs.Table.{Table}
use Rattle.cedar_gate_model.specs.Headline.{Promises}
use Rattle.cedar_gate_model.specs.Lines.{Status, Prints}
use Rattle.cedar_gate_model.specs.ReadingBundle.{input_read}
use Rattle.cedargate_functions.specs.Tables.{HoldsRanks, rank_functions}

-- Whether this status and text may be printed for these bytes, by a table that holds the functions.
abbrev pub PrintsByRanks : List ℕ → Status → Text → Type 0
PrintsByRanks bytes status text = (x : Table) × HoldsRanks x × Prints (rank_functions x) (input_read (rank_functions x) bytes) status text

-- Whether these keep the promises of the headline by such a table.
abbrev pub PromisesByRanks : List ℕ → Status → Text → Type 0
PromisesByRanks bytes status text = (x : Table) × HoldsRanks x × Promises (rank_functions x) (input_read (rank_functions x) bytes) status text
