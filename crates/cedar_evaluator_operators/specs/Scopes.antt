-- What is known in the code beside the functions of a table, as a scope of the model.
-- Rule: partial evaluation (docs/RULES.md).
use Rattle.std.specs.Prelude.{List}
use Rattle.cedar_expr_model.specs.Name.{Name}
use Rattle.cedar_expr_model.specs.Table.{Table, Called}
use Rattle.cedar_expr_model.specs.Value.{V}
use Rattle.cedar_evaluator_model.specs.Scope.{Scope}
use Rattle.cedar_evaluator_reads.specs.Scopes.{scope_seen}
use Rattle.cedar_evaluator_reads.specs.declared.knowledge.Knowledge.{Knowledge}
use Rattle.cedar_evaluator_operators.specs.Arithmetic.{table_ordering}
use Rattle.cedar_evaluator_errors.specs.Calls.{Functions}

-- The scope, where the table's functions answer so.
unfoldable pub scope_of : {T : Type 0} → (T → (Name → List V → Called) → Table) → Functions → Knowledge T → Scope
scope_of table fs k = record (scope_seen k) { table = table k.table.now fs.answers; calls = fs.calls }

-- The scope but for its functions: operators ask of the table alone which types it orders.
unfoldable pub scope_ordering : {T : Type 0} → (T → List Name) → Knowledge T → Scope
scope_ordering names k = record (scope_seen k) { table = table_ordering (names k.table.now) }
