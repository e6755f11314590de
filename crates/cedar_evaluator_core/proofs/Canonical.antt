-- All that an evaluator knows is canonical, by the types of its values.
use Rattle.std.proofs.Common.{List}
use Rattle.cedar_expr_model.specs.Name.{Name}
use Rattle.cedar_expr_model.specs.Table.{Table, Called}
use Rattle.cedar_expr_model.specs.Value.{V}
use Rattle.cedar_store_model.specs.Policy.{SlotBindings}
use Rattle.cedar_evaluator_model.specs.OfLaws.WellMade.{MakeValues, AllAreValues}
use Rattle.cedar_evaluator_errors.specs.Calls.{Functions}
use Rattle.cedar_evaluator_reads.proofs.Canonical.{request_canonical, values_canonical, store_canonical}
use Rattle.cedar_evaluator_core.specs.Evaluators.{entities_in, scope_in}
use Rattle.cedar_evaluator_core.specs.declared.evaluator.Evaluator.{Evaluator}

pub values_known : {T : Type 0} (e : Evaluator T) (b : SlotBindings) (table : T → (Name → List V → Called) → Table) (fs : Functions) → MakeValues fs.calls → AllAreValues (scope_in table fs e b)
values_known e b table fs h = record {
  context = request_canonical e.request;
  values = values_canonical e.unknowns;
  store = store_canonical (entities_in e);
  calls = h;
}
