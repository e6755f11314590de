-- The scope of an evaluator that is made of a request, entities and a table; all that it knows is canonical.
use Rattle.std.proofs.Common.{◌≡◌, List}
use Rattle.cedar_expr_model.specs.Name.{Name}
use Rattle.cedar_expr_model.specs.Substitution.{Bindings}
use Rattle.cedar_expr_model.specs.Table.{Table, Called}
use Rattle.cedar_expr_model.specs.Value.{V}
use Rattle.cedar_store_entities.specs.declared.entities.Entities.{Entities}
use Rattle.cedar_store_model.specs.Policy.{binding_of, no_bindings}
use Rattle.cedar_evaluator_model.specs.OfLaws.WellMade.{MakeValues, IsContextCanonical, AllAreValues}
use Rattle.cedar_evaluator_model.specs.Response.{PartialRequest}
use Rattle.cedar_evaluator_errors.specs.Calls.{Functions}
use Rattle.cedar_evaluator_reads.proofs.Canonical.{store_canonical}
use Rattle.cedar_evaluator_reads.specs.Scopes.{store_of}
use Rattle.cedar_evaluator_core.specs.Evaluators.{asked_of, bound_in, entities_in, table_in, scope_in}
use Rattle.cedar_evaluator_core.specs.declared.evaluator.Evaluator.{Evaluator}
use Rattle.cedar_evaluator.specs.Scopes.{scope_for}

-- under these values of unknowns
pub scope_under : {T : Type 0} (table : T → (Name → List V → Called) → Table) (e : Evaluator T) (t : T) (env : Bindings) (q : PartialRequest) (es : Entities)
    → asked_of e ≡ q → bound_in e ≡ env → entities_in e ≡ es → table_in e ≡ t → (fs : Functions) → scope_in table fs e no_bindings ≡ record (scope_for table t q es fs) { values = env }
scope_under table e t env q es asked bound over by_table fs = λ i. record {
  principal = (asked i).principal;
  action = (asked i).action;
  resource = (asked i).resource;
  context = (asked i).context;
  slots = binding_of no_bindings;
  values = bound i;
  table = table (by_table i) fs.answers;
  calls = fs.calls;
  store = store_of (over i);
}

pub values_for : {T : Type 0} (table : T → (Name → List V → Called) → Table) (t : T) (q : PartialRequest) (es : Entities) (fs : Functions) → IsContextCanonical q.context → MakeValues fs.calls → AllAreValues (scope_for table t q es fs)
values_for table t q es fs context calls = record { context = context; values = λ n. tt; store = store_canonical es; calls = calls }
