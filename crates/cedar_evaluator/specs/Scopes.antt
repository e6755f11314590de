-- What an authorizer's evaluations know, as a scope of the model.
-- Rule: partial evaluation; partial responses (docs/RULES.md).
use Rattle.std.specs.Prelude.{List, None}
use Rattle.std.specs.HashMap.{HashMap}
use Rattle.std.specs.declared.alloc.Global.{Global}
use Rattle.std.specs.declared.rc.RcStr.{RcStr}
use Rattle.cedar_expr_model.specs.Name.{Name}
use Rattle.cedar_expr_model.specs.Table.{Table, Called}
use Rattle.cedar_expr_model.specs.Value.{V}
use Rattle.cedar_expr_values.specs.declared.value.Value.{Value}
use Rattle.cedar_expr_values.specs.declared.extension.ExtValue.{ExtValue}
use Rattle.cedar_store_entities.specs.declared.entities.Entities.{Entities}
use Rattle.cedar_store_model.specs.Policy.{no_bindings, binding_of}
use Rattle.cedar_evaluator_model.specs.Scope.{Scope}
use Rattle.cedar_evaluator_model.specs.Response.{PartialRequest}
use Rattle.cedar_evaluator_errors.specs.Calls.{Functions}
use Rattle.cedar_evaluator_reads.specs.Scopes.{store_of, values_in}

-- The scope of a request over entities and a table whose functions answer so, without slots and values of unknowns.
abbrev pub scope_for : {T : Type 0} → (T → (Name → List V → Called) → Table) → T → PartialRequest → Entities → Functions → Scope
scope_for table t q es fs = record {
  principal = q.principal;
  action = q.action;
  resource = q.resource;
  context = q.context;
  slots = binding_of no_bindings;
  values = λ n. None;
  table = table t fs.answers;
  calls = fs.calls;
  store = store_of es;
}

-- the scope in which unknowns have these values
abbrev pub with_values : {S : Type 0} → Scope → HashMap (RcStr Global) (Value ExtValue) S → Scope
with_values s m = record s { values = values_in m }
