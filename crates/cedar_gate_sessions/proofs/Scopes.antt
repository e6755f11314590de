-- What evaluations know at a state of a session.
use Rattle.std.proofs.Common.{◌≡◌, List, Option, None, codes, refl}
use Rattle.cedar_expr_model.specs.Name.{Text, Name}
use Rattle.cedar_expr_model.specs.Uid.{Uid}
use Rattle.cedar_expr_model.specs.Made.{Made}
use Rattle.cedar_expr_model.specs.Table.{Table}
use Rattle.cedar_expr_model.specs.Tree.{SlotId, principal_slot, resource_slot}
use Rattle.cedar_store_model.specs.Policy.{binding_of, no_bindings}
use Rattle.cedar_store_model.specs.World.{Found}
use Rattle.cedar_evaluator_model.specs.Response.{PartialRequest}
use Rattle.cedar_evaluator_model.specs.Scope.{Scope, MadeCalled}
use Rattle.cedar_gate_model.specs.Session.{Setup, State, value_of, context_now, scope_now, entry_now}

no_slots : (s : SlotId) → binding_of no_bindings s ≡ None
no_slots principal_slot = refl
no_slots resource_slot = refl

-- the scope of these parts
abbrev pub scope_by : PartialRequest → (Text → Option Made) → Table → (Name → List Made → MadeCalled) → (Uid → Found Made) → Scope
scope_by q values table calls store = record {
  principal = q.principal;
  action = q.action;
  resource = q.resource;
  context = q.context;
  slots = binding_of no_bindings;
  values = values;
  table = table;
  calls = calls;
  store = store;
}

-- the request at a state
abbrev pub asked_at : Setup → State → PartialRequest
asked_at x s = record {
  principal = entry_now s (codes "principal") x.start.principal;
  action = entry_now s (codes "action") x.start.action;
  resource = entry_now s (codes "resource") x.start.resource;
  context = context_now x.functions s x.start.context;
}

-- the scope of what a session has is that of its state
pub scope_is : (x : Setup) (s : State) (q : PartialRequest) (values : Text → Option Made) (table : Table) (store : Uid → Found Made) → q ≡ asked_at x s → ((n : Text) → values n ≡ value_of s n) → table ≡ x.functions.table
    → scope_by q values table x.functions.calls store ≡ scope_now x s store
scope_is x s q values table store of_request of_values of_table =
    λ i. record (scope_by (of_request i) (λ n. of_values n i) (of_table i) x.functions.calls store) { slots = λ z. no_slots z i }
