-- What is known in the code, as a scope of the model.
-- Rule: partial evaluation (docs/RULES.md).
use Rattle.std.specs.Prelude.{List, [], map, Option, Some, None, option_map}
use Rattle.std.specs.Borrow.{Bor}
use Rattle.std.specs.HashMap.{HashMap, get_by}
use Rattle.std.specs.Map.{lookup}
use Rattle.std.specs.Rc.{rc_str_bytes}
use Rattle.std.specs.Str.{bytes_eq}
use Rattle.std.specs.declared.alloc.Global.{Global}
use Rattle.std.specs.declared.rc.RcStr.{RcStr}
use Rattle.cedar_expr_model.specs.Name.{Text, Name}
use Rattle.cedar_expr_model.specs.Uid.{Uid, uid_eq}
use Rattle.cedar_expr_model.specs.Made.{Made}
use Rattle.cedar_expr_model.specs.Table.{Table, fails}
use Rattle.cedar_expr_values.specs.Values.{made}
use Rattle.cedar_expr_values.specs.Extensions.{extension_of}
use Rattle.cedar_expr_values.specs.declared.value.Value.{Value}
use Rattle.cedar_expr_values.specs.declared.extension.ExtValue.{ExtValue}
use Rattle.cedar_store_model.specs.Policy.{binding_of}
use Rattle.cedar_store_model.specs.Store.{Extent, whole, partial, if_uid, extent_for}
use Rattle.cedar_store_model.specs.World.{Found, held, missing, not_loaded}
use Rattle.cedar_store_entities.specs.Stores.{store_seen, store_made}
use Rattle.cedar_store_entities.specs.Views.{Kept}
use Rattle.cedar_store_entities.specs.declared.entities.Entities.{Entities}
use Rattle.cedar_store_parts.specs.Parts.{bindings_of}
use Rattle.cedar_evaluator_model.specs.Scope.{Scope, MadeCalled, faults}
use Rattle.cedar_evaluator_requests.specs.Views.{request_of}
use Rattle.cedar_evaluator_reads.specs.declared.knowledge.Knowledge.{Knowledge}

-- the values of unknowns, by their names
abbrev pub values_in : {S : Type 0} → HashMap (RcStr Global) (Value ExtValue) S → Text → Option Made
values_in m = λ n. option_map (made extension_of) (get_by (λ k. bytes_eq n (rc_str_bytes k)) m)

abbrev pub values_bound : {S : Type 0} → Option (Bor (HashMap (RcStr Global) (Value ExtValue) S)) → Text → Option Made
values_bound (Some m) = values_in m.now
values_bound None = λ n. None

-- an entity as all that is kept of it; one that isn't there is missing in a whole store, and not loaded in a partial one
abbrev pub found_kept : Extent → Option Kept → Found Made
found_kept x (Some k) = held k.0
found_kept whole None = missing
found_kept partial None = not_loaded

-- what the store answers
abbrev pub store_of : Entities → Uid → Found Made
store_of s u = if_uid u (found_kept (extent_for (store_seen s) u) (lookup (uid_eq u) (store_made s)))

-- functions of which nothing is known: there are none, and what a call answers is never asked
abbrev pub no_table : Table
no_table = record { functions = []; ordered = []; answers = λ f vs. fails f }

abbrev pub no_calls : Name → List Made → MadeCalled
no_calls f ms = faults f

-- The scope but for its functions, which no reading asks.
unfoldable pub scope_seen : {T : Type 0} → Knowledge T → Scope
scope_seen k =
    record {
      principal = (request_of k.request.now).principal;
      action = (request_of k.request.now).action;
      resource = (request_of k.request.now).resource;
      context = (request_of k.request.now).context;
      slots = binding_of (bindings_of k.slots.now);
      values = values_bound k.unknowns;
      table = no_table;
      calls = no_calls;
      store = store_of k.entities.now;
    }
