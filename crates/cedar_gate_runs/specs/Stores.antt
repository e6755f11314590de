-- What a host over a store of entities holds, and what it was asked.
use Rattle.std.specs.Prelude.{List, map}
use Rattle.cedar_expr_names.specs.Views.{uid_of}
use Rattle.cedar_expr_model.specs.Uid.{Uid}
use Rattle.cedar_store_entities.specs.Stores.{store_made}
use Rattle.cedar_gate_runs.specs.Hosts.{Answers, stored}
use Rattle.cedar_gate_runs.specs.declared.store_host.StoreHost.{StoreHost}

-- the entity of a uid that it holds
abbrev pub store_of : StoreHost → Answers
store_of h = stored (store_made h.entities)

abbrev pub store_asked : StoreHost → List (List Uid)
store_asked h = map (λ uids. map uid_of uids.items) h.asked.items
