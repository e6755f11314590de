-- The answers to the uids so far.
use Rattle.std.proofs.Common.{◌≡◌, map, take}
use Rattle.cedar_expr_names.specs.Views.{uid_of}
use Rattle.cedar_store_entities.specs.Stores.{store_made}
use Rattle.cedar_gate_runs.specs.Hosts.{answered_of, answer_from, stored}
use Rattle.cedar_gate_runs.proofs.store_host.answer_all.Given as goal

abbrev pub invariant-loop-uid : goal.invariant-loop-uid
invariant-loop-uid l = map answered_of l.answers.items ≡ map (answer_from (stored (store_made l.entities))) (map uid_of (take l.uid-index l.uids))
