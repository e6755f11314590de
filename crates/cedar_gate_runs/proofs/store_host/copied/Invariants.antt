-- The uids so far are copied.
use Rattle.std.proofs.Common.{◌≡◌, map, take}
use Rattle.cedar_expr_names.specs.Views.{uid_of}
use Rattle.cedar_gate_runs.proofs.store_host.copied.Given as goal

abbrev pub invariant-loop-uid : goal.invariant-loop-uid
invariant-loop-uid l = map uid_of l.copy.items ≡ map uid_of (take l.uid-index l.uids)
