-- The uids so far are copied.
use Rattle.std.proofs.Common.{◌≡◌, take}
use Rattle.cedar_gate_wanted.specs.Rows.{uids}
use Rattle.cedar_gate_wanted.proofs.next.copied.Given as goal

abbrev pub invariant-loop-uid : goal.invariant-loop-uid
invariant-loop-uid l = uids l.copy.items ≡ uids (take l.uid-index l.list)
