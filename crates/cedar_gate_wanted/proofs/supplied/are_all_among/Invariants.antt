-- The uids so far are among the keys.
use Rattle.std.proofs.Common.{◌≡◌, true, take}
use Rattle.std.specs.List.{list_all}
use Rattle.std.specs.Prelude.{is_some}
use Rattle.cedar_gate_wanted.specs.Rows.{found_at, uids}
use Rattle.cedar_gate_wanted.proofs.supplied.are_all_among.Given as goal

abbrev pub invariant-loop-uid : goal.invariant-loop-uid
invariant-loop-uid l = list_all (λ u. is_some (found_at l.keys u)) (uids (take l.uid-index l.wanted)) ≡ true
