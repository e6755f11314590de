-- The pairs so far are right.
use Rattle.std.proofs.Common.{◌≡◌, true, take}
use Rattle.std.specs.List.{list_all}
use Rattle.cedar_gate_sessions.specs.Entities.{supplied_of}
use Rattle.cedar_gate_sessions.specs.Loaded.{is_right}
use Rattle.cedar_gate_sessions.proofs.supplied.are_right.Given as goal

abbrev pub invariant-loop-pair : goal.invariant-loop-pair
invariant-loop-pair g l = list_all (is_right (g.S.DeclaredActions.schema l.schema)) (supplied_of (take l.pair-index l.supplied)) ≡ true
