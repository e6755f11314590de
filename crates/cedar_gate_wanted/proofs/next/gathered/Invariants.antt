-- The others are there, and of the uids written so far those that are open.
use Rattle.std.proofs.Common.{◌≡◌, ◌⊎◌, true, Contains, take}
use Rattle.std.specs.Prelude.{◌↔◌}
use Rattle.cedar_expr_model.specs.Uid.{Uid}
use Rattle.cedar_gate_wanted.specs.Rows.{found_at, uids}
use Rattle.cedar_gate_wanted.specs.Supplying.{keys_in}
use Rattle.cedar_gate_wanted.specs.Wanting.{is_open}
use Rattle.cedar_gate_wanted.proofs.next.gathered.Given as goal

abbrev pub invariant-loop-uid : goal.invariant-loop-uid
invariant-loop-uid g l = (u : Uid) → Contains (uids l.all.items) u ↔ (Contains (uids l.others) u ⊎ (Contains (keys_in (take l.uid-index l.log.items)) u × (is_open (g.S.DeclaredActions.schema l.schema) (found_at l.near u) (found_at l.rows u) u ≡ true)))
