use Rattle.std.proofs.Common.{ap}
use Rattle.cedar_gate_wanted.specs.Rows.{found_at, writes}
use Rattle.cedar_gate_wanted.proofs.Undoing.{undo_start}
use Rattle.cedar_gate_wanted.proofs.changes.supply.Goals as goal

pub returns-in-Ok-clause-log : goal.returns-in-Ok-clause-log
returns-in-Ok-clause-log c = c.follow_loaded.ensures.undo (found_at c.args.near.now) (undo_start (writes c.new-log.result.items) (found_at c.args.near.now) (ap writes c.new-log.ensures.items))

pub returns-in-Err-clause-unchanged : goal.returns-in-Err-clause-unchanged
returns-in-Err-clause-unchanged c = c.undo.ensures (found_at c.args.near.now) (c.follow_loaded.ensures.undo (found_at c.args.near.now) (undo_start (writes c.new-log.result.items) (found_at c.args.near.now) (ap writes c.new-log.ensures.items)))
