use Rattle.std.proofs.Common.{Some}
use Rattle.cedar_gate_wanted.proofs.ByUid.{written_here, written_apart}
use Rattle.cedar_gate_wanted.proofs.rows.put_row.Goals as goal

pub returns-clause-here : goal.returns-clause-here
returns-clause-here c = written_here c.args.rows.now.entries c.insert.new.self.entries c.args.uid (Some c.args.row) c.in_ok-insert.ensures.updates.0

pub returns-clause-apart : goal.returns-clause-apart
returns-clause-apart c = written_apart c.args.rows.now.entries c.insert.new.self.entries c.args.uid (Some c.args.row) c.in_ok-insert.ensures.updates.0
