use Rattle.std.specs.Prelude.{None}
use Rattle.cedar_gate_wanted.proofs.ByUid.{written_here, written_apart}
use Rattle.cedar_gate_wanted.proofs.rows.take_out.Goals as goal

pub returns-clause-here : goal.returns-clause-here
returns-clause-here g c = written_here c.args.rows.now.entries c.remove.new.self.entries c.args.uid.now None c.remove.ensures.updates.0

pub returns-clause-apart : goal.returns-clause-apart
returns-clause-apart g c = written_apart c.args.rows.now.entries c.remove.new.self.entries c.args.uid.now None c.remove.ensures.updates.0
