use Rattle.std.specs.Prelude.{None}
use Rattle.cedar_gate_wanted.proofs.ByUid.{written_here, written_apart}
use Rattle.cedar_gate_wanted.proofs.near.take_out.Goals as goal

pub returns-clause-here : goal.returns-clause-here
returns-clause-here c = written_here c.args.near.now.entries c.remove.new.self.entries c.args.uid.now None c.remove.ensures.updates.0

pub returns-clause-apart : goal.returns-clause-apart
returns-clause-apart c = written_apart c.args.near.now.entries c.remove.new.self.entries c.args.uid.now None c.remove.ensures.updates.0
