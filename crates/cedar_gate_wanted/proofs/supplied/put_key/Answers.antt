use Rattle.std.proofs.Common.{Some, ap, ◌∙◌}
use Rattle.std.specs.Prelude.{is_some}
use Rattle.cedar_gate_wanted.proofs.ByUid.{by_its_uid, written_here, written_apart}
use Rattle.cedar_gate_wanted.proofs.supplied.put_key.Goals as goal

pub returns-clause-stood : goal.returns-clause-stood
returns-clause-stood c = c.is_some.ensures ∙ ap is_some (c.in_ok-insert.ensures.old ∙ by_its_uid c.args.keys.now.entries c.args.uid)

pub returns-clause-here : goal.returns-clause-here
returns-clause-here c = written_here c.args.keys.now.entries c.insert.new.self.entries c.args.uid (Some tt) c.in_ok-insert.ensures.updates.0

pub returns-clause-apart : goal.returns-clause-apart
returns-clause-apart c = written_apart c.args.keys.now.entries c.insert.new.self.entries c.args.uid (Some tt) c.in_ok-insert.ensures.updates.0
