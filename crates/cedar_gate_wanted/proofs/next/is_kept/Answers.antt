use Rattle.std.proofs.Common.{ap, ◌∙◌}
use Rattle.std.specs.Prelude.{is_some}
use Rattle.cedar_gate_wanted.proofs.ByUid.{by_its_uid}
use Rattle.cedar_gate_wanted.proofs.next.is_kept.Goals as goal

pub returns : goal.returns
returns c = c.contains_key.ensures ∙ ap is_some (by_its_uid c.args.near.now.entries c.args.uid.now)
