use Rattle.std.proofs.Common.{rules, ◌≡◌, ◌∙◌}
use Rattle.std.specs.BTreeMap.{is_at}
use Rattle.std.specs.Map.{lookup}
use Rattle.cedar_gate_wanted.proofs.ByUid.{uids_by, by_its_uid}
use Rattle.cedar_gate_wanted.proofs.near.distance_of.Goals as goal

pub returns : goal.returns
returns c = let is : c.copied.result ≡ lookup (is_at (uids_by c.args.uid.now)) c.args.near.now.entries = search rules in is ∙ by_its_uid c.args.near.now.entries c.args.uid.now
