use Rattle.std.proofs.Common.{rules}
use Rattle.cedar_gate_wanted.proofs.ByUid.{by_its_uid}
use Rattle.cedar_gate_wanted.proofs.distance_rows.mentions.Goals as goal

pub returns-in-Some : goal.returns-in-Some
returns-in-Some c = let is = by_its_uid c.args.loaded.now.entries c.args.uid.now in search rules

pub returns-in-None : goal.returns-in-None
returns-in-None c = let is = by_its_uid c.args.loaded.now.entries c.args.uid.now in search rules
