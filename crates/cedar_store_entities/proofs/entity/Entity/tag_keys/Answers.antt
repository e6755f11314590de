use Rattle.std.proofs.Common.{map, ap, ◌∙◌}
use Rattle.std.specs.Rc.{rc_str_bytes}
use Rattle.cedar_store_entities.proofs.Parted.{names_are}
use Rattle.cedar_store_entities.proofs.entity.Entity.tag_keys.Goals as goal

pub returns : goal.returns
returns c = ap (map rc_str_bytes) c.keys.ensures.rest ∙ names_are c.args.self.now.tags.entries
