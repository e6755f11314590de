use Rattle.cedar_expr_partial.specs.Parts.{part_place}
use Rattle.cedar_store_entities.specs.Views.{part_seen}
use Rattle.cedar_store_entities.proofs.Parted.{part_found}
use Rattle.cedar_store_entities.proofs.entity.Entity.get.Goals as goal

pub returns-clause-value : goal.returns-clause-value
returns-clause-value c = part_found part_seen c.args.attr.now c.args.self.now.attrs.entries c.get.result c.get.ensures.value

pub returns-clause-place : goal.returns-clause-place
returns-clause-place c = part_found part_place c.args.attr.now c.args.self.now.attrs.entries c.get.result c.get.ensures.value
