use Rattle.std.proofs.Common.{map}
use Rattle.cedar_expr_names.specs.Views.{uid_of}
use Rattle.cedar_expr_partial.specs.Parts.{part_place}
use Rattle.cedar_store_entities.specs.Views.{kin_in, part_seen}
use Rattle.cedar_store_entities.proofs.Kin.{both_recorded}
use Rattle.cedar_store_entities.proofs.Parted.{ordered_parts}
use Rattle.cedar_store_entities.proofs.entity.Entity.new_with_attr_partial_value.Goals as goal

pub returns-clause-attributes : goal.returns-clause-attributes
returns-clause-attributes c = ordered_parts part_seen c.in_ok-attrs.attrs.entries c.args.attrs.items c.in_ok-attrs.ensures

pub returns-clause-tags : goal.returns-clause-tags
returns-clause-tags c = ordered_parts part_seen c.in_ok-tags.tags.entries c.args.tags.items c.in_ok-tags.ensures

pub returns-clause-ancestors : goal.returns-clause-ancestors
returns-clause-ancestors c =
    both_recorded (kin_in c.new-ancestors.result) (kin_in c.add_indirects.new.self) (kin_in c.add_parents.new.self) (map uid_of c.args.indirect_ancestors.items) (map uid_of c.args.parents.items)
    c.new-ancestors.ensures c.in_ok-add_indirects.ensures c.in_ok-add_parents.ensures

pub returns-clause-attribute_places : goal.returns-clause-attribute_places
returns-clause-attribute_places c = ordered_parts part_place c.in_ok-attrs.attrs.entries c.args.attrs.items c.in_ok-attrs.ensures

pub returns-clause-tag_places : goal.returns-clause-tag_places
returns-clause-tag_places c = ordered_parts part_place c.in_ok-tags.tags.entries c.args.tags.items c.in_ok-tags.ensures
