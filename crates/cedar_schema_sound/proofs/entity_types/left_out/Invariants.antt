use Rattle.std.proofs.Common.{◌≡◌, map}
use Rattle.cedar_expr_model.specs.Lists.{first_found}
use Rattle.cedar_expr_names.specs.Views.{type_name_of}
use Rattle.cedar_schema_entries.specs.Views.{entity_type_seen}
use Rattle.cedar_schema_model.specs.Unsound.{type_among}
use Rattle.cedar_schema_sound.proofs.entity_types.left_out.Given as goal

abbrev pub invariant-loop-descendant : goal.invariant-loop-descendant
invariant-loop-descendant l = first_found (type_among (entity_type_seen l.entity_type)) (map type_name_of l.descendant-iterator) ≡ first_found (type_among (entity_type_seen l.entity_type)) (entity_type_seen l.below).descendants
