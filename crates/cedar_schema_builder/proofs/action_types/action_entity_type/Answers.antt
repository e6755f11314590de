use Rattle.std.proofs.Common.{find, sym, ap, ◌∙◌}
use Rattle.cedar_schema_decl.specs.Conditional.{conditional_of}
use Rattle.cedar_schema_fragments.specs.Namespaces.{fragment_form}
use Rattle.cedar_schema_builder.proofs.Finding.{flat_map-flat}
use Rattle.cedar_schema_builder.specs.Checked.{is_action_word}
use Rattle.cedar_schema_builder.specs.WrittenNames.{entities_of}
use Rattle.cedar_schema_builder.proofs.action_types.action_entity_type.Goals as goal

pub returns : goal.returns
returns c = c.first_among.ensures ∙ ap (find is_action_word) (sym (flat_map-flat entities_of (fragment_form conditional_of conditional_of) c.args.fragments.now))
