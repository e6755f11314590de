use Rattle.std.proofs.Common.{find, ap, ◌∙◌}
use Rattle.std.specs.List.{flat_map}
use Rattle.cedar_schema_decl.specs.Conditional.{conditional_of}
use Rattle.cedar_schema_fragments.specs.Namespaces.{namespace_form}
use Rattle.cedar_schema_builder.proofs.Finding.{found_seen}
use Rattle.cedar_schema_builder.specs.Checked.{is_action_word}
use Rattle.cedar_schema_builder.specs.WrittenNames.{entities_of}
use Rattle.cedar_schema_builder.proofs.action_types.FragmentsLook.first.Goals as goal

pub returns : goal.returns
returns c =
    found_seen is_action_word entities_of (namespace_form conditional_of conditional_of) c.args.part.now.0.items _
    (c.first_among.ensures ∙ ap (λ ns. find is_action_word (flat_map (λ n. entities_of (namespace_form conditional_of conditional_of n)) ns)) c.as_slice.ensures.value)
