use Rattle.std.proofs.Common.{find, ap, ◌∙◌}
use Rattle.std.specs.List.{flat_map}
use Rattle.cedar_expr_model.specs.Name.{is_reserved}
use Rattle.cedar_schema_decl.specs.Conditional.{conditional_of}
use Rattle.cedar_schema_fragments.specs.Actions.{under_uid}
use Rattle.cedar_schema_builder.proofs.Finding.{found_seen}
use Rattle.cedar_schema_builder.specs.WrittenNames.{names_in_action}
use Rattle.cedar_schema_builder.proofs.reserved.reserved_in_actions.Goals as goal

pub returns : goal.returns
returns c =
    found_seen is_reserved names_in_action (under_uid conditional_of conditional_of) c.args.actions.now.actions.items _
    (c.first_among.ensures ∙ ap (λ es. find is_reserved (flat_map (λ e. names_in_action ((under_uid conditional_of conditional_of) e)) es)) c.as_slice.ensures.value)
