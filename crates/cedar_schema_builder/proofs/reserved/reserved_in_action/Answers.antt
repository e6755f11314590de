use Rattle.std.proofs.Common.{find, map, ap, ◌∙◌}
use Rattle.cedar_expr_model.specs.Name.{is_reserved}
use Rattle.cedar_schema_decl.specs.Conditional.{conditional_of}
use Rattle.cedar_schema_fragments.specs.Actions.{parent_form}
use Rattle.cedar_schema_builder.proofs.Finding.{found_before}
use Rattle.cedar_schema_builder.specs.WrittenNames.{parents_as_written}
use Rattle.cedar_schema_builder.proofs.reserved.reserved_in_action.Goals as goal

pub returns-in-Some : goal.returns-in-Some
returns-in-Some c =
    found_before is_reserved (parents_as_written (map (parent_form conditional_of) c.args.action.now.parents.items)) _ _
    (c.in-Some.ensures ∙ ap (λ ps. find is_reserved (parents_as_written (map (parent_form conditional_of) ps))) c.as_slice.ensures.value)
