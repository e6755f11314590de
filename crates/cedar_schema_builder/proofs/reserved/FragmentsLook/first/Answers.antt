use Rattle.std.proofs.Common.{find, ap, ◌∙◌}
use Rattle.std.specs.List.{flat_map}
use Rattle.cedar_expr_model.specs.Name.{is_reserved}
use Rattle.cedar_schema_decl.specs.Conditional.{conditional_of}
use Rattle.cedar_schema_fragments.specs.Namespaces.{namespace_form}
use Rattle.cedar_schema_builder.proofs.Finding.{found_seen}
use Rattle.cedar_schema_builder.specs.WrittenNames.{names_in_namespace}
use Rattle.cedar_schema_builder.proofs.reserved.FragmentsLook.first.Goals as goal

pub returns : goal.returns
returns c =
    found_seen is_reserved names_in_namespace (namespace_form conditional_of conditional_of) c.args.part.now.0.items _
    (c.first_among.ensures ∙ ap (λ es. find is_reserved (flat_map (λ e. names_in_namespace ((namespace_form conditional_of conditional_of) e)) es)) c.as_slice.ensures.value)
