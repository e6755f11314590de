use Rattle.std.proofs.Common.{find, sym, ap, ◌∙◌}
use Rattle.cedar_expr_model.specs.Name.{is_reserved}
use Rattle.cedar_schema_decl.specs.Conditional.{conditional_of}
use Rattle.cedar_schema_fragments.specs.Namespaces.{fragment_form}
use Rattle.cedar_schema_builder.proofs.Finding.{flat_map-flat}
use Rattle.cedar_schema_builder.specs.WrittenNames.{names_in_namespace}
use Rattle.cedar_schema_builder.proofs.reserved.first_reserved_name.Goals as goal

pub returns : goal.returns
returns c = c.first_among.ensures ∙ ap (find is_reserved) (sym (flat_map-flat names_in_namespace (fragment_form conditional_of conditional_of) c.args.fragments.now))
