use Rattle.std.proofs.Common.{find, ap, ◌∙◌}
use Rattle.std.specs.List.{flat_map}
use Rattle.cedar_expr_model.specs.Name.{is_reserved}
use Rattle.cedar_expr_names.specs.Views.{name_of}
use Rattle.cedar_expr_names.specs.declared.internal_name.InternalName.{InternalName}
use Rattle.cedar_expr_leaves.specs.declared.conditional_name.ConditionalName.{ConditionalName}
use Rattle.cedar_schema_decl.specs.Conditional.{conditional_of}
use Rattle.cedar_schema_decl.specs.Definitions.{common_form}
use Rattle.cedar_schema_decl.specs.declared.json_schema.CommonType.{CommonType}
use Rattle.cedar_schema_builder.proofs.Finding.{found_seen}
use Rattle.cedar_schema_builder.specs.WrittenNames.{names_in_common}
use Rattle.cedar_schema_builder.proofs.reserved.reserved_in_commons.Goals as goal

pub returns : goal.returns
returns c =
    found_seen is_reserved names_in_common (λ (e : InternalName × CommonType ConditionalName). (name_of e.0, common_form conditional_of e.1)) c.args.commons.now.defs.items _
    (c.first_among.ensures ∙ ap (λ es. find is_reserved (flat_map (λ e. names_in_common (name_of e.0, common_form conditional_of e.1)) es)) c.as_slice.ensures.value)
