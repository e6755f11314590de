use Rattle.std.proofs.Common.{find, ap, ◌∙◌}
use Rattle.std.specs.List.{flat_map}
use Rattle.cedar_expr_model.specs.Name.{is_reserved}
use Rattle.cedar_expr_names.specs.Views.{name_of}
use Rattle.cedar_expr_names.specs.declared.internal_name.InternalName.{InternalName}
use Rattle.cedar_expr_leaves.specs.declared.conditional_name.ConditionalName.{ConditionalName}
use Rattle.cedar_schema_decl.specs.Conditional.{conditional_of}
use Rattle.cedar_schema_decl.specs.Definitions.{entity_form}
use Rattle.cedar_schema_decl.specs.declared.definitions.EntityTypeFragment.{EntityTypeFragment}
use Rattle.cedar_schema_builder.proofs.Finding.{found_seen}
use Rattle.cedar_schema_builder.specs.WrittenNames.{names_in_entity}
use Rattle.cedar_schema_builder.proofs.reserved.reserved_in_entities.Goals as goal

pub returns : goal.returns
returns c =
    found_seen is_reserved names_in_entity (λ (e : InternalName × EntityTypeFragment ConditionalName). (name_of e.0, entity_form conditional_of e.1)) c.args.entities.now.defs.items _
    (c.first_among.ensures ∙ ap (λ es. find is_reserved (flat_map (λ e. names_in_entity (name_of e.0, entity_form conditional_of e.1)) es)) c.as_slice.ensures.value)
