use Rattle.std.proofs.Common.{[], ◌∷◌, find, ap, ◌∙◌}
use Rattle.std.specs.List.{flat_map}
use Rattle.cedar_expr_names.specs.Views.{name_of}
use Rattle.cedar_expr_model.specs.Name.{Name}
use Rattle.cedar_schema_decl.specs.Conditional.{Conditional, conditional_of}
use Rattle.cedar_schema_decl.specs.Forms.{EntityForm}
use Rattle.cedar_schema_decl.specs.Definitions.{entity_form}
use Rattle.cedar_schema_builder.proofs.Finding.{one_seen}
use Rattle.cedar_schema_builder.specs.Checked.{is_action_word}
use Rattle.cedar_schema_builder.proofs.action_types.NamespacesLook.first.Goals as goal

pub returns : goal.returns
returns c =
    c.first_among.ensures
    ∙ ap (λ es. find is_action_word (flat_map (λ e. name_of e.0 ∷ []) es)) c.as_slice.ensures.value
    ∙ ap (find is_action_word) (one_seen (λ (p : Name × EntityForm Conditional). p.0) (λ e. (name_of e.0, entity_form conditional_of e.1)) c.args.part.now.entity_types.defs.items)
