use Rattle.std.proofs.Common.{ap, ◌∙◌}
use Rattle.std.specs.List.{flat_map}
use Rattle.cedar_expr_names.specs.Views.{name_of, type_name_of}
use Rattle.cedar_schema_decl.specs.Definitions.{commons_form, entities_form}
use Rattle.cedar_schema_fragments.specs.Actions.{actions_form}
use Rattle.cedar_schema_fragments.specs.Namespaces.{namespace_form}
use Rattle.cedar_schema_builder.proofs.GatheredLists.{seen_of_each}
use Rattle.cedar_schema_builder.proofs.gathered.gather.Goals as goal

pub returns-clause-commons : goal.returns-clause-commons
returns-clause-commons c =
    c.in_ok-gathered.ensures.commons
    ∙ ap (flat_map (λ n. commons_form name_of n.common_types)) c.in_ok-namespaces.ensures
    ∙ seen_of_each (λ n. n.commons) (namespace_form name_of type_name_of) (λ f. f.0.items) c.args.fragments.items

pub returns-clause-entities : goal.returns-clause-entities
returns-clause-entities c =
    c.in_ok-gathered.ensures.entities
    ∙ ap (flat_map (λ n. entities_form name_of n.entity_types)) c.in_ok-namespaces.ensures
    ∙ seen_of_each (λ n. n.entities) (namespace_form name_of type_name_of) (λ f. f.0.items) c.args.fragments.items

pub returns-clause-actions : goal.returns-clause-actions
returns-clause-actions c =
    c.in_ok-gathered.ensures.actions
    ∙ ap (flat_map (λ n. actions_form name_of type_name_of n.actions)) c.in_ok-namespaces.ensures
    ∙ seen_of_each (λ n. n.actions) (namespace_form name_of type_name_of) (λ f. f.0.items) c.args.fragments.items
