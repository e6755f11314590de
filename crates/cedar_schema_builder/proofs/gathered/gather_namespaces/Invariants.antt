use Rattle.std.specs.Vec.Iter.{into_iter_items}
use Rattle.cedar_expr_names.specs.Views.{name_of, type_name_of}
use Rattle.cedar_schema_decl.specs.Definitions.{commons_form, entities_form}
use Rattle.cedar_schema_fragments.specs.Actions.{actions_form}
use Rattle.cedar_schema_builder.proofs.GatheredLists.{Gathers}
use Rattle.cedar_schema_builder.specs.Gathered.{commons_gathered, entities_gathered, actions_gathered}
use Rattle.cedar_schema_builder.proofs.gathered.gather_namespaces.Given as goal

abbrev pub invariant-loop-namespace : goal.invariant-loop-namespace
invariant-loop-namespace l =
    (goal.iterator-loop-namespace).can_next l.namespace-iterator ×
    (goal.iterator-loop-namespace).is_finite l.namespace-iterator ×
    Gathers (λ n. commons_form name_of n.common_types) l.fn.namespaces.items (commons_gathered l.gathered) (into_iter_items l.namespace-iterator) ×
    Gathers (λ n. entities_form name_of n.entity_types) l.fn.namespaces.items (entities_gathered l.gathered) (into_iter_items l.namespace-iterator) ×
    Gathers (λ n. actions_form name_of type_name_of n.actions) l.fn.namespaces.items (actions_gathered l.gathered) (into_iter_items l.namespace-iterator)
