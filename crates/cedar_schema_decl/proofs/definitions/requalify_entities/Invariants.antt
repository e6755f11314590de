use Rattle.std.proofs.Common.{map}
use Rattle.std.specs.Vec.Iter.{into_iter_items}
use Rattle.cedar_expr_names.specs.Views.{name_of}
use Rattle.cedar_schema_decl.specs.Definitions.{entity_form}
use Rattle.cedar_schema_decl.specs.Requalified.{requalified_entity, under_name}
use Rattle.cedar_schema_decl.proofs.Gathered.{Gathers}
use Rattle.cedar_schema_decl.proofs.definitions.requalify_entities.Given as goal

abbrev pub invariant-loop-name : goal.invariant-loop-name
invariant-loop-name g l =
    (goal.iterator-loop-name g).can_next l.name-iterator ×
    (goal.iterator-loop-name g).is_finite l.name-iterator ×
    Gathers (under_name (requalified_entity (g.R.Requalify.renames l.names))) (map (λ e. (name_of e.0, entity_form g.R.Requalify.before e.1)) l.fn.entities.defs.items) (map (λ e. (name_of e.0, entity_form g.R.Requalify.after e.1)) l.defs.items) (map (λ e. (name_of e.0, entity_form g.R.Requalify.before e.1)) (into_iter_items l.name-iterator))
