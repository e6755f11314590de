use Rattle.std.proofs.Common.{◌≡◌, map, drop}
use Rattle.cedar_expr_names.specs.Views.{name_of}
use Rattle.cedar_schema_decl.specs.Defined.{defined_of, with_entity}
use Rattle.cedar_schema_fragments.specs.Marked.{all_with, entity_names}
use Rattle.cedar_schema_fragments.proofs.all_defs.with_entities.Given as goal

abbrev pub invariant-loop-entity : goal.invariant-loop-entity
invariant-loop-entity g l = all_with with_entity (map (λ e. name_of e.0) (drop l.entity-index l.entity-items)) (defined_of l.marked) ≡ all_with with_entity (entity_names l.entities) (defined_of l.fn.all_defs)
