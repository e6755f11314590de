use Rattle.std.proofs.Common.{◌≡◌, ◌++◌, map}
use Rattle.cedar_expr_names.specs.Namespaces.{space_of}
use Rattle.cedar_expr_names.specs.Views.{name_of}
use Rattle.cedar_schema_decl.specs.Conditional.{conditional_of}
use Rattle.cedar_schema_decl.specs.Definitions.{entity_form}
use Rattle.cedar_schema_fragments.specs.Qualified.{entity_qualified}
use Rattle.cedar_schema_fragments.specs.Written.{entities_written}
use Rattle.cedar_schema_fragments.proofs.naming.entities_in.Given as goal

abbrev pub invariant-loop-word : goal.invariant-loop-word
invariant-loop-word l =
    map (λ e. (name_of e.0, entity_form conditional_of e.1)) l.defs.items ++ map (entity_qualified (space_of l.namespace)) (entities_written l.word-iterator)
    ≡ map (entity_qualified (space_of l.namespace)) (entities_written l.entities.entries)
