use Rattle.std.proofs.Common.{◌≡◌, ◌++◌, map}
use Rattle.cedar_expr_names.specs.Namespaces.{space_of}
use Rattle.cedar_expr_names.specs.Views.{name_of}
use Rattle.cedar_schema_decl.specs.Conditional.{conditional_of}
use Rattle.cedar_schema_decl.specs.Definitions.{common_form}
use Rattle.cedar_schema_fragments.specs.Qualified.{common_named}
use Rattle.cedar_schema_fragments.specs.Written.{commons_known}
use Rattle.cedar_schema_fragments.proofs.naming.named_commons.Given as goal

abbrev pub invariant-loop-word : goal.invariant-loop-word
invariant-loop-word l =
    map (λ e. (name_of e.0, common_form conditional_of e.1)) l.defs.items ++ map (common_named (space_of l.namespace)) (commons_known l.word-iterator)
    ≡ map (common_named (space_of l.namespace)) (commons_known l.fn.commons.entries)
