use Rattle.std.proofs.Common.{◌≡◌, take}
use Rattle.cedar_expr_names.specs.Views.{name_of}
use Rattle.cedar_schema_decl.specs.Defined.{defined_of}
use Rattle.cedar_schema_resolver.specs.Numbers.{seen_nodes}
use Rattle.cedar_schema_resolver.specs.Uses.{common_forms, with_uses}
use Rattle.cedar_schema_resolver.proofs.references.with_references.Given as goal

abbrev pub invariant-loop-common : goal.invariant-loop-common
invariant-loop-common l = seen_nodes name_of l.nodes.items ≡ with_uses (defined_of l.all_defs) (common_forms (take l.common-index l.commons))
