use Rattle.std.proofs.Common.{◌≡◌, take}
use Rattle.cedar_expr_names.specs.Views.{name_of}
use Rattle.cedar_schema_resolver.specs.Numbers.{seen_nodes}
use Rattle.cedar_schema_assembly.specs.Seen.{types_seen, types_above}
use Rattle.cedar_schema_assembly.proofs.type_entries.with_parents.Given as goal

abbrev pub invariant-loop-entry : goal.invariant-loop-entry
invariant-loop-entry l = seen_nodes name_of l.nodes.items ≡ types_above (types_seen (take l.entry-index l.declared))
