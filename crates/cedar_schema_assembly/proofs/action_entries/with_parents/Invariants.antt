use Rattle.std.proofs.Common.{◌≡◌, take}
use Rattle.cedar_expr_names.specs.Views.{uid_of}
use Rattle.cedar_schema_resolver.specs.Numbers.{seen_nodes}
use Rattle.cedar_schema_assembly.specs.Seen.{actions_seen, actions_above}
use Rattle.cedar_schema_assembly.proofs.action_entries.with_parents.Given as goal

abbrev pub invariant-loop-entry : goal.invariant-loop-entry
invariant-loop-entry l = seen_nodes uid_of l.nodes.items ≡ actions_above (actions_seen (take l.entry-index l.declared))
