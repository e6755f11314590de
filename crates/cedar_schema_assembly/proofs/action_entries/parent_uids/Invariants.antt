use Rattle.std.proofs.Common.{◌≡◌, map, take}
use Rattle.cedar_expr_names.specs.Views.{name_of, uid_of}
use Rattle.cedar_schema_fragments.specs.Actions.{parent_form}
use Rattle.cedar_schema_fragments.specs.WrittenDeclarations.{as_uid}
use Rattle.cedar_schema_assembly.proofs.action_entries.parent_uids.Given as goal

abbrev pub invariant-loop-parent : goal.invariant-loop-parent
invariant-loop-parent l = map uid_of l.uids.items ≡ map as_uid (map (parent_form name_of) (take l.parent-index l.parents))
