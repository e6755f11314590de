use Rattle.std.proofs.Common.{◌≡◌, map}
use Rattle.std.specs.List.{list_all}
use Rattle.cedar_schema_entries.specs.InOrder.{action_in_order}
use Rattle.cedar_schema_entries.specs.Views.{action_seen}
use Rattle.cedar_schema_built.specs.Views.{schema_kept}
use Rattle.cedar_schema_built.proofs.laws.each_action_is_in_order.Given as goal

abbrev pub invariant-loop-action : goal.invariant-loop-action
invariant-loop-action l = list_all action_in_order (map action_seen l.action-iterator) ≡ list_all action_in_order (schema_kept l.schema).actions
