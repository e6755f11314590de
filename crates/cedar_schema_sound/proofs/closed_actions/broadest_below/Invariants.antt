use Rattle.std.proofs.Common.{map, IfSome}
use Rattle.std.specs.Prelude.{Contains}
use Rattle.cedar_expr_model.specs.Uid.{Uid}
use Rattle.cedar_expr_names.specs.Views.{uid_of}
use Rattle.cedar_schema_entries.specs.Views.{action_seen}
use Rattle.cedar_schema_built.specs.Views.{schema_kept}
use Rattle.cedar_schema_sound.specs.Closed.{IsActionBelow}
use Rattle.cedar_schema_sound.proofs.closed_actions.broadest_below.Given as goal

abbrev pub invariant-loop-descendant : goal.invariant-loop-descendant
invariant-loop-descendant l = record {
  below : IfSome l.broadest (λ t. IsActionBelow (schema_kept l.schema) (action_seen l.action) (action_seen t.now));
  rest : (u : Uid) → Contains (map uid_of l.descendant-iterator) u → Contains (action_seen l.action).descendants u;
}
