use Rattle.std.proofs.Common.{◌≡◌, map}
use Rattle.cedar_expr_model.specs.Lists.{first_found}
use Rattle.cedar_expr_names.specs.Views.{uid_of}
use Rattle.cedar_schema_entries.specs.Views.{action_seen}
use Rattle.cedar_schema_built.specs.Views.{schema_kept}
use Rattle.cedar_schema_model.specs.Unsound.{action_below_fault}
use Rattle.cedar_schema_sound.proofs.actions.unsound_below.Given as goal

abbrev pub invariant-loop-descendant : goal.invariant-loop-descendant
invariant-loop-descendant l =
    first_found (action_below_fault (schema_kept l.schema) (action_seen l.action)) (map uid_of l.descendant-iterator) ≡ first_found (action_below_fault (schema_kept l.schema) (action_seen l.action)) (action_seen l.action).descendants
