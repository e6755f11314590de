use Rattle.std.proofs.Common.{◌≡◌, map, true}
use Rattle.std.specs.List.{list_all}
use Rattle.cedar_expr_model.specs.Lists.{first_found}
use Rattle.cedar_schema_entries.specs.Views.{action_seen}
use Rattle.cedar_schema_built.specs.Views.{schema_kept}
use Rattle.cedar_schema_model.specs.Unsound.{action_fault}
use Rattle.cedar_schema_sound.specs.Closed.{is_action_closed}
use Rattle.cedar_schema_sound.specs.Views.{names_known}
use Rattle.cedar_schema_sound.proofs.check.first_unsound_action.Given as goal

abbrev pub invariant-loop-action : goal.invariant-loop-action
invariant-loop-action l = record {
  found : first_found (action_fault (names_known l.extension_types) (schema_kept l.schema)) (map action_seen l.action-iterator) ≡ first_found (action_fault (names_known l.extension_types) (schema_kept l.schema)) (schema_kept l.schema).actions;
  closed : l.closed ≡ true → list_all (is_action_closed (schema_kept l.schema)) (map action_seen l.action-iterator) ≡ true;
}
