use Rattle.std.proofs.Common.{◌≡◌, ◌++◌, map}
use Rattle.std.specs.List.{flat_map}
use Rattle.cedar_schema_entries.specs.Views.{action_seen}
use Rattle.cedar_typechecker_environments.specs.Settings.{environment_of}
use Rattle.cedar_typechecker_model.specs.Asked.{environments_kept}
use Rattle.cedar_typechecker.proofs.environments.environments_of.Given as goal

abbrev pub invariant-loop-action : goal.invariant-loop-action
invariant-loop-action l = (map environment_of l.found.items ++ flat_map environments_kept (map action_seen l.action-iterator)) ≡ flat_map environments_kept (map action_seen l.initial.action-iterator)
