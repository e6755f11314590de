use Rattle.std.proofs.Common.{◌≡◌, ◌++◌, map}
use Rattle.std.specs.Vec.Iter.{into_iter_items}
use Rattle.cedar_schema_built.specs.Views.{request_kind}
use Rattle.cedar_schema_entries.specs.Views.{action_seen}
use Rattle.cedar_typechecker_environments.specs.Settings.{environment_of}
use Rattle.cedar_typechecker_model.specs.Asked.{environments_kept}
use Rattle.cedar_typechecker.proofs.OfRequests.{environment_by}
use Rattle.cedar_typechecker.proofs.environments.add_environments.Given as goal

abbrev pub invariant-loop-kind : goal.invariant-loop-kind
invariant-loop-kind l = (map environment_of l.found.items ++ map (environment_by (action_seen l.action)) (map request_kind (into_iter_items l.kind-iterator))) ≡ (map environment_of l.initial.found.items ++ environments_kept (action_seen l.action))
