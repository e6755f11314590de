use Rattle.std.proofs.Common.{map}
use Rattle.cedar_typechecker_environments.specs.Settings.{environment_of}
use Rattle.cedar_typechecker_scopes.specs.Uses.{use_of, linked_environments}
use Rattle.cedar_typechecker_scopes.proofs.Loops.{some_more}
use Rattle.cedar_typechecker_scopes.proofs.environments.add_all.Goals as goal

pub loop-env-preserved : goal.loop-env-preserved
loop-env-preserved g c =
    some_more (linked_environments (g.S.DeclaredAttributes.schema c.args.schema.now) (use_of c.args.principal) (use_of c.args.resource)) environment_of (map environment_of c.loop-env.found.items) (map environment_of c.add_linked.new.found.items) (map environment_of c.args.found.now.items) c.args.envs.now c.loop-env.env-index c.env-item.result _ c.loop-env-test.true c.env-item.is c.loop-env.invariant c.in_ok-add_linked.ensures
