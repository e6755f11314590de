use Rattle.std.proofs.Common.{rules, map, option_map}
use Rattle.cedar_expr_names.specs.Views.{type_name_of}
use Rattle.cedar_schema_model.specs.Environment.{with_slots}
use Rattle.cedar_typechecker_environments.specs.Settings.{environment_of}
use Rattle.cedar_typechecker_scopes.proofs.Loops.{one_more}
use Rattle.cedar_typechecker_scopes.proofs.environments.add_each.Goals as goal

pub loop-resource-preserved : goal.loop-resource-preserved
loop-resource-preserved c =
    one_more environment_of (with_slots (environment_of c.args.env.now) (option_map (λ t. type_name_of t.now) c.args.principal)) (λ t. option_map type_name_of t) c.loop-resource.found.items c.push.new.self.items (map environment_of c.args.found.now.items) c.args.resources.now c.loop-resource.resource-index c.resource-item.result _ c.in_ok-with_slots.field-0 c.loop-resource-test.true c.resource-item.is c.loop-resource.invariant c.in_ok-push.ensures.items (search rules)
