use Rattle.std.proofs.Common.{rules, map, option_map, ap, ◌∙◌, ◌++◌}
use Rattle.std.proofs.lemmas.List.{take_all}
use Rattle.std.specs.List.{flat_map}
use Rattle.cedar_expr_names.specs.Views.{type_name_of}
use Rattle.cedar_schema_model.specs.Environment.{with_slots}
use Rattle.cedar_typechecker_environments.specs.Settings.{environment_of}
use Rattle.cedar_typechecker_scopes.proofs.Loops.{some_more}
use Rattle.cedar_typechecker_scopes.proofs.environments.add_for_each.Goals as goal

pub loop-ty-preserved : goal.loop-ty-preserved
loop-ty-preserved c =
    some_more (λ m. map (with_slots (environment_of c.args.env.now) m) (map (λ t. option_map type_name_of t) c.args.resources.now)) (λ t. option_map type_name_of t) (map environment_of c.loop-ty.found.items) (map environment_of c.add_each.new.found.items) (map environment_of c.args.found.now.items) c.args.principals.now c.loop-ty.ty-index c.ty-item.result _ c.loop-ty-test.true c.ty-item.is c.loop-ty.invariant (search rules)

pub returns : goal.returns
returns c =
    c.loop-ty.invariant
    ∙ ap (λ ps. map environment_of c.args.found.now.items ++ flat_map (λ m. map (with_slots (environment_of c.args.env.now) m) (map (λ t. option_map type_name_of t) c.args.resources.now)) (map (λ t. option_map type_name_of t) ps)) (take_all c.loop-ty.ty-index c.args.principals.now c.loop-ty-test.false)
