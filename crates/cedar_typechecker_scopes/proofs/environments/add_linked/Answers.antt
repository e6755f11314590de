use Rattle.std.proofs.Common.{◌≡◌, ◌++◌, map, option_map, ap, ◌∙◌, subst}
use Rattle.std.specs.Prelude.{OnOk}
use Rattle.std.specs.List.{flat_map}
use Rattle.cedar_expr_names.specs.Views.{type_name_of}
use Rattle.cedar_schema_model.specs.Environment.{with_slots}
use Rattle.cedar_typechecker_environments.specs.Settings.{environment_of}
use Rattle.cedar_typechecker_scopes.proofs.environments.add_linked.Goals as goal

pub returns : goal.returns
returns g c =
    let e = environment_of c.args.env.now in
    let ps = ap (map (λ t. option_map type_name_of t)) c.as_slice.ensures.value ∙ c.in_ok-principals.ensures in
    let rs = ap (map (λ t. option_map type_name_of t)) c.as_slice-2.ensures.value ∙ c.in_ok-resources.ensures in
    subst (λ ys. OnOk c.add_for_each.result (map environment_of c.add_for_each.new.found.items ≡ map environment_of c.args.found.now.items ++ ys))
    (λ i. flat_map (λ m. map (with_slots e m) (rs i)) (ps i))
    c.add_for_each.ensures
