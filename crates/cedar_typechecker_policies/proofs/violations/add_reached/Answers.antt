use Rattle.std.proofs.Common.{◌++◌, map, ap, ◌∙◌}
use Rattle.cedar_store_parts.specs.Parts.{id_text}
use Rattle.cedar_typechecker_levels.specs.Views.{violation_of}
use Rattle.cedar_typechecker_policies.specs.Violations.{reached_in, violation_told}
use Rattle.cedar_typechecker_policies.proofs.Over.{map_both}
use Rattle.cedar_typechecker_policies.proofs.violations.add_reached.Goals as goal

pub returns : goal.returns
returns g c =
    let are = ap (map violation_of) c.as_slice.ensures.value ∙ c.in_ok-violations.ensures in
    let told = reached_in (id_text c.args.policy_id.now) in
    c.in_ok-add_violations.ensures ∙ ap (λ vs. map violation_told c.args.found.now.items ++ vs) (map_both told violation_of c.as_slice.result.now ∙ ap (map told) are)
