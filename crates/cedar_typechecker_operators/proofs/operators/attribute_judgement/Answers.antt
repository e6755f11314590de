use Rattle.std.proofs.Common.{◌≡◌, ◌∙◌, ap, rules, option_map}
use Rattle.std.specs.Rc.{rc_str_bytes}
use Rattle.cedar_expr_trees.specs.Trees.{tree_of}
use Rattle.cedar_typechecker_environments.specs.Facts.{capability_of}
use Rattle.cedar_typechecker_model.specs.Facts.{attribute_part}
use Rattle.cedar_typechecker_model.specs.Typing.{tested}
use Rattle.cedar_typechecker_operators.proofs.PathTests.{judged_so}
use Rattle.cedar_typechecker_operators.proofs.operators.attribute_judgement.Goals as goal

pub returns : goal.returns
returns g c =
    let e = tree_of c.args.of.now in
    let same : rc_str_bytes c.in_ok-clone.field-0 ≡ rc_str_bytes c.args.attr.now = search rules in
    let is : capability_of c.new_attribute-fact.result ≡ (e, attribute_part (rc_str_bytes c.args.attr.now)) = c.new_attribute-fact.ensures ∙ ap (λ n. (e, attribute_part n)) same in
    judged_so c.tested.result _ _ (λ i. option_map (tested (is i).0 (is i).1) (c.attribute_there-there.ensures i)) c.tested.ensures
