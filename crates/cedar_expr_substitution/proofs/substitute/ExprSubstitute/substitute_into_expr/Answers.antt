use Rattle.std.proofs.Common.{◌≡◌, IfOk, IfErr, Ok, subst, ap, ◌∙◌}
use Rattle.cedar_expr_model.specs.Substitution.{built_under}
use Rattle.cedar_expr_trees.specs.Trees.{tree_of}
use Rattle.cedar_expr_builders.specs.Refusing.{refusing}
use Rattle.cedar_expr_substitution.specs.Outcome.{Refuses}
use Rattle.cedar_expr_substitution.specs.Bound.{bound_by, bindings_of}
use Rattle.cedar_expr_substitution.proofs.Placed.{placed_under, refusal_told}
use Rattle.cedar_expr_substitution.proofs.substitute.ExprSubstitute.substitute_into_expr.Goals as goal

pub returns-clause-made : goal.returns-clause-made
returns-clause-made g c =
    let b = refusing g.B.ExprBuilder.steps g.B.ExprBuilder.refuses in
    let seen = g.X.ExtensionValue.seen in
    let t = tree_of c.args.self.now in
    let is = placed_under b (bound_by seen c.new.result) t ∙ ap (λ env. built_under b env t) c.new.ensures in
    subst (λ o. IfOk c.build_with.result (λ r. o ≡ Ok (g.B.ExprBuilder.means r))) is c.build_with.ensures.made

pub returns-clause-refused : goal.returns-clause-refused
returns-clause-refused g c =
    let b = refusing g.B.ExprBuilder.steps g.B.ExprBuilder.refuses in
    let seen = g.X.ExtensionValue.seen in
    let t = tree_of c.args.self.now in
    let is = placed_under b (bound_by seen c.new.result) t ∙ ap (λ env. built_under b env t) c.new.ensures in
    refusal_told g.B.ExprBuilder.says (built_under b (bindings_of seen c.args.bindings.now) t) c.build_with.result
    (subst (λ o. IfErr c.build_with.result (λ f. Refuses g.B.ExprBuilder.says o f)) is c.build_with.ensures.refused)
