use Rattle.std.proofs.Common.{◌≡◌, IfOk, subst}
use Rattle.cedar_expr_model.specs.Substitution.{substituted}
use Rattle.cedar_expr_trees.specs.Trees.{tree_of}
use Rattle.cedar_expr_substitution.proofs.substitute.ExprSubstitute.substitute.Goals as goal

pub returns : goal.returns
returns g c = subst (λ env. IfOk c.replaced.result (λ e. tree_of e ≡ substituted env (tree_of c.args.self.now))) c.new.ensures c.replaced.ensures
