use Rattle.std.proofs.Common.{◌≡◌, IfOk, subst}
use Rattle.cedar_expr_model.specs.Substitution.{substituted}
use Rattle.cedar_expr_trees.specs.Trees.{tree_of}
use Rattle.cedar_evaluator_requests.specs.Views.{restricted_tree}
use Rattle.cedar_gate_openings.specs.Names.{bound_in}
use Rattle.cedar_gate_openings.proofs.Records.{all_restricted, all_of_record}
use Rattle.cedar_gate_openings.proofs.contexts.with_values.Goals as goal

pub returns-clause-restricted : goal.returns-clause-restricted
returns-clause-restricted c =
    all_restricted (bound_in c.args.bound.now) (restricted_tree c.args.fields.now) c.substitute.result c.record_of.ensures.restricted
    (subst (λ t. IfOk c.substitute.result (λ e. tree_of e ≡ substituted (bound_in c.args.bound.now) t)) c.in_ok-record_of.ensures.tree c.substitute.ensures)

pub returns-clause-of_record : goal.returns-clause-of_record
returns-clause-of_record c =
    all_of_record (bound_in c.args.bound.now) c.args.fields.now c.substitute.result c.record_of.ensures.restricted
    (subst (λ t. IfOk c.substitute.result (λ e. tree_of e ≡ substituted (bound_in c.args.bound.now) t)) c.in_ok-record_of.ensures.tree c.substitute.ensures)
