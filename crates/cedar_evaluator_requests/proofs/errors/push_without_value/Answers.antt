use Rattle.std.proofs.Common.{map, ap, ◌∙◌}
use Rattle.cedar_expr_trees.specs.Trees.{tree_of}
use Rattle.cedar_expr_trees.specs.declared.expr.Expr.{Expr}
use Rattle.cedar_store_parts.specs.Parts.{id_text}
use Rattle.cedar_evaluator_model.specs.Members.{without_value}
use Rattle.cedar_evaluator_model.specs.Response.{ResponseError, no_value}
use Rattle.cedar_evaluator_requests.specs.Views.{error_of}
use Rattle.cedar_evaluator_requests.specs.Groups.{residual_seen}
use Rattle.cedar_evaluator_requests.proofs.Listed.{one_more}
use Rattle.cedar_evaluator_requests.proofs.errors.push_without_value.Goals as goal

pub loop-id-preserved : goal.loop-id-preserved
loop-id-preserved c =
    let told : Expr Unit → ResponseError = λ e. record { id = id_text c.in-Some.id.now; cause = no_value (tree_of e) } in
    one_more residual_seen without_value error_of (map error_of c.args.errors.now.items) c.loop-id.errors.items c.push.new.self.items c.args.group.now.entries c.loop-id.id-iterator c.next.new.self (c.in-Some.id.now, c.in-Some.kept.now) c.in_ok-without_a_value.field-0 c.loop-id.invariant c.in-Some.ensures.steps c.in_ok-push.ensures.items
    (c.in_ok-without_a_value.ensures ∙ ap told c.deref.ensures)
