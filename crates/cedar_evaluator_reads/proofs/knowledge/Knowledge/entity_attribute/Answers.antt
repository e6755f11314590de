use Rattle.std.proofs.Common.{sym, ap, subst}
use Rattle.std.specs.Rc.{rc_str_bytes}
use Rattle.cedar_expr_names.specs.Views.{uid_of}
use Rattle.cedar_expr_trees.specs.Trees.{tree_of}
use Rattle.cedar_evaluator_errors.specs.Outcomes.{Leaves}
use Rattle.cedar_evaluator_reads.specs.Scopes.{scope_seen}
use Rattle.cedar_evaluator_reads.proofs.Held.{unloaded_at, attribute_unloaded}
use Rattle.cedar_evaluator_reads.proofs.knowledge.Knowledge.entity_attribute.Goals as goal

pub returns-in-Residual : goal.returns-in-Residual
returns-in-Residual g c =
    let s = scope_seen c.args.self.now in
    let there = unloaded_at s.store (uid_of c.args.uid.now.value) (uid_of c.deref.result.now) (ap uid_of c.deref.ensures) c.in_ok-entity.field-0 c.in_ok-entity.ensures c.in-Residual.e c.in-Residual.is in
    subst (λ l. Leaves l c.get_left.result) (sym (attribute_unloaded s (rc_str_bytes c.args.attr.now) (uid_of c.args.uid.now.value) (tree_of {T = Unit} c.in-Residual.e) there)) c.get_left.ensures
