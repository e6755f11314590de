use Rattle.std.proofs.lemmas.Grind.{common_steps}
use Rattle.std.proofs.Common.{sym, subst, rules, arith}
use Rattle.cedar_schema_resolver.proofs.Searching.{AreRows, one_row}
use Rattle.cedar_schema_resolver.proofs.closures.closure.Goals as goal

pub loop-start-preserved : goal.loop-start-preserved
loop-start-preserved c = record {
  size = search rules;
  each = subst (AreRows c.args.graph.now) (sym c.in_ok-push.ensures.items) (one_row c.args.graph.now c.loop-start.rows.items c.in_ok-reached_from.field-0 c.loop-start.start c.loop-start.invariant.size c.in_ok-reached_from.ensures.found c.loop-start.invariant.each);
  marks = c.in_ok-reached_from.ensures.marks;
  room = c.in_ok-reached_from.ensures.size;
}

pub loop-start-init : goal.loop-start-init
loop-start-init c = grind (arith, common_steps)
