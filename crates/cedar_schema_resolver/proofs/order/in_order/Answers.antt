use Rattle.std.proofs.Common.{subst}
use Rattle.cedar_schema_resolver.specs.Ranks.{LeadsToItself, LeadToOthers, AreByRank}
use Rattle.cedar_schema_resolver.proofs.Ordering.{itself_reached, ordered}
use Rattle.cedar_schema_resolver.proofs.order.in_order.Goals as goal

pub returns-in-Some-clause-cycle : goal.returns-in-Some-clause-cycle
returns-in-Some-clause-cycle c = itself_reached c.args.graph.now c.in_ok-rows.rows.items c.requires c.in_ok-rows.ensures c.in-Some.node (subst (λ r. LeadsToItself r c.in-Some.node) c.deref.ensures.value c.in-Some.ensures.found)

pub returns-clause-order : goal.returns-clause-order
returns-clause-order c = ordered c.args.graph.now c.in_ok-rows.rows.items c.in_ok-by_rank-in-None.field-0.items c.requires c.in_ok-rows.ensures (subst LeadToOthers c.deref.ensures.value c.in-None.ensures.none) (subst (λ r. AreByRank r c.in_ok-by_rank-in-None.field-0.items) c.deref-in-None.ensures.value c.in_ok-by_rank-in-None.ensures)
