use Rattle.std.proofs.Common.{◌++◌, length, ap, ◌∙◌}
use Rattle.cedar_schema_resolver.specs.Ranks.{ranks_from}
use Rattle.cedar_schema_resolver.proofs.Ranking.{rank_one, rank_all}
use Rattle.cedar_schema_resolver.proofs.order.ranks.Goals as goal

pub loop-node-init : goal.loop-node-init
loop-node-init c = ap (λ rs. rs ++ ranks_from c.args.rows.now 0) c.in_ok-ranks.ensures.items

pub loop-node-preserved : goal.loop-node-preserved
loop-node-preserved c = rank_one c.args.rows.now c.loop-node.ranks.items c.push.new.self.items _ c.loop-node.node c.index-rows-node.result _ c.loop-node-test.true (c.len-count.ensures ∙ c.index-rows-node.result.ok.0 ∙ ap (λ r. length r.items) c.index-rows-node.is) c.in_ok-push.ensures.items c.loop-node.invariant

pub returns : goal.returns
returns c = rank_all c.args.rows.now c.loop-node.ranks.items _ c.loop-node.node c.loop-node-test.false c.loop-node.invariant
