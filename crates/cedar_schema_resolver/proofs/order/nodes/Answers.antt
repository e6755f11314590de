use Rattle.std.proofs.Common.{refl, ap, ◌∙◌}
use Rattle.std.proofs.lemmas.List.{take_all}
use Rattle.cedar_schema_resolver.proofs.Ranking.{nodes_of, node_one}
use Rattle.cedar_schema_resolver.proofs.order.nodes.Goals as goal

pub loop-rank-init : goal.loop-rank-init
loop-rank-init c = c.in_ok-nodes.ensures.items

pub loop-rank-preserved : goal.loop-rank-preserved
loop-rank-preserved c = node_one c.args.ranks.now c.loop-rank.nodes.items c.push.new.self.items c.loop-rank.rank-index _ _ c.loop-rank-test.true refl c.in_ok-push.ensures.items c.loop-rank.invariant

pub returns : goal.returns
returns c = c.loop-rank.invariant ∙ ap nodes_of (take_all c.loop-rank.rank-index c.args.ranks.now c.loop-rank-test.false)
