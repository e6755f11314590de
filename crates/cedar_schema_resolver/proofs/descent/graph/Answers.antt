use Rattle.std.specs.BTreeMap.{get}
use Rattle.cedar_schema_resolver.proofs.Graphing.{graph_is}
use Rattle.cedar_schema_resolver.proofs.descent.graph.Goals as goal

pub returns-clause-graph : goal.returns-clause-graph
returns-clause-graph g c = graph_is g.N.Node.seen c.args.nodes.now (get g.N.Ord.cmp c.in_ok-numbers.numbers) c.in_ok-graph.graph.items c.in_ok-numbers.ensures.numbers c.in_ok-numbers.ensures.once c.in_ok-graph.ensures
