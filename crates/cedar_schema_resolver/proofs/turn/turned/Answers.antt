use Rattle.std.proofs.Common.{◌∙◌}
use Rattle.cedar_schema_resolver.proofs.Searching.{row_below}
use Rattle.cedar_schema_resolver.proofs.Ordering.{edge_from}
use Rattle.cedar_schema_resolver.proofs.Turning.{none_turned, one_turned, turned_to}
use Rattle.cedar_schema_resolver.proofs.turn.turned.Goals as goal

pub loop-node-init : goal.loop-node-init
loop-node-init c = record { size = c.in_ok-rows.ensures.size; edges = none_turned c.args.graph.now c.in_ok-rows.rows.items c.in_ok-rows.ensures.empty }

pub add_to_rows-requires : goal.add_to_rows-requires
add_to_rows-requires c = row_below c.args.graph.now c.loop-node.node _ _ c.requires c.loop-node.invariant.size c.row.ensures

pub loop-node-preserved : goal.loop-node-preserved
loop-node-preserved c = record {
  size = c.in_ok-add_to_rows.ensures.size ∙ c.loop-node.invariant.size;
  edges = one_turned c.args.graph.now c.loop-node.rows.items c.add_to_rows.new.rows.items c.loop-node.node c.row.result.now c.row.ensures c.in_ok-add_to_rows.ensures.added c.loop-node.invariant.edges;
}

pub returns : goal.returns
returns c = turned_to c.args.graph.now c.loop-node.rows.items c.loop-node.node c.loop-node.invariant.size c.loop-node-test.false (edge_from c.args.graph.now) c.loop-node.invariant.edges
