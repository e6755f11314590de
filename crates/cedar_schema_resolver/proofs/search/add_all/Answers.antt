use Rattle.std.proofs.Common.{refl, ◌∙◌, arith}
use Rattle.std.proofs.lemmas.List.Elements.{Contains-get_or}
use Rattle.cedar_schema_resolver.proofs.Finding.{nodes_one, nodes_all}
use Rattle.cedar_schema_resolver.proofs.search.add_all.Goals as goal

pub add-requires-clause-within : goal.add-requires-clause-within
add-requires-clause-within c =
    let l = c.requires.within.each _ (Contains-get_or c.args.nodes.now c.loop-node.node-index 0 c.loop-node-test.true) in
    omega (arith, l, c.loop-node.invariant.size)

pub loop-node-init : goal.loop-node-init
loop-node-init c = record { marks = c.requires.marks; size = refl; found = refl }

pub loop-node-preserved : goal.loop-node-preserved
loop-node-preserved c = record {
  marks = c.in_ok-add.ensures.marks;
  size = c.add.ensures.size ∙ c.loop-node.invariant.size;
  found = nodes_one c.args.nodes.now c.loop-node.found.items _ _ c.loop-node.node-index _ _ c.loop-node-test.true refl c.in_ok-add.ensures.found c.loop-node.invariant.found;
}

pub returns-clause-found : goal.returns-clause-found
returns-clause-found c = nodes_all c.args.nodes.now c.loop-node.found.items _ c.loop-node.node-index c.loop-node-test.false c.loop-node.invariant.found
