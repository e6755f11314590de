use Rattle.std.proofs.lemmas.Grind.{common_steps}
use Rattle.std.proofs.Common.{refl, arith}
use Rattle.std.proofs.lemmas.List.Elements.{Contains-get_or}
use Rattle.cedar_schema_resolver.proofs.Finding.{all_left}
use Rattle.cedar_schema_resolver.proofs.search.unmark.Goals as goal

pub loop-node-init : goal.loop-node-init
loop-node-init c = record { left = all_left c.args.marks.now.items c.args.found.now c.requires.marks; size = refl }

pub index_mut-requires : goal.index_mut-requires
index_mut-requires c =
    let l = c.requires.within.each _ (Contains-get_or c.args.found.now c.loop-node.node-index 0 c.loop-node-test.true) in
    omega (arith, l, c.loop-node.invariant.size)

pub loop-node-preserved : goal.loop-node-preserved
loop-node-preserved c = grind (arith, common_steps)

pub returns-clause-none : goal.returns-clause-none
returns-clause-none c = grind (arith, common_steps)
