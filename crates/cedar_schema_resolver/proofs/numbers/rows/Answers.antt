use Rattle.std.proofs.Common.{ap, ◌∙◌}
use Rattle.std.proofs.lemmas.List.{take_all}
use Rattle.std.specs.BTreeMap.{get}
use Rattle.std.specs.List.{filter_map}
use Rattle.cedar_schema_resolver.specs.Numbers.{rows_of}
use Rattle.cedar_schema_resolver.proofs.Numbering.{items_of, row_one}
use Rattle.cedar_schema_resolver.proofs.numbers.rows.Goals as goal

pub loop-node-init : goal.loop-node-init
loop-node-init g c = ap items_of c.in_ok-rows.ensures.items

pub loop-node-preserved : goal.loop-node-preserved
loop-node-preserved g c =
    let number = get g.N.Ord.cmp c.args.numbers.now in
    row_one number c.args.nodes.now c.loop-node.rows.items c.push.new.self.items c.in_ok-numbers_of.field-0 c.loop-node.node-index c.node-item.result
    c.loop-node-test.true c.node-item.is (c.in_ok-numbers_of.ensures ∙ ap (filter_map number) c.deref.ensures.value) c.in_ok-push.ensures.items c.loop-node.invariant

pub returns : goal.returns
returns g c = c.loop-node.invariant ∙ ap (rows_of (get g.N.Ord.cmp c.args.numbers.now)) (take_all c.loop-node.node-index c.args.nodes.now c.loop-node-test.false)
