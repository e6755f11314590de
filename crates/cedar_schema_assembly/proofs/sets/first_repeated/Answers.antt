use Rattle.std.proofs.Common.{map, take, sym, subst}
use Rattle.std.specs.BTreeSet.{contains}
use Rattle.std.specs.Prelude.{Contains}
use Rattle.cedar_schema_resolver.specs.Numbers.{names_in}
use Rattle.cedar_schema_assembly.specs.Lists.{IsSetOf, StandOnce}
use Rattle.cedar_schema_assembly.proofs.Putting.{nothing_yet, stand_none, stand_more, set_more, next_of, found_there, twice_at, was_there, was_new}
use Rattle.cedar_schema_assembly.proofs.sets.first_repeated.Goals as goal

pub loop-node-init : goal.loop-node-init
loop-node-init g c = record { met = nothing_yet g.N.Node.seen c.new-met.result.keys c.new-met.ensures.empty; once = stand_none }

pub returns-then-not-branch : goal.returns-then-not-branch
returns-then-not-branch g c =
    let seen = g.N.Node.seen in
    let there = (found_there seen g.N.Ord.cmp g.met.N.Node.told c.in_ok-copy.field-0 c.loop-node.met.keys).0
    (was_there c.in_ok-insert.field-0 (contains g.N.Ord.cmp c.loop-node.met c.in_ok-copy.field-0) c.in_ok-insert.ensures.added c.if-not-branch.true) in
    twice_at (λ t. seen t.0) c.args.nodes.now c.loop-node.node-index c.node-item.result c.loop-node-test.true c.node-item.is
    (subst (Contains (names_in seen (take c.loop-node.node-index c.args.nodes.now))) c.in_ok-copy.ensures (c.loop-node.invariant.met.only _ there))

pub loop-node-preserved : goal.loop-node-preserved
loop-node-preserved g c =
    let seen = g.N.Node.seen in
    let nodes = c.args.nodes.now in
    let i = c.loop-node.node-index in
    let node = c.node-item.result in
    let copy = c.in_ok-copy.field-0 in
    let before = names_in seen (take i nodes) in
    let next = sym (next_of (λ t. seen t.0) nodes i node c.loop-node-test.true c.node-item.is) in
    record {
      met = subst (λ xs. IsSetOf xs (map seen c.insert.new.self.keys)) next
          (set_more seen g.N.Ord.cmp g.met.N.Node.told before c.loop-node.met.keys c.insert.new.self.keys copy (seen node.0) c.in_ok-copy.ensures c.in_ok-insert.ensures.keys c.loop-node.invariant.met);
      once = subst StandOnce next
          (stand_more before (seen node.0) c.loop-node.invariant.once
          (λ m. was_new c.in_ok-insert.field-0 (contains g.N.Ord.cmp c.loop-node.met copy) c.in_ok-insert.ensures.added c.if-not-branch.false
          ((found_there seen g.N.Ord.cmp g.met.N.Node.told copy c.loop-node.met.keys).1 (subst (Contains (map seen c.loop-node.met.keys)) (sym c.in_ok-copy.ensures) (c.loop-node.invariant.met.all _ m)))));
    }
