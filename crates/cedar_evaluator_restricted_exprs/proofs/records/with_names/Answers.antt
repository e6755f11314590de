use Rattle.std.proofs.Common.{rules, arith, sym, ◌∙◌}
use Rattle.std.proofs.lemmas.Grind.{common_steps}
use Rattle.std.proofs.lemmas.List.{nil_from_length}
use Rattle.std.specs.Vec.Iter.{into_iter_items}
use Rattle.cedar_evaluator_restricted_exprs.proofs.Named.{pairs_on, pairs_pass, pairs_end, pairs_are, pairs_rise}
use Rattle.cedar_evaluator_restricted_exprs.proofs.records.with_names.Goals as goal

pub loop-item-preserved-in_ok-push : goal.loop-item-preserved-in_ok-push
loop-item-preserved-in_ok-push g c = pairs_on _ c.loop-item.pairs.items c.push.new.self.items c.loop-item.names c.next-in-loop-item.new.self c.in-Some-next.name.now c.in_ok-clone.field-0 c.in-Some.item (into_iter_items c.next.new.self) (into_iter_items c.loop-item.item-iterator) c.loop-item.invariant c.in-Some-next.ensures.steps c.in-Some.ensures.steps.0 (search rules) c.in_ok-push.ensures.items

pub loop-item-preserved : goal.loop-item-preserved
loop-item-preserved g c = pairs_pass _ c.loop-item.pairs.items c.loop-item.names c.next-in-loop-item.new.self (into_iter_items c.next.new.self) (into_iter_items c.loop-item.item-iterator) c.loop-item.invariant c.in_default.ensures.steps.0 c.in_default.ensures.steps.1

pub returns-clause-pairs : goal.returns-clause-pairs
returns-clause-pairs g c = pairs_are c.args.fields.now.entries c.args.items.items c.loop-item.pairs.items (pairs_end _ c.loop-item.pairs.items c.loop-item.names (into_iter_items c.loop-item.item-iterator) c.loop-item.invariant (grind (arith, common_steps)))

pub returns-clause-rising : goal.returns-clause-rising
returns-clause-rising g c = pairs_rise c.args.fields.now.entries c.args.items.items c.loop-item.pairs.items (pairs_end _ c.loop-item.pairs.items c.loop-item.names (into_iter_items c.loop-item.item-iterator) c.loop-item.invariant (nil_from_length (into_iter_items c.loop-item.item-iterator) (sym c.loop-item.item-iterator.rest.ok.0 ∙ c.in-None.ensures.steps.0))) c.len.ensures.ordered
