use Rattle.std.proofs.Common.{rules, arith, ◌≡◌, length, sym, ap, ◌∙◌}
use Rattle.std.proofs.lemmas.List.{nil_from_length}
use Rattle.std.specs.Vec.Iter.{into_iter_items, into_iter_len}
use Rattle.cedar_store_parts.specs.Parts.{id_text}
use Rattle.cedar_gate_sessions.proofs.Once.{set_step, set_all}
use Rattle.cedar_gate_sessions.proofs.answers.set_of.Goals as goal

pub loop-id-init : goal.loop-id-init
loop-id-init c =
    let items : into_iter_items c.into_iter-id-iterator.result ≡ c.args.ids.items = search rules in
    let long : into_iter_len c.into_iter-id-iterator.result ≡ length c.args.ids.items = search rules in
    record { goes = search rules; full = long ∙ ap length (sym items) }

pub loop-id-preserved : goal.loop-id-preserved
loop-id-preserved c = record {
  goes = λ d. set_step id_text c.args.ids.items (into_iter_items c.loop-id.id-iterator) (into_iter_items c.next.new.self) c.loop-id.set.keys c.insert.new.self.keys c.in-Some.id d (c.loop-id.invariant.goes d) c.in-Some.ensures.steps.0 c.in_ok-insert.ensures.keys;
  full = let a = c.in-Some.ensures.steps.1 in let b = ap length c.in-Some.ensures.steps.0 in let f = c.loop-id.invariant.full in omega (arith, a, b, f);
}

pub returns : goal.returns
returns c = λ d.
    set_all id_text c.args.ids.items (into_iter_items c.loop-id.id-iterator) c.loop-id.set.keys (c.loop-id.invariant.goes d)
    (nil_from_length (into_iter_items c.loop-id.id-iterator) (sym c.loop-id.invariant.full ∙ c.in-None.ensures.steps.0))
