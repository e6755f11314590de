use Rattle.std.proofs.lemmas.Grind.{common_steps}
use Rattle.std.proofs.Common.{rules, sym, ap, ◌∙◌, true, [], arith}
use Rattle.std.proofs.Output.{has_written_of_eq, writes_in_calls_nil}
use Rattle.cedar_schema_model.specs.Texts.{attributes_text}
use Rattle.cedar_schema_types.proofs.Entries.{attributes_are}
use Rattle.cedar_schema_types.proofs.Shown.{attributes_left, shown_first, attribute_shown, attributes_shown}
use Rattle.cedar_schema_types.proofs.texts.+texts.Goals as goal

pub show_attributes-loop-name-init : goal.show_attributes-loop-name-init
show_attributes-loop-name-init g t c = λ p.
    let entries = c.into_iter-name-iterator.ensures.into_iter_gives ∙ c.iter-name-items.ensures.rest ∙ ap (λ m. m.entries) c.deref.ensures in
    shown_first _ c.args.f.now _ _ (ap (attributes_left true) entries ∙ ap (attributes_text true) (sym (attributes_are c.args.attrs.now))) (record { wrote = writes_in_calls_nil _ _; plain = p })

pub show_attributes-loop-name-preserved : goal.show_attributes-loop-name-preserved
show_attributes-loop-name-preserved g t c = λ p.
    let before = c.loop-name.invariant p in
    let sep = has_written_of_eq _ _ _ _ _ c.between.ensures (c.in_ok-write_str.ensures.writes before.wrote.plain (search rules)) in
    let one = c.in_ok-show_attribute.ensures sep.plain (search rules) in
    attribute_shown _ c.args.f.now c.loop-name.f c.write_str.new.self c.show_attribute.new.f c.loop-name.is_first c.loop-name.name-iterator c.next.new.self c.in-Some.name.now c.in-Some.declared.now _ before c.in-Some.ensures.steps sep one

pub show_attributes-returns : goal.show_attributes-returns
show_attributes-returns g t c = λ p ok. attributes_shown _ c.args.f.now c.loop-name.f c.loop-name.is_first c.loop-name.name-iterator _ (c.loop-name.invariant p) c.in-None.ensures.steps.0

pub show_attribute-returns : goal.show_attribute-returns
show_attribute-returns g t c = grind (arith, common_steps)

pub show_record-returns : goal.show_record-returns
show_record-returns g t c = grind (arith, common_steps)

pub show_set-returns : goal.show_set-returns
show_set-returns g t c = grind (arith, common_steps)
