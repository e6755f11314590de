use Rattle.std.proofs.Common.{◌++◌, length, fold, sym, ap, ◌∙◌}
use Rattle.std.specs.Hash as fed
use Rattle.std.specs.Vec.{vec_len}
use Rattle.cedar_expr_model.specs.Made as model
use Rattle.cedar_expr_model.specs.Value.{values_list}
use Rattle.cedar_expr_values.specs.Falls.{set_is, record_is}
use Rattle.cedar_expr_values.specs.Inputs.{members_input, fields_input, field_count}
use Rattle.cedar_expr_values.specs.Kept.{KeptSet, KeptRecord}
use Rattle.cedar_expr_values.proofs.Fed.{all_fed, fields_fed, fields_counted, two_steps, all_are_fed}
use Rattle.cedar_expr_values.proofs.Members.{length_is}
use Rattle.cedar_expr_values.proofs.value.fed.+feed.Goals as goal

pub feed_set-returns : goal.feed_set-returns
feed_set-returns g t c =
    let seen = g.X.ExtensionValue.seen in
    let w = g.H.Hasher.write in
    let vs = c.set.inside.members.value.values.items in
    let is = sym (ap (λ (k : KeptSet). k.0) c.set.view_is) ∙ set_is seen c.set.inside c.set.invariant.0 in
    let gone = c.deref-value-items.ensures.value ∙ ap (λ m. m.values.items) c.deref-2.ensures in
    let counted = c.len.ensures ∙ ap (λ m. vec_len m.values) c.deref.ensures ∙ c.set.inside.members.value.values.ok.0 ∙ length_is seen vs in
    two_steps seen w c.args.state.now c.write_usize.new.self c.loop-value.state (fed.u8 1 ++ fed.usize (length (values_list (model.bares c.args.set.now.0)))) (members_input (model.bares c.args.set.now.0))
    (two_steps seen w c.args.state.now c.write_u8.new.self c.write_usize.new.self (fed.u8 1) (fed.usize (length (values_list (model.bares c.args.set.now.0)))) c.write_u8.ensures
    (c.write_usize.ensures ∙ ap (λ n. fold w c.write_u8.new.self (fed.usize n)) (counted ∙ ap (λ ms. length (values_list (model.bares ms))) (sym is))))
    (all_are_fed seen w c.loop-value.state c.deref-value-items.result.now c.loop-value.value-index _ c.loop-value-test.false c.loop-value.invariant
    ∙ ap (λ xs. fold w c.write_usize.new.self (all_fed seen xs)) gone
    ∙ ap (λ ms. fold w c.write_usize.new.self (members_input (model.bares ms))) (sym is))

pub feed_record-returns : goal.feed_record-returns
feed_record-returns g t c =
    let seen = g.X.ExtensionValue.seen in
    let w = g.H.Hasher.write in
    let es = c.record.inside.fields.value.entries in
    let is = sym (ap (λ (k : KeptRecord). k.0) c.record.view_is) ∙ record_is seen c.record.inside c.record.invariant in
    let gone = c.into_iter-name-iterator.ensures.into_iter_gives ∙ c.iter-name-items.ensures.rest ∙ ap (λ m. m.entries) c.deref-2.ensures in
    let counted = c.len.ensures.len ∙ ap (λ m. length m.entries) c.deref.ensures ∙ fields_counted seen es in
    two_steps seen w c.args.state.now c.write_usize.new.self c.loop-name.state (fed.u8 2 ++ fed.usize (field_count (model.bare_fields c.args.record.now.0))) (fields_input (model.bare_fields c.args.record.now.0))
    (two_steps seen w c.args.state.now c.write_u8.new.self c.write_usize.new.self (fed.u8 2) (fed.usize (field_count (model.bare_fields c.args.record.now.0))) c.write_u8.ensures
    (c.write_usize.ensures ∙ ap (λ n. fold w c.write_u8.new.self (fed.usize n)) (counted ∙ ap (λ ms. field_count (model.bare_fields ms)) (sym is))))
    (sym (ap (λ es. fold w c.loop-name.state (fields_fed seen es)) c.in-None.ensures.steps.0)
    ∙ c.loop-name.invariant
    ∙ ap (λ xs. fold w c.write_usize.new.self (fields_fed seen xs)) gone
    ∙ ap (λ ms. fold w c.write_usize.new.self (fields_input (model.bare_fields ms))) (sym is))
