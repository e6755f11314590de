use Rattle.std.proofs.Common.{sym, ap, ◌∙◌}
use Rattle.std.specs.BTreeMap.{values}
use Rattle.cedar_expr_model.specs.Made as model
use Rattle.cedar_expr_model.specs.Ranges.{is_in_range, are_in_range, have_in_range}
use Rattle.cedar_expr_values.specs.Kept.{KeptSet, KeptRecord}
use Rattle.cedar_expr_values.specs.Falls.{set_is, record_is}
use Rattle.cedar_expr_values.specs.Values.{bare, bare_kind}
use Rattle.cedar_expr_values.proofs.Ranged.{all_in_range, through_all, members_in_range, fields_in_range}
use Rattle.cedar_expr_values.proofs.value.ValueKind.+is_in_range.Goals as goal

pub returns-after-loop-value : goal.returns-after-loop-value
returns-after-loop-value g t c =
    let seen = g.X.ExtensionValue.seen in
    ap (λ k. is_in_range (bare_kind seen k)) c.in-Set.is
    ∙ ap (λ ms. are_in_range (model.bares ms)) (sym (ap (λ (k : KeptSet). k.0) c.set.view_is) ∙ set_is seen c.set.inside c.set.invariant.0)
    ∙ members_in_range seen c.set.inside.members.value.values.items
    ∙ ap (all_in_range seen) (sym (c.deref-value-items.ensures.value ∙ ap (λ m. m.values.items) c.deref-in-Set.ensures))
    ∙ through_all (λ v. is_in_range (bare seen v)) c.deref-value-items.result.now c.loop-value.value-index c.loop-value-test.false c.loop-value.invariant

pub returns-in-None : goal.returns-in-None
returns-in-None g t c =
    let seen = g.X.ExtensionValue.seen in
    ap (λ k. is_in_range (bare_kind seen k)) c.in-Record.is
    ∙ ap (λ fs. have_in_range (model.bare_fields fs)) (sym (ap (λ (k : KeptRecord). k.0) c.fields.view_is) ∙ record_is seen c.fields.inside c.fields.invariant)
    ∙ fields_in_range seen c.fields.inside.fields.value.entries
    ∙ ap (all_in_range seen) (sym (c.into_iter-value-iterator.ensures.into_iter_gives ∙ c.values-value-items.ensures.rest ∙ ap values c.deref-in-Record.ensures))
    ∙ c.loop-value-2.invariant
    ∙ ap (all_in_range seen) c.in-None.ensures.steps.0
