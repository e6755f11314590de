use Rattle.std.proofs.Common.{◌||◌, sym, ap, ◌∙◌}
use Rattle.std.proofs.Math.Bool.{or-false}
use Rattle.std.specs.BTreeMap.{values}
use Rattle.cedar_expr_leaves.specs.Literals.{literal_of}
use Rattle.cedar_expr_names.specs.Views.{uid_of}
use Rattle.cedar_expr_values.specs.Values.{bare, bare_kind}
use Rattle.cedar_expr_values.specs.Uids.{has_uid, is_that_uid, holds_uid, member_holds_uid, field_holds_uid}
use Rattle.cedar_expr_model.specs.Made as model
use Rattle.cedar_expr_values.specs.Kept.{KeptSet, KeptRecord}
use Rattle.cedar_expr_values.specs.Falls.{set_is, record_is}
use Rattle.cedar_expr_values.proofs.Gathered.{among, members_hold, fields_hold, one_more, one_less, through_all, uid_put}
use Rattle.cedar_expr_values.proofs.value.ValueKind.+gather_uids.Goals as goal

pub loop-value-init : goal.loop-value-init
loop-value-init g t c = λ u. sym (or-false (has_uid c.args.uids.now u))

pub loop-value-preserved : goal.loop-value-preserved
loop-value-preserved g t c = λ u.
    let seen = g.X.ExtensionValue.seen in
    one_more (λ v. holds_uid (bare seen v) u) c.deref-value-items.result.now c.loop-value.value-index c.value-item.result _ (has_uid c.args.uids.now u) (has_uid c.loop-value.uids u)
    (has_uid c.gather_uids.new.uids u) c.loop-value-test.true c.value-item.is (c.loop-value.invariant u)
    (c.in_ok-gather_uids-in-Set.ensures u)

pub loop-value-2-preserved : goal.loop-value-2-preserved
loop-value-2-preserved g t c = λ u.
    let seen = g.X.ExtensionValue.seen in
    one_less (λ v. holds_uid (bare seen v) u) c.in-Some.value.now c.next.new.self c.loop-value-2.value-iterator (has_uid c.loop-value-2.uids u) (has_uid c.gather_uids-in-loop-value-2.new.uids u) _
    c.in-Some.ensures.steps (c.loop-value-2.invariant u)
    (c.in_ok-gather_uids-in-Record.ensures u)

pub returns-in_ok-insert-in-Lit : goal.returns-in_ok-insert-in-Lit
returns-in_ok-insert-in-Lit g t c = λ u.
    let seen = g.X.ExtensionValue.seen in
    uid_put u c.args.uids.now c.insert.new.self c.in_ok-clone-in-Lit.field-0 (uid_of c.in-EntityUID.uid.value) c.in_ok-insert-in-Lit.ensures.keys
    (c.in_ok-clone-in-Lit.ensures.cases.0 ∙ ap uid_of c.as_ref.ensures)
    ∙ ap (λ b. has_uid c.args.uids.now u || b)
    (sym (ap (λ k. holds_uid (bare_kind seen k) u) c.in-Lit.is ∙ ap (λ l. is_that_uid (literal_of l) u) c.in-EntityUID.is))

pub returns-after-loop-value : goal.returns-after-loop-value
returns-after-loop-value g t c = λ u.
    let seen = g.X.ExtensionValue.seen in
    through_all (λ v. holds_uid (bare seen v) u) c.deref-value-items.result.now c.loop-value.value-index (has_uid c.args.uids.now u) (has_uid c.loop-value.uids u) c.loop-value-test.false
    (c.loop-value.invariant u)
    ∙ ap (λ b. has_uid c.args.uids.now u || b)
    (ap (among seen u) (c.deref-value-items.ensures.value ∙ ap (λ m. m.values.items) c.deref.ensures)
    ∙ sym (ap (λ k. holds_uid (bare_kind seen k) u) c.in-Set.is
    ∙ ap (λ ms. member_holds_uid (model.bares ms) u) (sym (ap (λ (k : KeptSet). k.0) c.set.view_is) ∙ set_is seen c.set.inside c.set.invariant.0)
    ∙ members_hold seen u c.set.inside.members.value.values.items))

pub returns-in-None : goal.returns-in-None
returns-in-None g t c = λ u.
    let seen = g.X.ExtensionValue.seen in
    sym (or-false (has_uid c.loop-value-2.uids u))
    ∙ ap (λ vs. has_uid c.loop-value-2.uids u || among seen u vs) (sym c.in-None.ensures.steps.0)
    ∙ c.loop-value-2.invariant u
    ∙ ap (λ b. has_uid c.args.uids.now u || b)
    (ap (among seen u) (c.into_iter-value-iterator.ensures.into_iter_gives ∙ c.values-value-items.ensures.rest ∙ ap values c.deref-in-Record.ensures)
    ∙ sym (ap (λ k. holds_uid (bare_kind seen k) u) c.in-Record.is
    ∙ ap (λ fs. field_holds_uid (model.bare_fields fs) u) (sym (ap (λ (k : KeptRecord). k.0) c.fields.view_is) ∙ record_is seen c.fields.inside c.fields.invariant)
    ∙ fields_hold seen u c.fields.inside.fields.value.entries))
