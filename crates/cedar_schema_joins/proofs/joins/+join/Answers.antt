use Rattle.std.proofs.lemmas.Grind.{common_steps}
use Rattle.std.proofs.Common.{sym, ap, ◌∙◌, arith}
use Rattle.cedar_expr_model.proofs.Ordering.{in_order_stays}
use Rattle.cedar_schema_model.specs.Types.{record_type}
use Rattle.cedar_schema_model.specs.Join.{join, attributes_join, record_join}
use Rattle.cedar_schema_types.specs.Kinds.{openness_of}
use Rattle.cedar_schema_types.specs.Types.{type_of, attributes_of, entries_of}
use Rattle.cedar_schema_types.specs.AttributeLists.{attributes_from, declared_pairs}
use Rattle.cedar_schema_types.proofs.Entries.{attributes_are}
use Rattle.cedar_schema_joins.proofs.Joined.{of_entries, joined_are, all_taken, taken_rise}
use Rattle.cedar_schema_joins.specs.Modes.{mode_of}
use Rattle.cedar_schema_joins.proofs.joins.+join.Goals as goal

pub join_attributes-returns-clause-joined : goal.join_attributes-returns-clause-joined
join_attributes-returns-clause-joined t c =
    let m = mode_of c.args.mode in
    let others = attributes_of c.args.others.now in
    let es = entries_of c.args.attrs.now in
    ap attributes_from (all_taken m others c.loop-name.joined.items c.loop-name.name-iterator (of_entries m others es) c.loop-name.invariant c.in-None.ensures.steps.0)
    ∙ sym (joined_are m others (declared_pairs es))
    ∙ ap (λ as_. attributes_join m as_ others) (sym (attributes_are c.args.attrs.now))

pub join_attributes-returns-clause-rising : goal.join_attributes-returns-clause-rising
join_attributes-returns-clause-rising t c =
    let m = mode_of c.args.mode in
    let others = attributes_of c.args.others.now in
    taken_rise m others c.loop-name.joined.items c.deref.result.now.entries
    (all_taken m others c.loop-name.joined.items c.loop-name.name-iterator (of_entries m others (entries_of c.args.attrs.now)) c.loop-name.invariant c.in-None.ensures.steps.0
    ∙ ap (λ d. of_entries m others d.entries) (sym c.deref.ensures))
    c.iter-name-items.ensures.ordered

pub join_record-returns-in_ok-joined-in-Record-2 : goal.join_record-returns-in_ok-joined-in-Record-2
join_record-returns-in_ok-joined-in-Record-2 t c =
    let m = mode_of c.args.mode in
    let whole = c.in-Record in
    let is = c.in_ok-joined-in-Record-2.ensures ∙ ap attributes_from (in_order_stays _ c.in_ok-joined-in-Record.ensures.rising) ∙ c.in_ok-joined-in-Record.ensures.joined in
    c.record_joined.ensures
    ∙ ap (record_join m (attributes_of c.args.attrs.now) (openness_of c.args.open_attributes) _ _) is
    ∙ ap (λ t. join m (record_type (attributes_of c.args.attrs.now) (openness_of c.args.open_attributes)) (type_of t)) (sym whole.is)

pub join_attributes-loop-name-preserved-in_ok-push : goal.join_attributes-loop-name-preserved-in_ok-push
join_attributes-loop-name-preserved-in_ok-push t c = grind (arith, common_steps)
