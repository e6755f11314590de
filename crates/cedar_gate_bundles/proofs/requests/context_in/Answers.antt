use Rattle.std.proofs.Common.{◌≡◌, None, true, rules, sym, ap, ◌∙◌}
use Rattle.std.specs.Prelude.{option_map}
use Rattle.serde_json.specs.Data.{object}
use Rattle.serde_json.specs.View.{members_view}
use Rattle.cedar_expr_model.specs.Builder.{tree_fields}
use Rattle.cedar_expr_model.specs.Restricted.{is_restricted}
use Rattle.cedar_expr_model.specs.Tree.{record_literal}
use Rattle.cedar_expr_trees.specs.Trees.{tree_of, named, field_trees}
use Rattle.cedar_evaluator_requests.specs.Views.{context_of}
use Rattle.cedar_evaluator_restricted_exprs.specs.Answers.{AgreesWith}
use Rattle.cedar_evaluator_model.specs.Reauthorize.{context_from}
use Rattle.cedar_evaluator_model.specs.Functions.{Functions, left_of_restricted}
use Rattle.cedar_gate_model.specs.ReadingValue.{fields_context_read}
use Rattle.cedar_gate_bundles.proofs.Parted.{stopped_context}
use Rattle.cedar_gate_bundles.proofs.Unread.{context_of_record, handed_on, is_left_of_record}
use Rattle.cedar_gate_bundles.proofs.requests.context_in.Goals as goal

pub returns-in_err-left-clause-unreadable : goal.returns-in_err-left-clause-unreadable
returns-in_err-left-clause-unreadable g c =
    let ms = members_view c.args.members.now.entries in
    let t = tree_of {T = Unit} c.record_arc-record.result in
    let fs = tree_fields (named (field_trees {T = Unit} c.in_ok-fields.fields.entries)) in
    let e : t ≡ record_literal fs = c.record_arc-record.ensures.tree ∙ ap (λ m. record_literal (tree_fields (named (field_trees {T = Unit} m.entries)))) c.in_ok-new.ensures.ok in
    let r : is_restricted t ≡ true = search rules in
    handed_on ((x : Functions) → AgreesWith c.args.table.now x → fields_context_read x (object ms) ≡ None) c.in_err-left.field-0.0 c.from_residual-in_err-left.result c.from_residual-in_err-left.ensures.1
    (λ q x a. context_of_record x ms fs t c.in_ok-fields.ensures.ok e r ∙ stopped_context (left_of_restricted x t) (c.in_err-left.ensures.stopped q x a))

pub returns-in-Some-clause-ok : goal.returns-in-Some-clause-ok
returns-in-Some-clause-ok g c = λ x a.
    let ms = members_view c.args.members.now.entries in
    let t = tree_of {T = Unit} c.record_arc-record.result in
    let fs = tree_fields (named (field_trees {T = Unit} c.in_ok-fields.fields.entries)) in
    let e : t ≡ record_literal fs = c.record_arc-record.ensures.tree ∙ ap (λ m. record_literal (tree_fields (named (field_trees {T = Unit} m.entries)))) c.in_ok-new.ensures.ok in
    let r : is_restricted t ≡ true = search rules in
    context_of_record x ms fs t c.in_ok-fields.ensures.ok e r ∙ ap context_from (c.in_ok-left.ensures.left x a)
    ∙ sym (c.in_ok-context.ensures.context (is_left_of_record x fs t c.in_ok-left.left e r (c.in_ok-left.ensures.left x a))) ∙ ap (option_map context_of) c.in-Some.is

pub returns-clause-unreadable : goal.returns-clause-unreadable
returns-clause-unreadable g c = λ q x a.
    let ms = members_view c.args.members.now.entries in
    let t = tree_of {T = Unit} c.record_arc-record.result in
    let fs = tree_fields (named (field_trees {T = Unit} c.in_ok-fields.fields.entries)) in
    let e : t ≡ record_literal fs = c.record_arc-record.ensures.tree ∙ ap (λ m. record_literal (tree_fields (named (field_trees {T = Unit} m.entries)))) c.in_ok-new.ensures.ok in
    let r : is_restricted t ≡ true = search rules in
    context_of_record x ms fs t c.in_ok-fields.ensures.ok e r ∙ ap context_from (c.in_ok-left.ensures.left x a)
    ∙ sym (c.in_ok-context.ensures.context (is_left_of_record x fs t c.in_ok-left.left e r (c.in_ok-left.ensures.left x a))) ∙ ap (option_map context_of) c.in-None.is
