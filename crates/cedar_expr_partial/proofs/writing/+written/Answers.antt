use Rattle.std.proofs.lemmas.Grind.{common_steps}
use Rattle.std.proofs.Common.{◌≡◌, ◌+◌, ◌*◌, ◌≤◌, map, ap, sym, ◌∙◌, rules, arith}
use Rattle.std.specs.Slice.Iter.{iter_rest}
use Rattle.cedar_expr_model.specs.Builder.{tree_fields}
use Rattle.cedar_expr_model.specs.Made.{written, written_fields}
use Rattle.cedar_expr_model.specs.Tree.{record_literal}
use Rattle.cedar_expr_values.specs.Kept.{mades_size}
use Rattle.cedar_expr_values.specs.Values.{made, made_kind, made_list}
use Rattle.cedar_expr_trees.specs.Trees.{tree_of}
use Rattle.cedar_expr_partial.proofs.Smaller.{size_of, one_is_smaller}
use Rattle.cedar_expr_partial.proofs.Written.{members_end, fields_end, fields_written, tree_other}
use Rattle.cedar_expr_partial.proofs.writing.+written.Goals as goal

pub member_exprs-value_expr-requires : goal.member_exprs-value_expr-requires
member_exprs-value_expr-requires g t c κs within =
    let seen = g.X.ExtensionValue.seen in
    let all = c.iter-member-items.ensures ∙ ap (λ it. made_list (map (made seen) (iter_rest it))) (sym c.into_iter-member-iterator.ensures.into_iter_gives) in
    let e = ap mades_size all in
    let d : 3 * mades_size c.args.members.now.0 + 3 ≡ t = c.decreases in
    let h = c.loop-member.invariant.within in
    let smaller = one_is_smaller seen c.in-Some.member.now _ _ (mades_size c.args.members.now.0) t c.in-Some.ensures.steps (omega arith) d in
    (smaller, within)

pub member_exprs-returns : goal.member_exprs-returns
member_exprs-returns g t c =
    let seen = g.X.ExtensionValue.seen in
    let all = c.iter-member-items.ensures ∙ ap (λ it. made_list (map (made seen) (iter_rest it))) (sym c.into_iter-member-iterator.ensures.into_iter_gives) in
    members_end seen (map tree_of c.loop-member.exprs.items) (iter_rest c.loop-member.member-iterator) _ _ c.in-None.ensures.steps.0 c.loop-member.invariant.made all

pub field_exprs-returns : goal.field_exprs-returns
field_exprs-returns g t c =
    let seen = g.X.ExtensionValue.seen in
    let es = c.args.fields.now.entries in
    fields_end seen es c.loop-name.name-iterator c.loop-name.exprs.items c.field_map.result c.in-None.ensures.steps.0 c.loop-name.invariant.made c.len.ensures.ordered c.field_map.ensures

pub kind_expr-returns-in_ok-fields-in-Record-clause-tree : goal.kind_expr-returns-in_ok-fields-in-Record-clause-tree
kind_expr-returns-in_ok-fields-in-Record-clause-tree g t c =
    let seen = g.X.ExtensionValue.seen in
    tree_other c.record_expr.result _ (written (made_kind seen c.args.kind.now))
    (ap (λ ps. record_literal (tree_fields ps)) c.in_ok-fields-in-Record.ensures
    ∙ sym (ap record_literal (ap written_fields c.as_map.ensures.as_made ∙ fields_written seen c.as_map.result.now.entries))
    ∙ ap (λ k. written (made_kind seen k)) (sym c.in-Record.is))
    c.record_expr.ensures.tree
