use Rattle.std.proofs.lemmas.Grind.{common_steps}
use Rattle.std.proofs.Common.{map, ap, sym, ◌∙◌, rules, Some, arith}
use Rattle.cedar_expr_model.specs.Builder.{trees, tree_fields}
use Rattle.cedar_expr_model.specs.Lists.{all_given}
use Rattle.cedar_expr_model.specs.Tree.{set_literal, record_literal}
use Rattle.cedar_expr_model.specs.ValueParts.{value_of_tree}
use Rattle.cedar_expr_values.specs.Values.{bare, bare_pair}
use Rattle.cedar_expr_trees.specs.Trees.{tree_of, kind_tree, named, field_trees}
use Rattle.cedar_expr_trees.proofs.Trees.{set_tree, record_tree}
use Rattle.cedar_expr_partial.specs.Parts.{value_shown, field_shown}
use Rattle.cedar_expr_partial.proofs.Shown.{set_shown, set_not_shown, record_shown, record_not_shown, still_none, goes_wrong, member_step, field_step, names_step, names_end}
use Rattle.cedar_expr_partial.proofs.reading.+valued.Goals as goal

pub expr_kind-returns-in_err-members-in-Set-clause-refused : goal.expr_kind-returns-in_err-members-in-Set-clause-refused
expr_kind-returns-in_err-members-in-Set-clause-refused g t c =
    let es = c.as_slice.result.now in
    let is =
    sym c.expr_kind.ensures.tree
    ∙ ap (kind_tree {T = g.row.T.Denot}) c.in-Set.is
    ∙ set_tree {T = g.row.T.Denot} c.in-Set.members
    ∙ ap (λ ms. set_literal (trees (map (tree_of {T = g.row.T.Denot}) ms))) (sym (c.as_slice.ensures.value ∙ ap (λ v. v.items) c.deref.ensures)) in
    still_none (all_given (value_shown {T = g.row.T.Denot}) es) (value_of_tree (tree_of c.args.expr.now)) c.from_residual-in_err-members-in-Set.result c.in_err-members-in-Set.field-0.0 c.from_residual-in_err-members-in-Set.ensures.1 c.in_err-members-in-Set.ensures.refused
    (λ n. ap value_of_tree is ∙ set_not_shown es n)

pub expr_kind-returns-in_err-fields-in-Record-clause-refused : goal.expr_kind-returns-in_err-fields-in-Record-clause-refused
expr_kind-returns-in_err-fields-in-Record-clause-refused g t c =
    let es = c.deref-in-Record.result.now.entries in
    let is =
    sym c.expr_kind.ensures.tree
    ∙ ap (kind_tree {T = g.row.T.Denot}) c.in-Record.is
    ∙ record_tree {T = g.row.T.Denot} c.in-Record.fields
    ∙ ap (λ m. record_literal (tree_fields (named (field_trees {T = g.row.T.Denot} m.entries)))) (sym c.deref-in-Record.ensures) in
    still_none (all_given (field_shown {T = g.row.T.Denot}) es) (value_of_tree (tree_of c.args.expr.now)) c.from_residual-in_err-fields-in-Record.result c.in_err-fields-in-Record.field-0.0 c.from_residual-in_err-fields-in-Record.ensures.1 c.in_err-fields-in-Record.ensures.refused
    (λ n. ap value_of_tree is ∙ record_not_shown es n)

pub expr_kind-returns-in_ok-set-in-Set-clause-value : goal.expr_kind-returns-in_ok-set-in-Set-clause-value
expr_kind-returns-in_ok-set-in-Set-clause-value g t c =
    let is =
    sym c.expr_kind.ensures.tree
    ∙ ap (kind_tree {T = g.row.T.Denot}) c.in-Set.is
    ∙ set_tree {T = g.row.T.Denot} c.in-Set.members
    ∙ ap (λ ms. set_literal (trees (map (tree_of {T = g.row.T.Denot}) ms))) (sym (c.as_slice.ensures.value ∙ ap (λ v. v.items) c.deref.ensures)) in
    ap value_of_tree is
    ∙ set_shown c.as_slice.result.now (map (bare g.X.ExtensionValue.seen) c.in_ok-members-in-Set.members.items) c.in_ok-members-in-Set.ensures.value
    ∙ ap Some (sym c.in_ok-set-in-Set.ensures.members)

pub expr_kind-returns-in_ok-record-in-Record-clause-value : goal.expr_kind-returns-in_ok-record-in-Record-clause-value
expr_kind-returns-in_ok-record-in-Record-clause-value g t c =
    let is =
    sym c.expr_kind.ensures.tree
    ∙ ap (kind_tree {T = g.row.T.Denot}) c.in-Record.is
    ∙ record_tree {T = g.row.T.Denot} c.in-Record.fields
    ∙ ap (λ m. record_literal (tree_fields (named (field_trees {T = g.row.T.Denot} m.entries)))) (sym c.deref-in-Record.ensures) in
    ap value_of_tree is
    ∙ record_shown c.deref-in-Record.result.now.entries (map (bare_pair g.X.ExtensionValue.seen) c.in_ok-fields-in-Record.fields.items) c.in_ok-fields-in-Record.ensures.rising c.in_ok-fields-in-Record.ensures.value
    ∙ ap Some (sym c.in_ok-record-in-Record.ensures.fields)

pub field_values-loop-name-preserved : goal.field_values-loop-name-preserved
field_values-loop-name-preserved g t c =
    let seen = g.X.ExtensionValue.seen in
    let was = c.loop-name.invariant in
    let all = c.args.fields.now.entries in
    let rest = c.loop-name.name-iterator in
    let later = c.next.new.self in
    let done = c.loop-name.values.items in
    let more = c.push.new.self.items in
    record {
      read = field_step {T = g.row.T.Denot} seen all rest later done more c.in-Some.name.now c.in_ok-clone.field-0 c.in-Some.e.now c.in_ok-expr_value.field-0 was.read c.in-Some.ensures.steps c.in_ok-push.ensures.items (search rules) c.in_ok-expr_value.ensures.value;
      names = names_step {T = g.row.T.Denot} seen all rest later done more c.in-Some.name.now c.in_ok-clone.field-0 c.in-Some.e.now c.in_ok-expr_value.field-0 was.names c.in-Some.ensures.steps c.in_ok-push.ensures.items (search rules);
    }

pub field_values-returns-clause-rising : goal.field_values-returns-clause-rising
field_values-returns-clause-rising g t c = names_end {T = g.row.T.Denot} g.X.ExtensionValue.seen c.args.fields.now.entries c.loop-name.name-iterator c.loop-name.values.items c.loop-name.invariant.names c.in-None.ensures.steps.0 c.len.ensures.ordered

pub member_values-returns-in_err-expr_value-clause-refused : goal.member_values-returns-in_err-expr_value-clause-refused
member_values-returns-in_err-expr_value-clause-refused g t c =
    still_none (value_shown c.e-item.result) (all_given (value_shown {T = g.row.T.Denot}) c.args.members.now) c.from_residual-in_err-expr_value.result c.in_err-expr_value.field-0.0 c.from_residual-in_err-expr_value.ensures.1 c.in_err-expr_value.ensures.refused
    (λ n. goes_wrong (value_shown {T = g.row.T.Denot}) c.args.members.now c.loop-e.e-index c.e-item.result _ c.loop-e-test.true c.e-item.is n)

pub member_values-loop-e-preserved : goal.member_values-loop-e-preserved
member_values-loop-e-preserved g t c =
    let seen = g.X.ExtensionValue.seen in
    let was = c.loop-e.invariant in
    let done = c.loop-e.values.items in
    let more = c.push.new.self.items in
    member_step {T = g.row.T.Denot} seen c.args.members.now c.loop-e.e-index c.e-item.result _ done more c.in_ok-expr_value.field-0 c.loop-e-test.true c.e-item.is was c.in_ok-expr_value.ensures.value c.in_ok-push.ensures.items

pub member_values-returns-clause-value : goal.member_values-returns-clause-value
member_values-returns-clause-value g t c = grind (arith, common_steps)
