use Rattle.std.proofs.Common.{map, sym, ap, ◌∙◌, rules, arith}
use Rattle.std.specs.Ordering.{is_ne}
use Rattle.cedar_expr_names.specs.Views.{plain_name_of}
use Rattle.cedar_expr_model.specs.Builder.{trees, tree_fields}
use Rattle.cedar_expr_model.specs.Order.{name_order}
use Rattle.cedar_expr_model.specs.Tree.{call, set_literal, record_literal}
use Rattle.cedar_expr_model.specs.Shape.{tree_cmp, trees_cmp}
use Rattle.cedar_expr_trees.specs.Trees.{tree_of, kind_tree, named, field_trees}
use Rattle.cedar_expr_trees.proofs.Sizes.{arguments_are_smaller}
use Rattle.cedar_expr_trees.proofs.Trees.{call_tree, set_tree, record_tree}
use Rattle.cedar_expr_shapes.proofs.Comparing.{goes_on}
use Rattle.cedar_expr_shapes.proofs.compare.+compare.Goals as goal

pub call_compared-returns : goal.call_compared-returns
call_compared-returns g t c =
    let made = c.in-ExtensionFunctionApp in
    let f = plain_name_of c.args.name.now in
    let ts = trees (map (tree_of {T = g.row.T.Denot}) c.args.args.now) in
    let us = trees (map (tree_of {T = g.row.U.Denot}) c.as_slice.result.now) in
    let is =
    ap (kind_tree {T = g.row.U.Denot}) made.is
    ∙ call_tree {T = g.row.U.Denot} made.other made.other_args
    ∙ ap (λ es. call (plain_name_of made.other) (trees (map (tree_of {T = g.row.U.Denot}) es))) (sym (c.as_slice.ensures.value ∙ ap (λ v. v.items) c.deref.ensures)) in
    c.all_compared.ensures
    ∙ sym (goes_on (name_order f (plain_name_of made.other)) (trees_cmp ts us) (ap is_ne (sym c.by_name-by_function.ensures) ∙ sym c.is_ne.ensures ∙ c.if-is_ne.false))
    ∙ ap (tree_cmp (call f ts)) (sym is)

pub compared-call_compared-requires : goal.compared-call_compared-requires
compared-call_compared-requires g t c κs within =
    let made = c.in-ExtensionFunctionApp in
    let smaller = arguments_are_smaller {T = g.row.T.Denot} c.args.left.now made.fn_name made.args c.as_slice.result.now (sym c.expr_kind.ensures.kind ∙ made.is) (c.as_slice.ensures.value ∙ ap (λ v. v.items) c.deref-in-ExtensionFunctionApp.ensures) in
    (omega (arith, smaller), search rules)

pub compared-returns-in-ExtensionFunctionApp : goal.compared-returns-in-ExtensionFunctionApp
compared-returns-in-ExtensionFunctionApp g t c =
    let made = c.in-ExtensionFunctionApp in
    let is =
    sym c.expr_kind.ensures.tree
    ∙ ap (kind_tree {T = g.row.T.Denot}) made.is
    ∙ call_tree {T = g.row.T.Denot} made.fn_name made.args
    ∙ ap (λ es. call (plain_name_of made.fn_name) (trees (map (tree_of {T = g.row.T.Denot}) es))) (sym (c.as_slice.ensures.value ∙ ap (λ v. v.items) c.deref-in-ExtensionFunctionApp.ensures)) in
    c.call_compared.ensures
    ∙ ap (λ u. tree_cmp u (kind_tree {T = g.row.U.Denot} c.expr_kind-other.result.now)) (sym is)
    ∙ ap (tree_cmp (tree_of {T = g.row.T.Denot} c.args.left.now)) c.expr_kind-other.ensures.tree

pub compared-returns-in-Set : goal.compared-returns-in-Set
compared-returns-in-Set g t c =
    let made = c.in-Set in
    let is =
    sym c.expr_kind.ensures.tree
    ∙ ap (kind_tree {T = g.row.T.Denot}) made.is
    ∙ set_tree {T = g.row.T.Denot} made.members
    ∙ ap (λ es. set_literal (trees (map (tree_of {T = g.row.T.Denot}) es))) (sym (c.as_slice-in-Set.ensures.value ∙ ap (λ v. v.items) c.deref-in-Set.ensures)) in
    c.set_compared.ensures
    ∙ ap (λ u. tree_cmp u (kind_tree {T = g.row.U.Denot} c.expr_kind-other.result.now)) (sym is)
    ∙ ap (tree_cmp (tree_of {T = g.row.T.Denot} c.args.left.now)) c.expr_kind-other.ensures.tree

pub compared-returns-in-Record : goal.compared-returns-in-Record
compared-returns-in-Record g t c =
    let made = c.in-Record in
    let is =
    sym c.expr_kind.ensures.tree
    ∙ ap (kind_tree {T = g.row.T.Denot}) made.is
    ∙ record_tree {T = g.row.T.Denot} made.fields
    ∙ ap (λ m. record_literal (tree_fields (named (field_trees {T = g.row.T.Denot} m.entries)))) (sym c.deref-in-Record.ensures) in
    c.record_compared.ensures
    ∙ ap (λ u. tree_cmp u (kind_tree {T = g.row.U.Denot} c.expr_kind-other.result.now)) (sym is)
    ∙ ap (tree_cmp (tree_of {T = g.row.T.Denot} c.args.left.now)) c.expr_kind-other.ensures.tree

pub record_compared-returns : goal.record_compared-returns
record_compared-returns g t c =
    let made = c.in-Record in
    let is =
    ap (kind_tree {T = g.row.U.Denot}) made.is
    ∙ record_tree {T = g.row.U.Denot} made.others
    ∙ ap (λ m. record_literal (tree_fields (named (field_trees {T = g.row.U.Denot} m.entries)))) (sym c.deref.ensures) in
    c.fields_compared.ensures ∙ ap (tree_cmp (record_literal (tree_fields (named (field_trees {T = g.row.T.Denot} c.args.fields.now.entries))))) (sym is)

pub set_compared-returns : goal.set_compared-returns
set_compared-returns g t c =
    let made = c.in-Set in
    let is =
    ap (kind_tree {T = g.row.U.Denot}) made.is
    ∙ set_tree {T = g.row.U.Denot} made.others
    ∙ ap (λ es. set_literal (trees (map (tree_of {T = g.row.U.Denot}) es))) (sym (c.as_slice.ensures.value ∙ ap (λ v. v.items) c.deref.ensures)) in
    c.all_compared.ensures ∙ ap (tree_cmp (set_literal (trees (map (tree_of {T = g.row.T.Denot}) c.args.members.now)))) (sym is)
