use Rattle.std.proofs.Common.{map, sym, ap, ◌∙◌}
use Rattle.std.specs.Rc.{rc_str_bytes}
use Rattle.cedar_expr_names.specs.Views.{plain_name_of, type_name_of}
use Rattle.cedar_expr_leaves.specs.Operators.{unary_op_of, binary_op_of}
use Rattle.cedar_expr_leaves.specs.Patterns.{pattern_of}
use Rattle.cedar_expr_model.specs.Builder.{built, built_list, built_fields, trees, tree_fields}
use Rattle.cedar_expr_model.specs.Tree.{choice, both, either, unary, binary, call, get_attr, has_attr, has_path, like, is_type, set_literal, record_literal}
use Rattle.cedar_expr_trees.specs.Trees.{tree_of, kind_tree, named, field_trees}
use Rattle.cedar_expr_trees.proofs.Trees.{call_tree, set_tree, record_tree}
use Rattle.cedar_expr_builders.specs.Refusing.{all_made, fields_made}
use Rattle.cedar_expr_substitution.specs.Outcome.{placing}
use Rattle.cedar_expr_substitution.specs.Steps.{two_made, three_made, of_two, of_three}
use Rattle.cedar_expr_substitution.proofs.Recorded.{made_rises, field_goes_on, field_goes_wrong, fields_end, row_steps, row_wrong}
use Rattle.cedar_expr_substitution.proofs.Stepping.{made_is, told_is, passes, by_two, by_three, two_on, two_wrong, three_on, three_wrong}
use Rattle.cedar_expr_substitution.proofs.build.+build.Goals as goal

pub build_with-returns-in-Lit-clause-made : goal.build_with-returns-in-Lit-clause-made
build_with-returns-in-Lit-clause-made g t c =
    let b = placing g.B.ExprBuilder.steps g.B.ExprBuilder.refuses (g.U.BuildUnknown.placed c.args.unknowns.now) in
    let whole = c.in-Lit in
    let is =
    sym c.expr_kind.ensures.tree
    ∙ ap (kind_tree {T = g.row.T.Denot}) whole.is in
    made_is g.B.ExprBuilder.means _ (built b (tree_of {T = g.row.T.Denot} c.args.e.now)) c.literal.result (ap (built b) (sym is)) c.literal.ensures.made

pub build_with-returns-in-Lit-clause-refused : goal.build_with-returns-in-Lit-clause-refused
build_with-returns-in-Lit-clause-refused g t c =
    let b = placing g.B.ExprBuilder.steps g.B.ExprBuilder.refuses (g.U.BuildUnknown.placed c.args.unknowns.now) in
    let whole = c.in-Lit in
    let is =
    sym c.expr_kind.ensures.tree
    ∙ ap (kind_tree {T = g.row.T.Denot}) whole.is in
    told_is g.B.ExprBuilder.says _ (built b (tree_of {T = g.row.T.Denot} c.args.e.now)) c.literal.result (ap (built b) (sym is)) c.literal.ensures.refused

pub build_with-returns-in-Var-clause-made : goal.build_with-returns-in-Var-clause-made
build_with-returns-in-Var-clause-made g t c =
    let b = placing g.B.ExprBuilder.steps g.B.ExprBuilder.refuses (g.U.BuildUnknown.placed c.args.unknowns.now) in
    let whole = c.in-Var in
    let is =
    sym c.expr_kind.ensures.tree
    ∙ ap (kind_tree {T = g.row.T.Denot}) whole.is in
    made_is g.B.ExprBuilder.means _ (built b (tree_of {T = g.row.T.Denot} c.args.e.now)) c.variable.result (ap (built b) (sym is)) c.variable.ensures.made

pub build_with-returns-in-Var-clause-refused : goal.build_with-returns-in-Var-clause-refused
build_with-returns-in-Var-clause-refused g t c =
    let b = placing g.B.ExprBuilder.steps g.B.ExprBuilder.refuses (g.U.BuildUnknown.placed c.args.unknowns.now) in
    let whole = c.in-Var in
    let is =
    sym c.expr_kind.ensures.tree
    ∙ ap (kind_tree {T = g.row.T.Denot}) whole.is in
    told_is g.B.ExprBuilder.says _ (built b (tree_of {T = g.row.T.Denot} c.args.e.now)) c.variable.result (ap (built b) (sym is)) c.variable.ensures.refused

pub build_with-returns-in-Slot-clause-made : goal.build_with-returns-in-Slot-clause-made
build_with-returns-in-Slot-clause-made g t c =
    let b = placing g.B.ExprBuilder.steps g.B.ExprBuilder.refuses (g.U.BuildUnknown.placed c.args.unknowns.now) in
    let whole = c.in-Slot in
    let is =
    sym c.expr_kind.ensures.tree
    ∙ ap (kind_tree {T = g.row.T.Denot}) whole.is in
    made_is g.B.ExprBuilder.means _ (built b (tree_of {T = g.row.T.Denot} c.args.e.now)) c.slot.result (ap (built b) (sym is)) c.slot.ensures.made

pub build_with-returns-in-Slot-clause-refused : goal.build_with-returns-in-Slot-clause-refused
build_with-returns-in-Slot-clause-refused g t c =
    let b = placing g.B.ExprBuilder.steps g.B.ExprBuilder.refuses (g.U.BuildUnknown.placed c.args.unknowns.now) in
    let whole = c.in-Slot in
    let is =
    sym c.expr_kind.ensures.tree
    ∙ ap (kind_tree {T = g.row.T.Denot}) whole.is in
    told_is g.B.ExprBuilder.says _ (built b (tree_of {T = g.row.T.Denot} c.args.e.now)) c.slot.result (ap (built b) (sym is)) c.slot.ensures.refused

pub build_with-returns-in-Unknown-clause-made : goal.build_with-returns-in-Unknown-clause-made
build_with-returns-in-Unknown-clause-made g t c =
    let b = placing g.B.ExprBuilder.steps g.B.ExprBuilder.refuses (g.U.BuildUnknown.placed c.args.unknowns.now) in
    let whole = c.in-Unknown in
    let is =
    sym c.expr_kind.ensures.tree
    ∙ ap (kind_tree {T = g.row.T.Denot}) whole.is in
    made_is g.B.ExprBuilder.means _ (built b (tree_of {T = g.row.T.Denot} c.args.e.now)) c.unknown.result (ap (built b) (sym is)) c.unknown.ensures.made

pub build_with-returns-in-Unknown-clause-refused : goal.build_with-returns-in-Unknown-clause-refused
build_with-returns-in-Unknown-clause-refused g t c =
    let b = placing g.B.ExprBuilder.steps g.B.ExprBuilder.refuses (g.U.BuildUnknown.placed c.args.unknowns.now) in
    let whole = c.in-Unknown in
    let is =
    sym c.expr_kind.ensures.tree
    ∙ ap (kind_tree {T = g.row.T.Denot}) whole.is in
    told_is g.B.ExprBuilder.says _ (built b (tree_of {T = g.row.T.Denot} c.args.e.now)) c.unknown.result (ap (built b) (sym is)) c.unknown.ensures.refused

pub build_with-returns-in-If-clause-made : goal.build_with-returns-in-If-clause-made
build_with-returns-in-If-clause-made g t c =
    let b = placing g.B.ExprBuilder.steps g.B.ExprBuilder.refuses (g.U.BuildUnknown.placed c.args.unknowns.now) in
    let whole = c.in-If in
    let is =
    sym c.expr_kind.ensures.tree
    ∙ ap (kind_tree {T = g.row.T.Denot}) whole.is
    ∙ (λ i. choice (tree_of {T = g.row.T.Denot} (sym c.deref.ensures i)) (tree_of {T = g.row.T.Denot} (sym c.deref-in-If.ensures i)) (tree_of {T = g.row.T.Denot} (sym c.deref-in-If-2.ensures i))) in
    made_is g.B.ExprBuilder.means _ (built b (tree_of {T = g.row.T.Denot} c.args.e.now)) c.choice.result (by_three g.B.ExprBuilder.steps.of_choice (built b (tree_of {T = g.row.T.Denot} c.deref.result.now)) (built b (tree_of {T = g.row.T.Denot} c.deref-in-If.result.now)) (built b (tree_of {T = g.row.T.Denot} c.deref-in-If-2.result.now)) ∙ ap (built b) (sym is)) (c.choice.ensures.made _ c.build_three-parts.ensures.made)

pub build_with-returns-in-If-clause-refused : goal.build_with-returns-in-If-clause-refused
build_with-returns-in-If-clause-refused g t c =
    let b = placing g.B.ExprBuilder.steps g.B.ExprBuilder.refuses (g.U.BuildUnknown.placed c.args.unknowns.now) in
    let whole = c.in-If in
    let is =
    sym c.expr_kind.ensures.tree
    ∙ ap (kind_tree {T = g.row.T.Denot}) whole.is
    ∙ (λ i. choice (tree_of {T = g.row.T.Denot} (sym c.deref.ensures i)) (tree_of {T = g.row.T.Denot} (sym c.deref-in-If.ensures i)) (tree_of {T = g.row.T.Denot} (sym c.deref-in-If-2.ensures i))) in
    told_is g.B.ExprBuilder.says _ (built b (tree_of {T = g.row.T.Denot} c.args.e.now)) c.choice.result (by_three g.B.ExprBuilder.steps.of_choice (built b (tree_of {T = g.row.T.Denot} c.deref.result.now)) (built b (tree_of {T = g.row.T.Denot} c.deref-in-If.result.now)) (built b (tree_of {T = g.row.T.Denot} c.deref-in-If-2.result.now)) ∙ ap (built b) (sym is)) (c.choice.ensures.refused _ c.build_three-parts.ensures.made c.build_three-parts.ensures.refused)

pub build_with-returns-in-And-clause-made : goal.build_with-returns-in-And-clause-made
build_with-returns-in-And-clause-made g t c =
    let b = placing g.B.ExprBuilder.steps g.B.ExprBuilder.refuses (g.U.BuildUnknown.placed c.args.unknowns.now) in
    let whole = c.in-And in
    let is =
    sym c.expr_kind.ensures.tree
    ∙ ap (kind_tree {T = g.row.T.Denot}) whole.is
    ∙ (λ i. both (tree_of {T = g.row.T.Denot} (sym c.deref-in-And.ensures i)) (tree_of {T = g.row.T.Denot} (sym c.deref-in-And-2.ensures i))) in
    made_is g.B.ExprBuilder.means _ (built b (tree_of {T = g.row.T.Denot} c.args.e.now)) c.both.result (by_two g.B.ExprBuilder.steps.of_both (built b (tree_of {T = g.row.T.Denot} c.deref-in-And.result.now)) (built b (tree_of {T = g.row.T.Denot} c.deref-in-And-2.result.now)) ∙ ap (built b) (sym is)) (c.both.ensures.made _ c.build_two.ensures.made)

pub build_with-returns-in-And-clause-refused : goal.build_with-returns-in-And-clause-refused
build_with-returns-in-And-clause-refused g t c =
    let b = placing g.B.ExprBuilder.steps g.B.ExprBuilder.refuses (g.U.BuildUnknown.placed c.args.unknowns.now) in
    let whole = c.in-And in
    let is =
    sym c.expr_kind.ensures.tree
    ∙ ap (kind_tree {T = g.row.T.Denot}) whole.is
    ∙ (λ i. both (tree_of {T = g.row.T.Denot} (sym c.deref-in-And.ensures i)) (tree_of {T = g.row.T.Denot} (sym c.deref-in-And-2.ensures i))) in
    told_is g.B.ExprBuilder.says _ (built b (tree_of {T = g.row.T.Denot} c.args.e.now)) c.both.result (by_two g.B.ExprBuilder.steps.of_both (built b (tree_of {T = g.row.T.Denot} c.deref-in-And.result.now)) (built b (tree_of {T = g.row.T.Denot} c.deref-in-And-2.result.now)) ∙ ap (built b) (sym is)) (c.both.ensures.refused _ c.build_two.ensures.made c.build_two.ensures.refused)

pub build_with-returns-in-Or-clause-made : goal.build_with-returns-in-Or-clause-made
build_with-returns-in-Or-clause-made g t c =
    let b = placing g.B.ExprBuilder.steps g.B.ExprBuilder.refuses (g.U.BuildUnknown.placed c.args.unknowns.now) in
    let whole = c.in-Or in
    let is =
    sym c.expr_kind.ensures.tree
    ∙ ap (kind_tree {T = g.row.T.Denot}) whole.is
    ∙ (λ i. either (tree_of {T = g.row.T.Denot} (sym c.deref-in-Or.ensures i)) (tree_of {T = g.row.T.Denot} (sym c.deref-in-Or-2.ensures i))) in
    made_is g.B.ExprBuilder.means _ (built b (tree_of {T = g.row.T.Denot} c.args.e.now)) c.either.result (by_two g.B.ExprBuilder.steps.of_either (built b (tree_of {T = g.row.T.Denot} c.deref-in-Or.result.now)) (built b (tree_of {T = g.row.T.Denot} c.deref-in-Or-2.result.now)) ∙ ap (built b) (sym is)) (c.either.ensures.made _ c.build_two-in-Or.ensures.made)

pub build_with-returns-in-Or-clause-refused : goal.build_with-returns-in-Or-clause-refused
build_with-returns-in-Or-clause-refused g t c =
    let b = placing g.B.ExprBuilder.steps g.B.ExprBuilder.refuses (g.U.BuildUnknown.placed c.args.unknowns.now) in
    let whole = c.in-Or in
    let is =
    sym c.expr_kind.ensures.tree
    ∙ ap (kind_tree {T = g.row.T.Denot}) whole.is
    ∙ (λ i. either (tree_of {T = g.row.T.Denot} (sym c.deref-in-Or.ensures i)) (tree_of {T = g.row.T.Denot} (sym c.deref-in-Or-2.ensures i))) in
    told_is g.B.ExprBuilder.says _ (built b (tree_of {T = g.row.T.Denot} c.args.e.now)) c.either.result (by_two g.B.ExprBuilder.steps.of_either (built b (tree_of {T = g.row.T.Denot} c.deref-in-Or.result.now)) (built b (tree_of {T = g.row.T.Denot} c.deref-in-Or-2.result.now)) ∙ ap (built b) (sym is)) (c.either.ensures.refused _ c.build_two-in-Or.ensures.made c.build_two-in-Or.ensures.refused)

pub build_with-returns-in-UnaryApp-clause-made : goal.build_with-returns-in-UnaryApp-clause-made
build_with-returns-in-UnaryApp-clause-made g t c =
    let b = placing g.B.ExprBuilder.steps g.B.ExprBuilder.refuses (g.U.BuildUnknown.placed c.args.unknowns.now) in
    let whole = c.in-UnaryApp in
    let is =
    sym c.expr_kind.ensures.tree
    ∙ ap (kind_tree {T = g.row.T.Denot}) whole.is
    ∙ (λ i. unary (unary_op_of whole.op) (tree_of {T = g.row.T.Denot} (sym c.deref-in-UnaryApp.ensures i))) in
    made_is g.B.ExprBuilder.means _ (built b (tree_of {T = g.row.T.Denot} c.args.e.now)) c.unary.result (ap (built b) (sym is)) (c.unary.ensures.made _ c.build_with.ensures.made)

pub build_with-returns-in-UnaryApp-clause-refused : goal.build_with-returns-in-UnaryApp-clause-refused
build_with-returns-in-UnaryApp-clause-refused g t c =
    let b = placing g.B.ExprBuilder.steps g.B.ExprBuilder.refuses (g.U.BuildUnknown.placed c.args.unknowns.now) in
    let whole = c.in-UnaryApp in
    let is =
    sym c.expr_kind.ensures.tree
    ∙ ap (kind_tree {T = g.row.T.Denot}) whole.is
    ∙ (λ i. unary (unary_op_of whole.op) (tree_of {T = g.row.T.Denot} (sym c.deref-in-UnaryApp.ensures i))) in
    told_is g.B.ExprBuilder.says _ (built b (tree_of {T = g.row.T.Denot} c.args.e.now)) c.unary.result (ap (built b) (sym is)) (c.unary.ensures.refused _ c.build_with.ensures.made c.build_with.ensures.refused)

pub build_with-returns-in-BinaryApp-clause-made : goal.build_with-returns-in-BinaryApp-clause-made
build_with-returns-in-BinaryApp-clause-made g t c =
    let b = placing g.B.ExprBuilder.steps g.B.ExprBuilder.refuses (g.U.BuildUnknown.placed c.args.unknowns.now) in
    let whole = c.in-BinaryApp in
    let is =
    sym c.expr_kind.ensures.tree
    ∙ ap (kind_tree {T = g.row.T.Denot}) whole.is
    ∙ (λ i. binary (binary_op_of whole.op) (tree_of {T = g.row.T.Denot} (sym c.deref-in-BinaryApp.ensures i)) (tree_of {T = g.row.T.Denot} (sym c.deref-in-BinaryApp-2.ensures i))) in
    made_is g.B.ExprBuilder.means _ (built b (tree_of {T = g.row.T.Denot} c.args.e.now)) c.binary.result (by_two (g.B.ExprBuilder.steps.of_binary (binary_op_of whole.op)) (built b (tree_of {T = g.row.T.Denot} c.deref-in-BinaryApp.result.now)) (built b (tree_of {T = g.row.T.Denot} c.deref-in-BinaryApp-2.result.now)) ∙ ap (built b) (sym is)) (c.binary.ensures.made _ c.build_two-parts.ensures.made)

pub build_with-returns-in-BinaryApp-clause-refused : goal.build_with-returns-in-BinaryApp-clause-refused
build_with-returns-in-BinaryApp-clause-refused g t c =
    let b = placing g.B.ExprBuilder.steps g.B.ExprBuilder.refuses (g.U.BuildUnknown.placed c.args.unknowns.now) in
    let whole = c.in-BinaryApp in
    let is =
    sym c.expr_kind.ensures.tree
    ∙ ap (kind_tree {T = g.row.T.Denot}) whole.is
    ∙ (λ i. binary (binary_op_of whole.op) (tree_of {T = g.row.T.Denot} (sym c.deref-in-BinaryApp.ensures i)) (tree_of {T = g.row.T.Denot} (sym c.deref-in-BinaryApp-2.ensures i))) in
    told_is g.B.ExprBuilder.says _ (built b (tree_of {T = g.row.T.Denot} c.args.e.now)) c.binary.result (by_two (g.B.ExprBuilder.steps.of_binary (binary_op_of whole.op)) (built b (tree_of {T = g.row.T.Denot} c.deref-in-BinaryApp.result.now)) (built b (tree_of {T = g.row.T.Denot} c.deref-in-BinaryApp-2.result.now)) ∙ ap (built b) (sym is)) (c.binary.ensures.refused _ c.build_two-parts.ensures.made c.build_two-parts.ensures.refused)

pub build_with-returns-in-ExtensionFunctionApp-clause-made : goal.build_with-returns-in-ExtensionFunctionApp-clause-made
build_with-returns-in-ExtensionFunctionApp-clause-made g t c =
    let b = placing g.B.ExprBuilder.steps g.B.ExprBuilder.refuses (g.U.BuildUnknown.placed c.args.unknowns.now) in
    let whole = c.in-ExtensionFunctionApp in
    let is =
    sym c.expr_kind.ensures.tree
    ∙ ap (kind_tree {T = g.row.T.Denot}) whole.is
    ∙ call_tree {T = g.row.T.Denot} whole.fn_name whole.args
    ∙ ap (λ es. call (plain_name_of whole.fn_name) (trees (map (tree_of {T = g.row.T.Denot}) es))) (sym c.members_of.ensures) in
    made_is g.B.ExprBuilder.means _ (built b (tree_of {T = g.row.T.Denot} c.args.e.now)) c.call.result (ap (built b) (sym is)) (c.call.ensures.made _ c.build_all-args.ensures.made)

pub build_with-returns-in-ExtensionFunctionApp-clause-refused : goal.build_with-returns-in-ExtensionFunctionApp-clause-refused
build_with-returns-in-ExtensionFunctionApp-clause-refused g t c =
    let b = placing g.B.ExprBuilder.steps g.B.ExprBuilder.refuses (g.U.BuildUnknown.placed c.args.unknowns.now) in
    let whole = c.in-ExtensionFunctionApp in
    let is =
    sym c.expr_kind.ensures.tree
    ∙ ap (kind_tree {T = g.row.T.Denot}) whole.is
    ∙ call_tree {T = g.row.T.Denot} whole.fn_name whole.args
    ∙ ap (λ es. call (plain_name_of whole.fn_name) (trees (map (tree_of {T = g.row.T.Denot}) es))) (sym c.members_of.ensures) in
    told_is g.B.ExprBuilder.says _ (built b (tree_of {T = g.row.T.Denot} c.args.e.now)) c.call.result (ap (built b) (sym is)) (c.call.ensures.refused _ c.build_all-args.ensures.made c.build_all-args.ensures.refused)

pub build_with-returns-in-GetAttr-clause-made : goal.build_with-returns-in-GetAttr-clause-made
build_with-returns-in-GetAttr-clause-made g t c =
    let b = placing g.B.ExprBuilder.steps g.B.ExprBuilder.refuses (g.U.BuildUnknown.placed c.args.unknowns.now) in
    let whole = c.in-GetAttr in
    let is =
    sym c.expr_kind.ensures.tree
    ∙ ap (kind_tree {T = g.row.T.Denot}) whole.is
    ∙ (λ i. get_attr (tree_of {T = g.row.T.Denot} (sym c.deref-in-GetAttr.ensures i)) (rc_str_bytes whole.attr)) in
    made_is g.B.ExprBuilder.means _ (built b (tree_of {T = g.row.T.Denot} c.args.e.now)) c.attribute.result (ap (built b) (sym is)) (c.attribute.ensures.made _ c.build_with-in-GetAttr.ensures.made)

pub build_with-returns-in-GetAttr-clause-refused : goal.build_with-returns-in-GetAttr-clause-refused
build_with-returns-in-GetAttr-clause-refused g t c =
    let b = placing g.B.ExprBuilder.steps g.B.ExprBuilder.refuses (g.U.BuildUnknown.placed c.args.unknowns.now) in
    let whole = c.in-GetAttr in
    let is =
    sym c.expr_kind.ensures.tree
    ∙ ap (kind_tree {T = g.row.T.Denot}) whole.is
    ∙ (λ i. get_attr (tree_of {T = g.row.T.Denot} (sym c.deref-in-GetAttr.ensures i)) (rc_str_bytes whole.attr)) in
    told_is g.B.ExprBuilder.says _ (built b (tree_of {T = g.row.T.Denot} c.args.e.now)) c.attribute.result (ap (built b) (sym is)) (c.attribute.ensures.refused _ c.build_with-in-GetAttr.ensures.made c.build_with-in-GetAttr.ensures.refused)

pub build_with-returns-in-HasAttr-clause-made : goal.build_with-returns-in-HasAttr-clause-made
build_with-returns-in-HasAttr-clause-made g t c =
    let b = placing g.B.ExprBuilder.steps g.B.ExprBuilder.refuses (g.U.BuildUnknown.placed c.args.unknowns.now) in
    let whole = c.in-HasAttr in
    let is =
    sym c.expr_kind.ensures.tree
    ∙ ap (kind_tree {T = g.row.T.Denot}) whole.is
    ∙ (λ i. has_attr (tree_of {T = g.row.T.Denot} (sym c.deref-in-HasAttr.ensures i)) (rc_str_bytes whole.attr)) in
    made_is g.B.ExprBuilder.means _ (built b (tree_of {T = g.row.T.Denot} c.args.e.now)) c.attribute_test.result (ap (built b) (sym is)) (c.attribute_test.ensures.made _ c.build_with-expr.ensures.made)

pub build_with-returns-in-HasAttr-clause-refused : goal.build_with-returns-in-HasAttr-clause-refused
build_with-returns-in-HasAttr-clause-refused g t c =
    let b = placing g.B.ExprBuilder.steps g.B.ExprBuilder.refuses (g.U.BuildUnknown.placed c.args.unknowns.now) in
    let whole = c.in-HasAttr in
    let is =
    sym c.expr_kind.ensures.tree
    ∙ ap (kind_tree {T = g.row.T.Denot}) whole.is
    ∙ (λ i. has_attr (tree_of {T = g.row.T.Denot} (sym c.deref-in-HasAttr.ensures i)) (rc_str_bytes whole.attr)) in
    told_is g.B.ExprBuilder.says _ (built b (tree_of {T = g.row.T.Denot} c.args.e.now)) c.attribute_test.result (ap (built b) (sym is)) (c.attribute_test.ensures.refused _ c.build_with-expr.ensures.made c.build_with-expr.ensures.refused)

pub build_with-returns-in-ExtHasAttr-clause-made : goal.build_with-returns-in-ExtHasAttr-clause-made
build_with-returns-in-ExtHasAttr-clause-made g t c =
    let b = placing g.B.ExprBuilder.steps g.B.ExprBuilder.refuses (g.U.BuildUnknown.placed c.args.unknowns.now) in
    let whole = c.in-ExtHasAttr in
    let is =
    sym c.expr_kind.ensures.tree
    ∙ ap (kind_tree {T = g.row.T.Denot}) whole.is
    ∙ (λ i. has_path (tree_of {T = g.row.T.Denot} (sym c.deref-in-ExtHasAttr.ensures i)) (rc_str_bytes whole.attrs.value.head) (map rc_str_bytes whole.attrs.value.tail.items)) in
    made_is g.B.ExprBuilder.means _ (built b (tree_of {T = g.row.T.Denot} c.args.e.now)) c.path_test.result (ap (built b) (sym is)) (c.path_test.ensures.made _ c.build_with-in-ExtHasAttr.ensures.made)

pub build_with-returns-in-ExtHasAttr-clause-refused : goal.build_with-returns-in-ExtHasAttr-clause-refused
build_with-returns-in-ExtHasAttr-clause-refused g t c =
    let b = placing g.B.ExprBuilder.steps g.B.ExprBuilder.refuses (g.U.BuildUnknown.placed c.args.unknowns.now) in
    let whole = c.in-ExtHasAttr in
    let is =
    sym c.expr_kind.ensures.tree
    ∙ ap (kind_tree {T = g.row.T.Denot}) whole.is
    ∙ (λ i. has_path (tree_of {T = g.row.T.Denot} (sym c.deref-in-ExtHasAttr.ensures i)) (rc_str_bytes whole.attrs.value.head) (map rc_str_bytes whole.attrs.value.tail.items)) in
    told_is g.B.ExprBuilder.says _ (built b (tree_of {T = g.row.T.Denot} c.args.e.now)) c.path_test.result (ap (built b) (sym is)) (c.path_test.ensures.refused _ c.build_with-in-ExtHasAttr.ensures.made c.build_with-in-ExtHasAttr.ensures.refused)

pub build_with-returns-in-Like-clause-made : goal.build_with-returns-in-Like-clause-made
build_with-returns-in-Like-clause-made g t c =
    let b = placing g.B.ExprBuilder.steps g.B.ExprBuilder.refuses (g.U.BuildUnknown.placed c.args.unknowns.now) in
    let whole = c.in-Like in
    let is =
    sym c.expr_kind.ensures.tree
    ∙ ap (kind_tree {T = g.row.T.Denot}) whole.is
    ∙ (λ i. like (tree_of {T = g.row.T.Denot} (sym c.deref-in-Like.ensures i)) (pattern_of whole.pattern)) in
    made_is g.B.ExprBuilder.means _ (built b (tree_of {T = g.row.T.Denot} c.args.e.now)) c.pattern_match.result (ap (built b) (sym is)) (c.pattern_match.ensures.made _ c.build_with-expr-in-Like.ensures.made)

pub build_with-returns-in-Like-clause-refused : goal.build_with-returns-in-Like-clause-refused
build_with-returns-in-Like-clause-refused g t c =
    let b = placing g.B.ExprBuilder.steps g.B.ExprBuilder.refuses (g.U.BuildUnknown.placed c.args.unknowns.now) in
    let whole = c.in-Like in
    let is =
    sym c.expr_kind.ensures.tree
    ∙ ap (kind_tree {T = g.row.T.Denot}) whole.is
    ∙ (λ i. like (tree_of {T = g.row.T.Denot} (sym c.deref-in-Like.ensures i)) (pattern_of whole.pattern)) in
    told_is g.B.ExprBuilder.says _ (built b (tree_of {T = g.row.T.Denot} c.args.e.now)) c.pattern_match.result (ap (built b) (sym is)) (c.pattern_match.ensures.refused _ c.build_with-expr-in-Like.ensures.made c.build_with-expr-in-Like.ensures.refused)

pub build_with-returns-in-Is-clause-made : goal.build_with-returns-in-Is-clause-made
build_with-returns-in-Is-clause-made g t c =
    let b = placing g.B.ExprBuilder.steps g.B.ExprBuilder.refuses (g.U.BuildUnknown.placed c.args.unknowns.now) in
    let whole = c.in-Is in
    let is =
    sym c.expr_kind.ensures.tree
    ∙ ap (kind_tree {T = g.row.T.Denot}) whole.is
    ∙ (λ i. is_type (tree_of {T = g.row.T.Denot} (sym c.deref-in-Is.ensures i)) (type_name_of whole.entity_type)) in
    made_is g.B.ExprBuilder.means _ (built b (tree_of {T = g.row.T.Denot} c.args.e.now)) c.type_test.result (ap (built b) (sym is)) (c.type_test.ensures.made _ c.build_with-expr-in-Is.ensures.made)

pub build_with-returns-in-Is-clause-refused : goal.build_with-returns-in-Is-clause-refused
build_with-returns-in-Is-clause-refused g t c =
    let b = placing g.B.ExprBuilder.steps g.B.ExprBuilder.refuses (g.U.BuildUnknown.placed c.args.unknowns.now) in
    let whole = c.in-Is in
    let is =
    sym c.expr_kind.ensures.tree
    ∙ ap (kind_tree {T = g.row.T.Denot}) whole.is
    ∙ (λ i. is_type (tree_of {T = g.row.T.Denot} (sym c.deref-in-Is.ensures i)) (type_name_of whole.entity_type)) in
    told_is g.B.ExprBuilder.says _ (built b (tree_of {T = g.row.T.Denot} c.args.e.now)) c.type_test.result (ap (built b) (sym is)) (c.type_test.ensures.refused _ c.build_with-expr-in-Is.ensures.made c.build_with-expr-in-Is.ensures.refused)

pub build_with-returns-in-Set-clause-made : goal.build_with-returns-in-Set-clause-made
build_with-returns-in-Set-clause-made g t c =
    let b = placing g.B.ExprBuilder.steps g.B.ExprBuilder.refuses (g.U.BuildUnknown.placed c.args.unknowns.now) in
    let whole = c.in-Set in
    let is =
    sym c.expr_kind.ensures.tree
    ∙ ap (kind_tree {T = g.row.T.Denot}) whole.is
    ∙ set_tree {T = g.row.T.Denot} whole.members
    ∙ ap (λ es. set_literal (trees (map (tree_of {T = g.row.T.Denot}) es))) (sym c.members_of-in-Set.ensures) in
    made_is g.B.ExprBuilder.means _ (built b (tree_of {T = g.row.T.Denot} c.args.e.now)) c.set.result (ap (built b) (sym is)) (c.set.ensures.made _ c.build_all-members.ensures.made)

pub build_with-returns-in-Set-clause-refused : goal.build_with-returns-in-Set-clause-refused
build_with-returns-in-Set-clause-refused g t c =
    let b = placing g.B.ExprBuilder.steps g.B.ExprBuilder.refuses (g.U.BuildUnknown.placed c.args.unknowns.now) in
    let whole = c.in-Set in
    let is =
    sym c.expr_kind.ensures.tree
    ∙ ap (kind_tree {T = g.row.T.Denot}) whole.is
    ∙ set_tree {T = g.row.T.Denot} whole.members
    ∙ ap (λ es. set_literal (trees (map (tree_of {T = g.row.T.Denot}) es))) (sym c.members_of-in-Set.ensures) in
    told_is g.B.ExprBuilder.says _ (built b (tree_of {T = g.row.T.Denot} c.args.e.now)) c.set.result (ap (built b) (sym is)) (c.set.ensures.refused _ c.build_all-members.ensures.made c.build_all-members.ensures.refused)

pub build_with-returns-in-Record-clause-made : goal.build_with-returns-in-Record-clause-made
build_with-returns-in-Record-clause-made g t c =
    let b = placing g.B.ExprBuilder.steps g.B.ExprBuilder.refuses (g.U.BuildUnknown.placed c.args.unknowns.now) in
    let whole = c.in-Record in
    let is =
    sym c.expr_kind.ensures.tree
    ∙ ap (kind_tree {T = g.row.T.Denot}) whole.is
    ∙ record_tree {T = g.row.T.Denot} whole.fields
    ∙ ap (λ m. record_literal (tree_fields (named (field_trees {T = g.row.T.Denot} m.entries)))) (sym c.deref-in-Record.ensures) in
    made_is g.B.ExprBuilder.means _ (built b (tree_of {T = g.row.T.Denot} c.args.e.now)) c.record.result (ap (built b) (sym is)) (c.record.ensures.made c.build_fields.ensures.rising _ c.build_fields.ensures.made)

pub build_with-returns-in-Record-clause-refused : goal.build_with-returns-in-Record-clause-refused
build_with-returns-in-Record-clause-refused g t c =
    let b = placing g.B.ExprBuilder.steps g.B.ExprBuilder.refuses (g.U.BuildUnknown.placed c.args.unknowns.now) in
    let whole = c.in-Record in
    let is =
    sym c.expr_kind.ensures.tree
    ∙ ap (kind_tree {T = g.row.T.Denot}) whole.is
    ∙ record_tree {T = g.row.T.Denot} whole.fields
    ∙ ap (λ m. record_literal (tree_fields (named (field_trees {T = g.row.T.Denot} m.entries)))) (sym c.deref-in-Record.ensures) in
    told_is g.B.ExprBuilder.says _ (built b (tree_of {T = g.row.T.Denot} c.args.e.now)) c.record.result (ap (built b) (sym is)) (c.record.ensures.refused _ c.build_fields.ensures.made c.build_fields.ensures.refused)

pub build_two-returns-in-Ok-clause-made : goal.build_two-returns-in-Ok-clause-made
build_two-returns-in-Ok-clause-made g t c =
    let b = placing g.B.ExprBuilder.steps g.B.ExprBuilder.refuses (g.U.BuildUnknown.placed c.args.unknowns.now) in
    let l = built b (tree_of {T = g.row.T.Denot} c.args.left.now) in
    let r = built b (tree_of {T = g.row.T.Denot} c.args.right.now) in
    made_is (of_two g.B.ExprBuilder.means) _ (two_made l r) c.two.result (two_on l r (g.B.ExprBuilder.means c.in-Ok.first) c.in-Ok.ensures.made) (c.two.ensures.made _ c.build_with-in-Ok.ensures.made)

pub build_two-returns-in-Ok-clause-refused : goal.build_two-returns-in-Ok-clause-refused
build_two-returns-in-Ok-clause-refused g t c =
    let b = placing g.B.ExprBuilder.steps g.B.ExprBuilder.refuses (g.U.BuildUnknown.placed c.args.unknowns.now) in
    let l = built b (tree_of {T = g.row.T.Denot} c.args.left.now) in
    let r = built b (tree_of {T = g.row.T.Denot} c.args.right.now) in
    told_is g.B.ExprBuilder.says _ (two_made l r) c.two.result (two_on l r (g.B.ExprBuilder.means c.in-Ok.first) c.in-Ok.ensures.made) (c.two.ensures.refused _ c.build_with-in-Ok.ensures.made c.build_with-in-Ok.ensures.refused)

pub build_two-returns-in-Err-clause-refused : goal.build_two-returns-in-Err-clause-refused
build_two-returns-in-Err-clause-refused g t c =
    let b = placing g.B.ExprBuilder.steps g.B.ExprBuilder.refuses (g.U.BuildUnknown.placed c.args.unknowns.now) in
    two_wrong g.B.ExprBuilder.says (built b (tree_of {T = g.row.T.Denot} c.args.left.now)) (built b (tree_of {T = g.row.T.Denot} c.args.right.now)) c.in-Err.fault c.in-Err.ensures.refused

pub build_three-returns-in-Ok-clause-made : goal.build_three-returns-in-Ok-clause-made
build_three-returns-in-Ok-clause-made g t c =
    let b = placing g.B.ExprBuilder.steps g.B.ExprBuilder.refuses (g.U.BuildUnknown.placed c.args.unknowns.now) in
    let l = built b (tree_of {T = g.row.T.Denot} c.args.test_expr.now) in
    let m = built b (tree_of {T = g.row.T.Denot} c.args.then_expr.now) in
    let r = built b (tree_of {T = g.row.T.Denot} c.args.else_expr.now) in
    made_is (of_three g.B.ExprBuilder.means) _ (three_made l m r) c.three.result (three_on l m r (of_two g.B.ExprBuilder.means c.in-Ok.parts) c.in-Ok.ensures.made) (c.three.ensures.made _ c.build_with.ensures.made)

pub build_three-returns-in-Ok-clause-refused : goal.build_three-returns-in-Ok-clause-refused
build_three-returns-in-Ok-clause-refused g t c =
    let b = placing g.B.ExprBuilder.steps g.B.ExprBuilder.refuses (g.U.BuildUnknown.placed c.args.unknowns.now) in
    let l = built b (tree_of {T = g.row.T.Denot} c.args.test_expr.now) in
    let m = built b (tree_of {T = g.row.T.Denot} c.args.then_expr.now) in
    let r = built b (tree_of {T = g.row.T.Denot} c.args.else_expr.now) in
    told_is g.B.ExprBuilder.says _ (three_made l m r) c.three.result (three_on l m r (of_two g.B.ExprBuilder.means c.in-Ok.parts) c.in-Ok.ensures.made) (c.three.ensures.refused _ c.build_with.ensures.made c.build_with.ensures.refused)

pub build_three-returns-in-Err-clause-refused : goal.build_three-returns-in-Err-clause-refused
build_three-returns-in-Err-clause-refused g t c =
    let b = placing g.B.ExprBuilder.steps g.B.ExprBuilder.refuses (g.U.BuildUnknown.placed c.args.unknowns.now) in
    three_wrong g.B.ExprBuilder.says (built b (tree_of {T = g.row.T.Denot} c.args.test_expr.now)) (built b (tree_of {T = g.row.T.Denot} c.args.then_expr.now)) (built b (tree_of {T = g.row.T.Denot} c.args.else_expr.now)) c.in-Err.fault c.in-Err.ensures.refused

pub build_all-loop-e-preserved : goal.build_all-loop-e-preserved
build_all-loop-e-preserved g t c =
    let b = placing g.B.ExprBuilder.steps g.B.ExprBuilder.refuses (g.U.BuildUnknown.placed c.args.unknowns.now) in
    row_steps {T = g.row.T.Denot} b g.B.ExprBuilder.means c.args.exprs.now c.loop-e.e-index c.e-item.result _ (all_made (built_list b (trees (map (tree_of {T = g.row.T.Denot}) c.args.exprs.now)))) c.loop-e.made.items c.in_ok-made-2.made.items c.loop-e-test.true c.e-item.is c.loop-e.invariant (c.in_ok-made-2.ensures.made _ c.build_with.ensures.made)

pub build_all-returns-in_err-made-2-clause-refused : goal.build_all-returns-in_err-made-2-clause-refused
build_all-returns-in_err-made-2-clause-refused g t c =
    let b = placing g.B.ExprBuilder.steps g.B.ExprBuilder.refuses (g.U.BuildUnknown.placed c.args.unknowns.now) in
    passes g.B.ExprBuilder.says _ (all_made (built_list b (trees (map (tree_of {T = g.row.T.Denot}) c.args.exprs.now)))) c.from_residual-in_err-made-2.result c.in_err-made-2.field-0.0 c.from_residual-in_err-made-2.ensures.1 (c.in_err-made-2.ensures.refused _ c.build_with.ensures.made c.build_with.ensures.refused)
    (λ r h. row_wrong {T = g.row.T.Denot} b g.B.ExprBuilder.means c.args.exprs.now c.loop-e.e-index c.e-item.result _ (all_made (built_list b (trees (map (tree_of {T = g.row.T.Denot}) c.args.exprs.now)))) c.loop-e.made.items r c.loop-e-test.true c.e-item.is c.loop-e.invariant h)

pub build_fields-loop-name-preserved : goal.build_fields-loop-name-preserved
build_fields-loop-name-preserved g t c =
    let b = placing g.B.ExprBuilder.steps g.B.ExprBuilder.refuses (g.U.BuildUnknown.placed c.args.unknowns.now) in
    field_goes_on {T = g.row.T.Denot} b g.B.ExprBuilder.means c.args.fields.now.entries c.loop-name.name-iterator c.next.new.self c.loop-name.made.items c.in_ok-made-2.made.items c.in-Some.name.now c.in-Some.e.now c.loop-name.invariant c.in-Some.ensures.steps (c.in_ok-made-2.ensures.made _ c.build_with.ensures.made)

pub build_fields-returns-in_err-made-2-clause-refused : goal.build_fields-returns-in_err-made-2-clause-refused
build_fields-returns-in_err-made-2-clause-refused g t c =
    let b = placing g.B.ExprBuilder.steps g.B.ExprBuilder.refuses (g.U.BuildUnknown.placed c.args.unknowns.now) in
    passes g.B.ExprBuilder.says _ (fields_made (built_fields b (tree_fields (named (field_trees {T = g.row.T.Denot} c.args.fields.now.entries))))) c.from_residual-in_err-made-2.result c.in_err-made-2.field-0.0 c.from_residual-in_err-made-2.ensures.1 (c.in_err-made-2.ensures.refused _ c.build_with.ensures.made c.build_with.ensures.refused)
    (λ r h. field_goes_wrong {T = g.row.T.Denot} b g.B.ExprBuilder.means c.args.fields.now.entries c.loop-name.name-iterator c.next.new.self c.loop-name.made.items c.in-Some.name.now c.in-Some.e.now r c.loop-name.invariant c.in-Some.ensures.steps h)

pub build_fields-returns-clause-rising : goal.build_fields-returns-clause-rising
build_fields-returns-clause-rising g t c =
    let b = placing g.B.ExprBuilder.steps g.B.ExprBuilder.refuses (g.U.BuildUnknown.placed c.args.unknowns.now) in
    made_rises {T = g.row.T.Denot} b g.B.ExprBuilder.means c.args.fields.now.entries c.loop-name.made.items
    (fields_end {T = g.row.T.Denot} b g.B.ExprBuilder.means c.args.fields.now.entries c.loop-name.name-iterator c.loop-name.made.items c.loop-name.invariant c.in-None.ensures.steps.0)
    c.room_for_fields.ensures.rising
