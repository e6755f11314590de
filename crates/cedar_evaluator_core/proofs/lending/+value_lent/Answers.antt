use Rattle.std.proofs.Common.{arith, ◌≡◌, ◌||◌, ◌+◌, false, map, refl, sym, ap, ◌∙◌, subst}
use Rattle.std.specs.Rc.{rc_str_bytes}
use Rattle.cedar_expr_leaves.specs.Operators.{unary_op_of, binary_op_of}
use Rattle.cedar_expr_leaves.specs.Patterns.{pattern_of}
use Rattle.cedar_expr_leaves.specs.Variables.{var_of}
use Rattle.cedar_expr_names.specs.Views.{type_name_of}
use Rattle.cedar_expr_model.specs.Tree.{unary, binary, get_attr, has_attr, like, is_type}
use Rattle.cedar_expr_trees.specs.Trees.{tree_of, kind_tree}
use Rattle.cedar_evaluator_core.specs.Lent.{lent_made}
use Rattle.cedar_evaluator_core.proofs.Among.{AmongSoFar, among_none, among_one, among_all}
use Rattle.cedar_evaluator_core.proofs.Lent.{contains_lends, variable_lends, get_lends, test_lends, unary_lends, binary_lends, like_lends, type_lends}
use Rattle.cedar_evaluator_core.proofs.lending.+value_lent.Goals.{among-then-found, among-else-found}
use Rattle.cedar_evaluator_core.proofs.lending.+value_lent.Goals as goal

pub value_lent-returns-in-Var : goal.value_lent-returns-in-Var
value_lent-returns-in-Var g t c = variable_lends g.T.FunctionTable.table c.args.known.now c.args.limit (tree_of {T = Unit} c.args.e.now) (omega arith) c.variable.result (var_of c.in-Var.v) (sym (ap (kind_tree {T = Unit}) c.in-Var.is) ∙ c.expr_kind.ensures.tree) c.variable.ensures

pub value_lent-returns-in_ok-value_lent-in-GetAttr : goal.value_lent-returns-in_ok-value_lent-in-GetAttr
value_lent-returns-in_ok-value_lent-in-GetAttr g t c =
    let whole = c.in-GetAttr in
    let part = c.in_ok-value_lent-in-GetAttr in
    let is = ap (kind_tree {T = Unit}) whole.is ∙ (λ i. get_attr (tree_of {T = Unit} (sym c.deref.ensures i)) (rc_str_bytes whole.attr)) in
    get_lends g.T.FunctionTable.table c.args.known.now c.args.limit (tree_of {T = Unit} c.args.e.now) (omega arith) c.attribute.result (tree_of {T = Unit} c.deref.result.now) part.field-0 part.ensures (rc_str_bytes whole.attr) (sym is ∙ c.expr_kind.ensures.tree) c.attribute.ensures

pub value_lent-returns-in_ok-value_lent-in-HasAttr : goal.value_lent-returns-in_ok-value_lent-in-HasAttr
value_lent-returns-in_ok-value_lent-in-HasAttr g t c =
    let whole = c.in-HasAttr in
    let part = c.in_ok-value_lent-in-HasAttr in
    let is = ap (kind_tree {T = Unit}) whole.is ∙ (λ i. has_attr (tree_of {T = Unit} (sym c.deref-in-HasAttr.ensures i)) (rc_str_bytes whole.attr)) in
    test_lends g.T.FunctionTable.table c.args.known.now c.args.limit (tree_of {T = Unit} c.args.e.now) (omega arith) c.test.result (tree_of {T = Unit} c.deref-in-HasAttr.result.now) part.field-0 part.ensures (rc_str_bytes whole.attr) (sym is ∙ c.expr_kind.ensures.tree) c.test.ensures

pub value_lent-returns-in_ok-value_lent-in-UnaryApp : goal.value_lent-returns-in_ok-value_lent-in-UnaryApp
value_lent-returns-in_ok-value_lent-in-UnaryApp g t c =
    let whole = c.in-UnaryApp in
    let part = c.in_ok-value_lent-in-UnaryApp in
    let is = ap (kind_tree {T = Unit}) whole.is ∙ (λ i. unary (unary_op_of whole.op) (tree_of {T = Unit} (sym c.deref-in-UnaryApp.ensures i))) in
    unary_lends g.T.FunctionTable.table c.args.known.now c.args.limit (tree_of {T = Unit} c.args.e.now) (omega arith) c.unary.result (tree_of {T = Unit} c.deref-in-UnaryApp.result.now) part.field-0 part.ensures (unary_op_of whole.op) (sym is ∙ c.expr_kind.ensures.tree) c.unary.ensures

pub value_lent-returns-in_ok-value_lent-in-Like : goal.value_lent-returns-in_ok-value_lent-in-Like
value_lent-returns-in_ok-value_lent-in-Like g t c =
    let whole = c.in-Like in
    let part = c.in_ok-value_lent-in-Like in
    let is = ap (kind_tree {T = Unit}) whole.is ∙ (λ i. like (tree_of {T = Unit} (sym c.deref-in-Like.ensures i)) (pattern_of whole.pattern)) in
    like_lends g.T.FunctionTable.table c.args.known.now c.args.limit (tree_of {T = Unit} c.args.e.now) (omega arith) c.like.result (tree_of {T = Unit} c.deref-in-Like.result.now) part.field-0 part.ensures (pattern_of whole.pattern) (sym is ∙ c.expr_kind.ensures.tree) c.like.ensures

pub value_lent-returns-in_ok-value_lent-in-Is : goal.value_lent-returns-in_ok-value_lent-in-Is
value_lent-returns-in_ok-value_lent-in-Is g t c =
    let whole = c.in-Is in
    let part = c.in_ok-value_lent-in-Is in
    let is = ap (kind_tree {T = Unit}) whole.is ∙ (λ i. is_type (tree_of {T = Unit} (sym c.deref-in-Is.ensures i)) (type_name_of whole.entity_type)) in
    type_lends g.T.FunctionTable.table c.args.known.now c.args.limit (tree_of {T = Unit} c.args.e.now) (omega arith) c.is_of_type.result (tree_of {T = Unit} c.deref-in-Is.result.now) part.field-0 part.ensures (type_name_of whole.entity_type) (sym is ∙ c.expr_kind.ensures.tree) c.is_of_type.ensures

pub among-loop-member-init : goal.among-loop-member-init
among-loop-member-init g t c = among_none g.T.FunctionTable.table c.args.known.now c.args.limit c.args.members.now (lent_made c.args.of) false refl

pub among-loop-member-preserved : goal.among-loop-member-preserved
among-loop-member-preserved g t c =
    let part = c.in_ok-value_lent in
    let is : c.if-found.found ≡ (c.loop-member.found || c.in_ok-is_it.is_it) = elim c.if-found.branch [
      | among-then-found w ↦ w.found-is ∙ w.if-found.true ∙ (λ i. sym w.if-found.true i || c.in_ok-is_it.is_it)
      | among-else-found w ↦ w.found-is ∙ (λ i. sym w.if-found.false i || c.in_ok-is_it.is_it)
    ] in
    subst (AmongSoFar g.T.FunctionTable.table c.args.known.now c.args.limit c.args.members.now (lent_made c.args.of) (c.loop-member.member-index + 1)) (sym is)
    (among_one g.T.FunctionTable.table c.args.known.now c.args.limit c.args.members.now (lent_made c.args.of) c.loop-member.member-index c.loop-member.found c.in_ok-is_it.is_it c.member-item.result _ part.field-0 c.loop-member.invariant c.loop-member-test.true c.member-item.is part.ensures c.in_ok-is_it.ensures)

pub among-returns : goal.among-returns
among-returns g t c = among_all g.T.FunctionTable.table c.args.known.now c.args.limit c.args.members.now (lent_made c.args.of) c.loop-member.member-index c.loop-member.found c.loop-member.invariant (omega arith) c.loop-member-test.false

pub value_lent-returns-in-Some : goal.value_lent-returns-in-Some
value_lent-returns-in-Some g t c =
    let whole = c.in-BinaryApp in
    let second = c.in_ok-second-in-BinaryApp in
    let is = ap (kind_tree {T = Unit}) whole.is ∙ (λ i. binary (binary_op_of whole.op) (tree_of {T = Unit} (sym c.deref-in-BinaryApp-2.ensures i)) (tree_of {T = Unit} (sym c.deref-in-BinaryApp.ensures i))) in
    contains_lends g.T.FunctionTable.table c.args.known.now c.args.limit (tree_of {T = Unit} c.args.e.now) (omega arith) c.among.result (tree_of {T = Unit} c.deref-in-BinaryApp-2.result.now) (tree_of {T = Unit} c.deref-in-BinaryApp.result.now) (map (tree_of {T = Unit}) c.in-Some.members.now) second.second c.in-Some.ensures.members second.ensures
    (ap (λ x. binary x (tree_of {T = Unit} c.deref-in-BinaryApp-2.result.now) (tree_of {T = Unit} c.deref-in-BinaryApp.result.now)) (sym c.in-Some.ensures.operator) ∙ sym is ∙ c.expr_kind.ensures.tree) c.among.ensures

pub value_lent-returns-in_ok-value_lent-in-None : goal.value_lent-returns-in_ok-value_lent-in-None
value_lent-returns-in_ok-value_lent-in-None g t c =
    let whole = c.in-BinaryApp in
    let first = c.in_ok-value_lent-in-None in
    let second = c.in_ok-second-in-BinaryApp in
    let is = ap (kind_tree {T = Unit}) whole.is ∙ (λ i. binary (binary_op_of whole.op) (tree_of {T = Unit} (sym c.deref-in-None.ensures i)) (tree_of {T = Unit} (sym c.deref-in-BinaryApp.ensures i))) in
    binary_lends g.T.FunctionTable.table c.args.known.now c.args.limit (tree_of {T = Unit} c.args.e.now) (omega arith) c.binary.result (tree_of {T = Unit} c.deref-in-None.result.now) first.field-0 first.ensures (binary_op_of whole.op) (tree_of {T = Unit} c.deref-in-BinaryApp.result.now) second.second second.ensures (sym is ∙ c.expr_kind.ensures.tree) c.binary.ensures
