use Rattle.std.proofs.Common.{rules, ◌≡◌, IfOk, map, subst, sym, ap, ◌∙◌}
use Rattle.std.specs.Rc.{rc_str_bytes}
use Rattle.cedar_expr_names.specs.Views.{plain_name_of, type_name_of}
use Rattle.cedar_expr_leaves.specs.Operators.{unary_op_of, binary_op_of}
use Rattle.cedar_expr_leaves.specs.Patterns.{pattern_of}
use Rattle.cedar_expr_model.specs.Builder.{built, built_list, conjunction, disjunction, trees, tree_fields}
use Rattle.cedar_expr_model.specs.Tree.{Tree, choice, both, either, unary, binary, get_attr, has_attr, like, is_type, call, set_literal, record_literal}
use Rattle.cedar_expr_trees.specs.Trees.{tree_of, kind_tree, named, field_trees}
use Rattle.cedar_expr_trees.specs.declared.expr.Expr.{Expr}
use Rattle.cedar_expr_trees.proofs.Trees.{call_tree, set_tree, record_tree}
use Rattle.cedar_expr_substitution.specs.Replacing.{replacing}
use Rattle.cedar_expr_substitution.proofs.Walked.{onto, row_steps, field_steps, fields_end, map_made}
use Rattle.cedar_expr_substitution.proofs.walk.+walk.Goals as goal

pub replaced-returns-in-ExtensionFunctionApp : goal.replaced-returns-in-ExtensionFunctionApp
replaced-returns-in-ExtensionFunctionApp g t c =
    let whole = c.in-ExtensionFunctionApp in
    let is =
    sym c.expr_kind.ensures.tree
    ∙ ap (kind_tree {T = Unit}) whole.is
    ∙ call_tree {T = Unit} whole.fn_name whole.args
    ∙ ap (λ es. call (plain_name_of whole.fn_name) (trees (map (tree_of {T = Unit}) es))) (sym (c.as_slice.ensures.value ∙ ap (λ v. v.items) c.deref-in-ExtensionFunctionApp.ensures)) in
    subst (λ u. IfOk c.call_replaced.result (λ r. tree_of r ≡ built (replacing (g.R.Replace.placed c.args.by.now) (g.R.Replace.slotted c.args.by.now)) u)) (sym is) c.call_replaced.ensures

pub replaced-returns-in-Set : goal.replaced-returns-in-Set
replaced-returns-in-Set g t c =
    let whole = c.in-Set in
    let is =
    sym c.expr_kind.ensures.tree
    ∙ ap (kind_tree {T = Unit}) whole.is
    ∙ set_tree {T = Unit} whole.members
    ∙ ap (λ es. set_literal (trees (map (tree_of {T = Unit}) es))) (sym (c.as_slice-in-Set.ensures.value ∙ ap (λ v. v.items) c.deref-in-Set.ensures)) in
    subst (λ u. IfOk c.set_replaced.result (λ r. tree_of r ≡ built (replacing (g.R.Replace.placed c.args.by.now) (g.R.Replace.slotted c.args.by.now)) u)) (sym is) c.set_replaced.ensures

pub replaced-returns-in-Record : goal.replaced-returns-in-Record
replaced-returns-in-Record g t c =
    let whole = c.in-Record in
    let is =
    sym c.expr_kind.ensures.tree
    ∙ ap (kind_tree {T = Unit}) whole.is
    ∙ record_tree {T = Unit} whole.fields
    ∙ ap (λ m. record_literal (tree_fields (named (field_trees {T = Unit} m.entries)))) (sym c.deref-in-Record.ensures) in
    subst (λ u. IfOk c.record_replaced.result (λ r. tree_of r ≡ built (replacing (g.R.Replace.placed c.args.by.now) (g.R.Replace.slotted c.args.by.now)) u)) (sym is) c.record_replaced.ensures

pub fields_replaced-loop-name-preserved : goal.fields_replaced-loop-name-preserved
fields_replaced-loop-name-preserved g t c =
    field_steps (replacing (g.R.Replace.placed c.args.by.now) (g.R.Replace.slotted c.args.by.now)) c.args.fields.now.entries c.loop-name.name-iterator c.next.new.self c.loop-name.made.items c.push.new.self.items c.in-Some.name.now c.in_ok-clone.field-0 c.in-Some.e.now c.in_ok-replaced.field-0 c.loop-name.invariant c.in-Some.ensures.steps c.in_ok-push.ensures.items c.in_ok-clone.ensures.cases c.in_ok-replaced.ensures

pub fields_replaced-returns : goal.fields_replaced-returns
fields_replaced-returns g t c =
    let b = replacing (g.R.Replace.placed c.args.by.now) (g.R.Replace.slotted c.args.by.now) in
    map_made b c.args.fields.now.entries c.loop-name.made.items c.field_map.result
    (fields_end b c.args.fields.now.entries c.loop-name.name-iterator c.loop-name.made.items c.loop-name.invariant c.in-None.ensures.steps.0)
    c.len.ensures.ordered
    c.field_map.ensures

pub all_replaced-loop-e-preserved : goal.all_replaced-loop-e-preserved
all_replaced-loop-e-preserved g t c =
    let b = replacing (g.R.Replace.placed c.args.by.now) (g.R.Replace.slotted c.args.by.now) in
    row_steps b c.args.exprs.now c.loop-e.e-index c.e-item.result _ c.loop-e.made.items c.push.new.self.items c.in_ok-replaced.field-0 (built_list b (trees (map (tree_of {T = Unit}) c.args.exprs.now))) c.loop-e-test.true c.e-item.is c.loop-e.invariant c.in_ok-push.ensures.items c.in_ok-replaced.ensures

pub replaced-returns-in_ok-right-in-And : goal.replaced-returns-in_ok-right-in-And
replaced-returns-in_ok-right-in-And g t c =
    let bound : Tree → Tree = λ u. built (replacing (g.R.Replace.placed c.args.by.now) (g.R.Replace.slotted c.args.by.now)) u in
    let part : Expr Unit → Tree = λ e. bound (tree_of e) in
    let whole : tree_of c.args.e.now ≡ both (tree_of c.in-And.left.value) (tree_of c.in-And.right.value) = sym c.expr_kind.ensures.tree ∙ ap (kind_tree {T = Unit}) c.in-And.is in
    let first = c.in_ok-left-in-And.ensures ∙ ap part c.deref-in-And.ensures in
    let next = c.in_ok-right-in-And.ensures ∙ ap part c.deref-in-And-2.ensures in
    onto c.and.result _ (bound (tree_of c.args.e.now)) ((λ i. conjunction (first i) (next i)) ∙ ap bound (sym whole)) c.and.ensures.tree

pub replaced-returns-in_ok-right-in-Or : goal.replaced-returns-in_ok-right-in-Or
replaced-returns-in_ok-right-in-Or g t c =
    let bound : Tree → Tree = λ u. built (replacing (g.R.Replace.placed c.args.by.now) (g.R.Replace.slotted c.args.by.now)) u in
    let part : Expr Unit → Tree = λ e. bound (tree_of e) in
    let whole : tree_of c.args.e.now ≡ either (tree_of c.in-Or.left.value) (tree_of c.in-Or.right.value) = sym c.expr_kind.ensures.tree ∙ ap (kind_tree {T = Unit}) c.in-Or.is in
    let first = c.in_ok-left-in-Or.ensures ∙ ap part c.deref-in-Or.ensures in
    let next = c.in_ok-right-in-Or.ensures ∙ ap part c.deref-in-Or-2.ensures in
    onto c.or.result _ (bound (tree_of c.args.e.now)) ((λ i. disjunction (first i) (next i)) ∙ ap bound (sym whole)) c.or.ensures.tree

pub replaced-returns-in_ok-arg2-in-BinaryApp : goal.replaced-returns-in_ok-arg2-in-BinaryApp
replaced-returns-in_ok-arg2-in-BinaryApp g t c =
    let bound : Tree → Tree = λ u. built (replacing (g.R.Replace.placed c.args.by.now) (g.R.Replace.slotted c.args.by.now)) u in
    let part : Expr Unit → Tree = λ e. bound (tree_of e) in
    let whole : tree_of c.args.e.now ≡ binary (binary_op_of c.in-BinaryApp.op) (tree_of c.in-BinaryApp.arg1.value) (tree_of c.in-BinaryApp.arg2.value) = sym c.expr_kind.ensures.tree ∙ ap (kind_tree {T = Unit}) c.in-BinaryApp.is in
    let first = c.in_ok-arg1-in-BinaryApp.ensures ∙ ap part c.deref-in-BinaryApp.ensures in
    let next = c.in_ok-arg2-in-BinaryApp.ensures ∙ ap part c.deref-in-BinaryApp-2.ensures in
    onto c.binary_app.result _ (bound (tree_of c.args.e.now)) ((λ i. binary (binary_op_of c.in-BinaryApp.op) (first i) (next i)) ∙ ap bound (sym whole)) c.binary_app.ensures.tree

pub replaced-returns-in_ok-else_expr-in-If : goal.replaced-returns-in_ok-else_expr-in-If
replaced-returns-in_ok-else_expr-in-If g t c =
    let bound : Tree → Tree = λ u. built (replacing (g.R.Replace.placed c.args.by.now) (g.R.Replace.slotted c.args.by.now)) u in
    let part : Expr Unit → Tree = λ e. bound (tree_of e) in
    let whole : tree_of c.args.e.now ≡ choice (tree_of c.in-If.test_expr.value) (tree_of c.in-If.then_expr.value) (tree_of c.in-If.else_expr.value) = sym c.expr_kind.ensures.tree ∙ ap (kind_tree {T = Unit}) c.in-If.is in
    let test = c.in_ok-test_expr-in-If.ensures ∙ ap part c.deref.ensures in
    let first = c.in_ok-then_expr-in-If.ensures ∙ ap part c.deref-in-If.ensures in
    let next = c.in_ok-else_expr-in-If.ensures ∙ ap part c.deref-in-If-2.ensures in
    onto c.ite.result _ (bound (tree_of c.args.e.now)) ((λ i. choice (test i) (first i) (next i)) ∙ ap bound (sym whole)) c.ite.ensures.tree

pub replaced-returns-in_ok-clone-in-Is : goal.replaced-returns-in_ok-clone-in-Is
replaced-returns-in_ok-clone-in-Is g t c =
    let bound : Tree → Tree = λ u. built (replacing (g.R.Replace.placed c.args.by.now) (g.R.Replace.slotted c.args.by.now)) u in
    let part : Expr Unit → Tree = λ e. bound (tree_of e) in
    let whole : tree_of c.args.e.now ≡ is_type (tree_of c.in-Is.expr.value) (type_name_of c.in-Is.entity_type) = sym c.expr_kind.ensures.tree ∙ ap (kind_tree {T = Unit}) c.in-Is.is in
    let first = c.in_ok-expr-in-Is.ensures ∙ ap part c.deref-in-Is.ensures in
    let named : type_name_of c.in_ok-clone-in-Is.field-0 ≡ type_name_of c.in-Is.entity_type = search rules in
    onto c.is_entity_type.result _ (bound (tree_of c.args.e.now)) ((λ i. is_type (first i) (named i)) ∙ ap bound (sym whole)) c.is_entity_type.ensures.tree

pub replaced-returns-in_ok-arg-in-UnaryApp : goal.replaced-returns-in_ok-arg-in-UnaryApp
replaced-returns-in_ok-arg-in-UnaryApp g t c =
    let bound : Tree → Tree = λ u. built (replacing (g.R.Replace.placed c.args.by.now) (g.R.Replace.slotted c.args.by.now)) u in
    let part : Expr Unit → Tree = λ e. bound (tree_of e) in
    let whole : tree_of c.args.e.now ≡ unary (unary_op_of c.in-UnaryApp.op) (tree_of c.in-UnaryApp.arg.value) = sym c.expr_kind.ensures.tree ∙ ap (kind_tree {T = Unit}) c.in-UnaryApp.is in
    let first = c.in_ok-arg-in-UnaryApp.ensures ∙ ap part c.deref-in-UnaryApp.ensures in
    onto c.unary_app.result _ (bound (tree_of c.args.e.now)) (ap (unary (unary_op_of c.in-UnaryApp.op)) first ∙ ap bound (sym whole)) c.unary_app.ensures.tree

pub replaced-returns-in_ok-clone-in-GetAttr : goal.replaced-returns-in_ok-clone-in-GetAttr
replaced-returns-in_ok-clone-in-GetAttr g t c =
    let bound : Tree → Tree = λ u. built (replacing (g.R.Replace.placed c.args.by.now) (g.R.Replace.slotted c.args.by.now)) u in
    let part : Expr Unit → Tree = λ e. bound (tree_of e) in
    let whole : tree_of c.args.e.now ≡ get_attr (tree_of c.in-GetAttr.expr.value) (rc_str_bytes c.in-GetAttr.attr) = sym c.expr_kind.ensures.tree ∙ ap (kind_tree {T = Unit}) c.in-GetAttr.is in
    let first = c.in_ok-expr-in-GetAttr.ensures ∙ ap part c.deref-in-GetAttr.ensures in
    let named : rc_str_bytes c.in_ok-clone-in-GetAttr.field-0 ≡ rc_str_bytes c.in-GetAttr.attr = search rules in
    onto c.get_attr.result _ (bound (tree_of c.args.e.now)) ((λ i. get_attr (first i) (named i)) ∙ ap bound (sym whole)) c.get_attr.ensures.tree

pub replaced-returns-in_ok-clone-in-HasAttr : goal.replaced-returns-in_ok-clone-in-HasAttr
replaced-returns-in_ok-clone-in-HasAttr g t c =
    let bound : Tree → Tree = λ u. built (replacing (g.R.Replace.placed c.args.by.now) (g.R.Replace.slotted c.args.by.now)) u in
    let part : Expr Unit → Tree = λ e. bound (tree_of e) in
    let whole : tree_of c.args.e.now ≡ has_attr (tree_of c.in-HasAttr.expr.value) (rc_str_bytes c.in-HasAttr.attr) = sym c.expr_kind.ensures.tree ∙ ap (kind_tree {T = Unit}) c.in-HasAttr.is in
    let first = c.in_ok-expr-in-HasAttr.ensures ∙ ap part c.deref-in-HasAttr.ensures in
    let named : rc_str_bytes c.in_ok-clone-in-HasAttr.field-0 ≡ rc_str_bytes c.in-HasAttr.attr = search rules in
    onto c.has_attr.result _ (bound (tree_of c.args.e.now)) ((λ i. has_attr (first i) (named i)) ∙ ap bound (sym whole)) c.has_attr.ensures.tree

pub replaced-returns-in_ok-clone-in-Like : goal.replaced-returns-in_ok-clone-in-Like
replaced-returns-in_ok-clone-in-Like g t c =
    let bound : Tree → Tree = λ u. built (replacing (g.R.Replace.placed c.args.by.now) (g.R.Replace.slotted c.args.by.now)) u in
    let part : Expr Unit → Tree = λ e. bound (tree_of e) in
    let whole : tree_of c.args.e.now ≡ like (tree_of c.in-Like.expr.value) (pattern_of c.in-Like.pattern) = sym c.expr_kind.ensures.tree ∙ ap (kind_tree {T = Unit}) c.in-Like.is in
    let first = c.in_ok-expr-in-Like.ensures ∙ ap part c.deref-in-Like.ensures in
    let named : pattern_of c.in_ok-clone-in-Like.field-0 ≡ pattern_of c.in-Like.pattern = search rules in
    onto c.like.result _ (bound (tree_of c.args.e.now)) ((λ i. like (first i) (named i)) ∙ ap bound (sym whole)) c.like.ensures.tree
