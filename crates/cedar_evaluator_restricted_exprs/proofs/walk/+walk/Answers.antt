use Rattle.std.proofs.Common.{◌≡◌, true, map, arith, rules, refl, sym, ap, subst, ◌∙◌}
use Rattle.cedar_expr_names.specs.Views.{plain_name_of}
use Rattle.cedar_expr_model.specs.Builder.{trees, tree_fields}
use Rattle.cedar_expr_model.specs.Restricted.{is_restricted}
use Rattle.cedar_expr_model.specs.Tree.{call, set_literal, record_literal}
use Rattle.cedar_expr_trees.specs.Trees.{tree_of, kind_tree, named, field_trees}
use Rattle.cedar_expr_trees.proofs.Trees.{call_tree, set_tree, record_tree}
use Rattle.std.specs.List.{zip}
use Rattle.std.specs.Map.{keys_of, values_of}
use Rattle.cedar_expr_model.specs.Made.{made_set, made_record}
use Rattle.cedar_expr_model.specs.Parts.{listed, listed_fields}
use Rattle.cedar_evaluator_model.specs.Scope.{value_left}
use Rattle.cedar_evaluator_model.specs.Steps.{called_left, made_members, made_fields}
use Rattle.cedar_evaluator_model.specs.Evaluation.{evaluated, node, pieces_of}
use Rattle.cedar_evaluator_model.specs.Functions.{with_functions}
use Rattle.cedar_evaluator_restricted_exprs.specs.Lefts.{Leaves}
use Rattle.cedar_evaluator_restricted_exprs.proofs.Levels.{one_level, at_limit}
use Rattle.cedar_evaluator_restricted_exprs.proofs.Gathered.{passed_on, starts, fields_start, on, off, all, handed_on, field_on, field_off, fields_all, fewer, trees_in}
use Rattle.cedar_evaluator_restricted_exprs.proofs.walk.+walk.Goals as goal

pub level-returns-in-ExtensionFunctionApp : goal.level-returns-in-ExtensionFunctionApp
level-returns-in-ExtensionFunctionApp g t c = λ x a.
    let whole = c.in-ExtensionFunctionApp in
    let s = with_functions x in
    let is = sym c.expr_kind.ensures.tree ∙ ap (kind_tree {T = Unit}) whole.is ∙ call_tree {T = Unit} whole.fn_name whole.args ∙ ap (λ es. call (plain_name_of whole.fn_name) (trees (map (tree_of {T = Unit}) es))) (sym (c.as_slice.ensures.value ∙ ap (λ v. v.items) c.deref.ensures)) in
    subst (λ u. is_restricted u ≡ true → Leaves (node s (evaluated s c.args.deeper) u) c.called.result) (sym is) (c.called.ensures x a)

pub level-returns-in-Set : goal.level-returns-in-Set
level-returns-in-Set g t c = λ x a.
    let whole = c.in-Set in
    let s = with_functions x in
    let is = sym c.expr_kind.ensures.tree ∙ ap (kind_tree {T = Unit}) whole.is ∙ set_tree {T = Unit} whole.members ∙ ap (λ es. set_literal (trees (map (tree_of {T = Unit}) es))) (sym (c.as_slice-in-Set.ensures.value ∙ ap (λ v. v.items) c.deref-in-Set.ensures)) in
    subst (λ u. is_restricted u ≡ true → Leaves (node s (evaluated s c.args.deeper) u) c.set.result) (sym is) (c.set.ensures x a)

pub level-returns-in-Record : goal.level-returns-in-Record
level-returns-in-Record g t c = λ x a.
    let whole = c.in-Record in
    let s = with_functions x in
    let is = sym c.expr_kind.ensures.tree ∙ ap (kind_tree {T = Unit}) whole.is ∙ record_tree {T = Unit} whole.fields ∙ ap (λ m. record_literal (tree_fields (named (field_trees {T = Unit} m.entries)))) (sym c.deref-in-Record.ensures) in
    subst (λ u. is_restricted u ≡ true → Leaves (node s (evaluated s c.args.deeper) u) c.record.result) (sym is) (c.record.ensures x a)

pub walk-returns-then-limit-eq0 : goal.walk-returns-then-limit-eq0
walk-returns-then-limit-eq0 g t c = λ x a h q.
    let none : c.args.limit ≡ 0 = omega arith in
    at_limit (with_functions x) c.args.limit (tree_of c.args.e.now) none

pub walk-returns : goal.walk-returns
walk-returns g t c = λ x a h. subst (λ l. Leaves l c.level.result) (sym (one_level (with_functions x) c.args.limit (tree_of c.args.e.now) (tree_of c.args.e.now) (omega arith) refl)) (c.level.ensures x a h)

pub pieces-loop-e-init : goal.pieces-loop-e-init
pieces-loop-e-init g t c = λ x a h. starts _ (trees_in c.args.exprs.now) _ c.in_ok-values.values.items c.in_ok-values.ensures.items refl h

pub pieces-loop-e-preserved : goal.pieces-loop-e-preserved
pieces-loop-e-preserved g t c = λ x a h. on (evaluated (with_functions x) c.args.deeper) c.args.exprs.now c.loop-e.e-index c.loop-e.values.items (c.loop-e.invariant x a h) c.e-item.result _ c.push.new.self.items c.in_ok-walk.field-0 c.loop-e-test.true c.e-item.is (c.in_ok-walk.ensures x a) c.in_ok-push.ensures.items

pub pieces-returns : goal.pieces-returns
pieces-returns g t c = λ x a h. all (evaluated (with_functions x) c.args.deeper) c.args.exprs.now c.loop-e.e-index c.loop-e.values.items (c.loop-e.invariant x a h) c.loop-e-test.false

pub pieces-returns-in_err-walk : goal.pieces-returns-in_err-walk
pieces-returns-in_err-walk g t c = λ x a h.
    let go = evaluated (with_functions x) c.args.deeper in
    handed_on _ _ _ c.from_residual-in_err-walk.ensures.1 (λ q. off go c.args.exprs.now c.loop-e.e-index c.loop-e.values.items (c.loop-e.invariant x a h) c.e-item.result _ c.loop-e-test.true c.e-item.is (λ r. c.in_err-walk.ensures x a r q))

pub field_pieces-loop-e-init : goal.field_pieces-loop-e-init
field_pieces-loop-e-init g t c = λ x a h. fields_start _ c.args.fields.now.entries c.fields_of-left.result.left c.in_ok-values.values.items c.in_ok-values.ensures.items c.fields_of-left.ensures h

pub field_pieces-loop-e-preserved : goal.field_pieces-loop-e-preserved
field_pieces-loop-e-preserved g t c = λ x a h. field_on (evaluated (with_functions x) c.args.deeper) c.args.fields.now.entries c.loop-e.values.items c.loop-e.left.left (c.loop-e.invariant x a h) c.in-Some.e.now c.next_field.new.fields.left c.push.new.self.items c.in_ok-walk.field-0 c.in-Some.ensures (c.in_ok-walk.ensures x a) c.in_ok-push.ensures.items

pub field_pieces-returns-in_err-walk : goal.field_pieces-returns-in_err-walk
field_pieces-returns-in_err-walk g t c = λ x a h.
    let go = evaluated (with_functions x) c.args.deeper in
    handed_on _ _ _ c.from_residual-in_err-walk.ensures.1 (λ q. field_off go c.args.fields.now.entries c.loop-e.values.items c.loop-e.left.left (c.loop-e.invariant x a h) c.in-Some.e.now c.next_field.new.fields.left c.in-Some.ensures (λ r. c.in_err-walk.ensures x a r q))

pub field_pieces-returns : goal.field_pieces-returns
field_pieces-returns g t c = λ x a h. fields_all (evaluated (with_functions x) c.args.deeper) c.args.fields.now.entries c.loop-e.values.items c.loop-e.left.left (c.loop-e.invariant x a h) c.in_default.ensures

pub field_pieces-loop-e-smaller : goal.field_pieces-loop-e-smaller
field_pieces-loop-e-smaller g t c = fewer c.loop-e.left.left c.next_field.new.fields.left c.in-Some.e.now c.in-Some.ensures

pub called-returns-in_err-parts : goal.called-returns-in_err-parts
called-returns-in_err-parts g t c = λ x a h.
    let n = plain_name_of c.args.name.now in
    let p = pieces_of (evaluated (with_functions x) c.args.deeper) (listed (trees (map (tree_of {T = Unit}) c.args.args.now))) in
    passed_on (called_left (with_functions x) n) (λ us. call n (trees us)) p _ _ c.from_residual.ensures.1 (c.in_err-parts.ensures x a h)

pub record-returns-in_err-parts : goal.record-returns-in_err-parts
record-returns-in_err-parts g t c = λ x a h.
    let fs = listed_fields (tree_fields (named (field_trees {T = Unit} c.args.fields.now.entries))) in
    let p = pieces_of (evaluated (with_functions x) c.args.deeper) (values_of fs) in
    passed_on (λ ms. value_left (made_record (made_fields (zip (keys_of fs) ms)))) (λ ts. record_literal (tree_fields (zip (keys_of fs) ts))) p _ _ c.from_residual.ensures.1 (c.in_err-parts.ensures x a h)

pub set-returns-in_err-parts : goal.set-returns-in_err-parts
set-returns-in_err-parts g t c = λ x a h.
    let p = pieces_of (evaluated (with_functions x) c.args.deeper) (listed (trees (map (tree_of {T = Unit}) c.args.members.now))) in
    passed_on (λ ms. value_left (made_set (made_members ms))) (λ us. set_literal (trees us)) p _ _ c.from_residual.ensures.1 (c.in_err-parts.ensures x a h)
