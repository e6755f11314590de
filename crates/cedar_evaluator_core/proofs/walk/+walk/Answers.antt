use Rattle.std.proofs.Common.{map, arith, rules, sym, ap, subst, refl, ◌∙◌}
use Rattle.std.specs.BTreeMap.{values}
use Rattle.std.specs.Rc.{rc_str_bytes}
use Rattle.cedar_expr_leaves.specs.Literals.{literal_of}
use Rattle.cedar_expr_leaves.specs.Operators.{unary_op_of, binary_op_of}
use Rattle.cedar_expr_leaves.specs.Patterns.{pattern_of}
use Rattle.cedar_expr_leaves.specs.Slots.{slot_of}
use Rattle.cedar_expr_leaves.specs.Variables.{var_of}
use Rattle.cedar_expr_names.specs.Views.{plain_name_of, type_name_of}
use Rattle.cedar_expr_model.specs.Builder.{trees, tree_fields}
use Rattle.cedar_expr_model.specs.Tree.{choice, both, either, unary, binary, call, get_attr, has_attr, has_path, like, is_type, set_literal, record_literal}
use Rattle.cedar_expr_trees.specs.Trees.{tree_of, kind_tree, named, field_trees}
use Rattle.cedar_expr_trees.proofs.Trees.{call_tree, set_tree, record_tree}
use Rattle.cedar_evaluator_model.specs.Steps.{best}
use Rattle.cedar_evaluator_errors.specs.Outcomes.{IsTree, Leaves}
use Rattle.cedar_evaluator_model.specs.Evaluation.{evaluated}
use Rattle.cedar_evaluator_operators.specs.Scopes.{scope_of}
use Rattle.std.specs.Prelude.{Some}
use Rattle.cedar_evaluator_core.proofs.Lent.{truth_lent}
use Rattle.cedar_evaluator_core.proofs.Levels.{one_level, at_zero}
use Rattle.cedar_evaluator_core.proofs.Gathered.{SoFar, trees_in, starts, says_nothing, on, off, all, field_on, field_off, fields_all, fewer}
use Rattle.cedar_evaluator_core.proofs.Nodes.{in_tree, literal_says, variable_says, slot_says, unknown_says, choice_stops, choice_holds, choice_fails, choice_open, choice_given_up, both_stops, both_holds, both_fails, both_open, either_stops, either_holds, either_fails, either_open}
use Rattle.cedar_evaluator_core.proofs.OneLevel.{unary_stops, unary_goes, like_stops, like_goes, type_stops, type_goes, test_stops, test_goes, path_stops, path_goes, get_stops, get_value, get_residual, field_stays, field_again, binary_stops, binary_right_stops, binary_goes, call_stops, call_goes, set_stops, set_goes, record_stops, record_goes}
use Rattle.cedar_evaluator_core.proofs.walk.+walk.Goals as goal

pub walk-returns-then-limit-eq0 : goal.walk-returns-then-limit-eq0
walk-returns-then-limit-eq0 g t c = record { leaves = λ fs s other m. at_zero (scope_of g.T.FunctionTable.table fs c.args.known.now) c.args.limit (tree_of {T = Unit} c.args.e.now) c.if-limit-eq0.true }

pub walk-returns : goal.walk-returns
walk-returns g t c = record { leaves = λ fs s. c.placed.ensures _ (subst (λ l. Leaves l c.level.result) (sym (one_level (scope_of g.T.FunctionTable.table fs c.args.known.now) _ _ _ (omega arith) c.expr_kind.ensures.tree)) (c.level.ensures.leaves fs s)) }

pub part-returns-in-Some-Truth : goal.part-returns-in-Some-Truth
part-returns-in-Some-Truth g t c = record { leaves = λ fs s. subst (λ l. Leaves l c.settled.result) (sym (truth_lent _ _ c.in-Some-Truth.b (ap Some c.in-Some-Truth.field-0-is) (c.in-Some-Truth.ensures.lends fs))) c.settled.ensures }

pub level-returns-in-Lit : goal.level-returns-in-Lit
level-returns-in-Lit g t c = in_tree g.T.FunctionTable.table g.T.FunctionTable.answers_as c.args.known.now c.args.deeper _ _ _ (ap (kind_tree {T = Unit}) c.in-Lit.is) (literal_says g.T.FunctionTable.table g.T.FunctionTable.answers_as c.args.known.now c.args.deeper _ (literal_of c.in-Lit.literal) c.literal_value.ensures)

pub level-returns-in-Var : goal.level-returns-in-Var
level-returns-in-Var g t c = in_tree g.T.FunctionTable.table g.T.FunctionTable.answers_as c.args.known.now c.args.deeper _ _ _ (ap (kind_tree {T = Unit}) c.in-Var.is) (variable_says g.T.FunctionTable.table g.T.FunctionTable.answers_as c.args.known.now c.args.deeper _ (var_of c.in-Var.v) c.variable.ensures)

pub level-returns-in-Slot : goal.level-returns-in-Slot
level-returns-in-Slot g t c = in_tree g.T.FunctionTable.table g.T.FunctionTable.answers_as c.args.known.now c.args.deeper _ _ _ (ap (kind_tree {T = Unit}) c.in-Slot.is) (slot_says g.T.FunctionTable.table g.T.FunctionTable.answers_as c.args.known.now c.args.deeper _ (slot_of c.in-Slot.s) c.slot.ensures)

pub level-returns-in-Unknown : goal.level-returns-in-Unknown
level-returns-in-Unknown g t c = in_tree g.T.FunctionTable.table g.T.FunctionTable.answers_as c.args.known.now c.args.deeper _ _ _ (ap (kind_tree {T = Unit}) c.in-Unknown.is) (unknown_says g.T.FunctionTable.table g.T.FunctionTable.answers_as c.args.known.now c.args.deeper _ _ _ c.unknown.ensures)

pub level-returns-in-If : goal.level-returns-in-If
level-returns-in-If g t c =
    let whole = c.in-If in
    let is = ap (kind_tree {T = Unit}) whole.is ∙ (λ i. choice (tree_of {T = Unit} (sym c.deref.ensures i)) (tree_of {T = Unit} (sym c.deref-in-If.ensures i)) (tree_of {T = Unit} (sym c.deref-in-If-2.ensures i))) in
    in_tree g.T.FunctionTable.table g.T.FunctionTable.answers_as c.args.known.now c.args.deeper _ _ _ is c.choice.ensures

pub level-returns-in-And : goal.level-returns-in-And
level-returns-in-And g t c =
    let whole = c.in-And in
    let is = ap (kind_tree {T = Unit}) whole.is ∙ (λ i. both (tree_of {T = Unit} (sym c.deref-in-And.ensures i)) (tree_of {T = Unit} (sym c.deref-in-And-2.ensures i))) in
    in_tree g.T.FunctionTable.table g.T.FunctionTable.answers_as c.args.known.now c.args.deeper _ _ _ is c.both.ensures

pub level-returns-in-Or : goal.level-returns-in-Or
level-returns-in-Or g t c =
    let whole = c.in-Or in
    let is = ap (kind_tree {T = Unit}) whole.is ∙ (λ i. either (tree_of {T = Unit} (sym c.deref-in-Or.ensures i)) (tree_of {T = Unit} (sym c.deref-in-Or-2.ensures i))) in
    in_tree g.T.FunctionTable.table g.T.FunctionTable.answers_as c.args.known.now c.args.deeper _ _ _ is c.either.ensures

pub level-returns-in-UnaryApp : goal.level-returns-in-UnaryApp
level-returns-in-UnaryApp g t c =
    let whole = c.in-UnaryApp in
    let is = ap (kind_tree {T = Unit}) whole.is ∙ (λ i. unary (unary_op_of whole.op) (tree_of {T = Unit} (sym c.deref-in-UnaryApp.ensures i))) in
    in_tree g.T.FunctionTable.table g.T.FunctionTable.answers_as c.args.known.now c.args.deeper _ _ _ is c.unary.ensures

pub level-returns-in-Like : goal.level-returns-in-Like
level-returns-in-Like g t c =
    let whole = c.in-Like in
    let is = ap (kind_tree {T = Unit}) whole.is ∙ (λ i. like (tree_of {T = Unit} (sym c.deref-in-Like.ensures i)) (pattern_of whole.pattern)) in
    in_tree g.T.FunctionTable.table g.T.FunctionTable.answers_as c.args.known.now c.args.deeper _ _ _ is c.like.ensures

pub level-returns-in-Is : goal.level-returns-in-Is
level-returns-in-Is g t c =
    let whole = c.in-Is in
    let is = ap (kind_tree {T = Unit}) whole.is ∙ (λ i. is_type (tree_of {T = Unit} (sym c.deref-in-Is.ensures i)) (type_name_of whole.entity_type)) in
    in_tree g.T.FunctionTable.table g.T.FunctionTable.answers_as c.args.known.now c.args.deeper _ _ _ is c.is_type.ensures

pub level-returns-in-BinaryApp : goal.level-returns-in-BinaryApp
level-returns-in-BinaryApp g t c =
    let whole = c.in-BinaryApp in
    let is = ap (kind_tree {T = Unit}) whole.is ∙ (λ i. binary (binary_op_of whole.op) (tree_of {T = Unit} (sym c.deref-in-BinaryApp.ensures i)) (tree_of {T = Unit} (sym c.deref-in-BinaryApp-2.ensures i))) in
    in_tree g.T.FunctionTable.table g.T.FunctionTable.answers_as c.args.known.now c.args.deeper _ _ _ is c.binary.ensures

pub level-returns-in-GetAttr : goal.level-returns-in-GetAttr
level-returns-in-GetAttr g t c =
    let whole = c.in-GetAttr in
    let is = ap (kind_tree {T = Unit}) whole.is ∙ (λ i. get_attr (tree_of {T = Unit} (sym c.deref-in-GetAttr.ensures i)) (rc_str_bytes whole.attr)) in
    in_tree g.T.FunctionTable.table g.T.FunctionTable.answers_as c.args.known.now c.args.deeper _ _ _ is c.attribute.ensures

pub level-returns-in-HasAttr : goal.level-returns-in-HasAttr
level-returns-in-HasAttr g t c =
    let whole = c.in-HasAttr in
    let is = ap (kind_tree {T = Unit}) whole.is ∙ (λ i. has_attr (tree_of {T = Unit} (sym c.deref-in-HasAttr.ensures i)) (rc_str_bytes whole.attr)) in
    in_tree g.T.FunctionTable.table g.T.FunctionTable.answers_as c.args.known.now c.args.deeper _ _ _ is c.has_attr.ensures

pub level-returns-in-ExtHasAttr : goal.level-returns-in-ExtHasAttr
level-returns-in-ExtHasAttr g t c =
    let whole = c.in-ExtHasAttr in
    let is = ap (kind_tree {T = Unit}) whole.is ∙ (λ i. has_path (tree_of {T = Unit} (sym c.deref-in-ExtHasAttr.ensures i)) (rc_str_bytes whole.attrs.value.head) (map rc_str_bytes whole.attrs.value.tail.items)) in
    in_tree g.T.FunctionTable.table g.T.FunctionTable.answers_as c.args.known.now c.args.deeper _ _ _ is c.has_path.ensures

pub level-returns-in-ExtensionFunctionApp : goal.level-returns-in-ExtensionFunctionApp
level-returns-in-ExtensionFunctionApp g t c =
    let whole = c.in-ExtensionFunctionApp in
    let is = ap (kind_tree {T = Unit}) whole.is ∙ call_tree {T = Unit} whole.fn_name whole.args ∙ ap (λ es. call (plain_name_of whole.fn_name) (trees (map (tree_of {T = Unit}) es))) (sym c.members_of.ensures) in
    in_tree g.T.FunctionTable.table g.T.FunctionTable.answers_as c.args.known.now c.args.deeper _ _ _ is c.called.ensures

pub level-returns-in-Set : goal.level-returns-in-Set
level-returns-in-Set g t c =
    let whole = c.in-Set in
    let is = ap (kind_tree {T = Unit}) whole.is ∙ set_tree {T = Unit} whole.members ∙ ap (λ es. set_literal (trees (map (tree_of {T = Unit}) es))) (sym c.members_of-in-Set.ensures) in
    in_tree g.T.FunctionTable.table g.T.FunctionTable.answers_as c.args.known.now c.args.deeper _ _ _ is c.set.ensures

pub level-returns-in-Record : goal.level-returns-in-Record
level-returns-in-Record g t c =
    let whole = c.in-Record in
    let is = ap (kind_tree {T = Unit}) whole.is ∙ record_tree {T = Unit} whole.fields ∙ ap (λ m. record_literal (tree_fields (named (field_trees {T = Unit} m.entries)))) (sym c.deref-in-Record.ensures) in
    in_tree g.T.FunctionTable.table g.T.FunctionTable.answers_as c.args.known.now c.args.deeper _ _ _ is c.record.ensures

pub unary-returns-in-Err : goal.unary-returns-in-Err
unary-returns-in-Err g t c = unary_stops g.T.FunctionTable.table g.T.FunctionTable.answers_as c.args.known.now c.args.deeper _ _ (unary_op_of c.args.op) _ c.in-Err.ensures refl

pub unary-returns-in-Ok : goal.unary-returns-in-Ok
unary-returns-in-Ok g t c = unary_goes g.T.FunctionTable.table g.T.FunctionTable.answers_as c.args.known.now c.args.deeper _ _ (unary_op_of c.args.op) _ c.in-Ok.ensures c.unary_left.ensures

pub like-returns-in-Err : goal.like-returns-in-Err
like-returns-in-Err g t c = like_stops g.T.FunctionTable.table g.T.FunctionTable.answers_as c.args.known.now c.args.deeper _ _ (pattern_of c.args.pattern.now) _ c.in-Err.ensures refl

pub like-returns-in-Ok : goal.like-returns-in-Ok
like-returns-in-Ok g t c = like_goes g.T.FunctionTable.table g.T.FunctionTable.answers_as c.args.known.now c.args.deeper _ _ (pattern_of c.args.pattern.now) _ c.in-Ok.ensures c.like_left.ensures

pub is_type-returns-in-Err : goal.is_type-returns-in-Err
is_type-returns-in-Err g t c = type_stops g.T.FunctionTable.table g.T.FunctionTable.answers_as c.args.known.now c.args.deeper _ _ (type_name_of c.args.kind.now) _ c.in-Err.ensures refl

pub is_type-returns-in-Ok : goal.is_type-returns-in-Ok
is_type-returns-in-Ok g t c = type_goes g.T.FunctionTable.table g.T.FunctionTable.answers_as c.args.known.now c.args.deeper _ _ (type_name_of c.args.kind.now) _ c.in-Ok.ensures c.is_left.ensures

pub has_attr-returns-in-Err : goal.has_attr-returns-in-Err
has_attr-returns-in-Err g t c = test_stops g.T.FunctionTable.table g.T.FunctionTable.answers_as c.args.known.now c.args.deeper _ _ (rc_str_bytes c.args.attr.now) _ c.in-Err.ensures refl

pub has_attr-returns-in-Ok : goal.has_attr-returns-in-Ok
has_attr-returns-in-Ok g t c = test_goes g.T.FunctionTable.table g.T.FunctionTable.answers_as c.args.known.now c.args.deeper _ _ (rc_str_bytes c.args.attr.now) _ c.in-Ok.ensures c.tested.ensures

pub has_path-returns-in-Err : goal.has_path-returns-in-Err
has_path-returns-in-Err g t c = path_stops g.T.FunctionTable.table g.T.FunctionTable.answers_as c.args.known.now c.args.deeper _ _ (rc_str_bytes c.args.attrs.now.value.head) (map rc_str_bytes c.args.attrs.now.value.tail.items) _ c.in-Err.ensures refl

pub has_path-returns-in-Ok : goal.has_path-returns-in-Ok
has_path-returns-in-Ok g t c = path_goes g.T.FunctionTable.table g.T.FunctionTable.answers_as c.args.known.now c.args.deeper _ _ (rc_str_bytes c.args.attrs.now.value.head) (map rc_str_bytes c.args.attrs.now.value.tail.items) _ c.in-Ok.ensures c.path_left.ensures

pub binary-returns-in-Err : goal.binary-returns-in-Err
binary-returns-in-Err g t c = binary_stops g.T.FunctionTable.table g.T.FunctionTable.answers_as c.args.known.now c.args.deeper (binary_op_of c.args.op) _ (tree_of {T = Unit} c.args.second.now) _ _ c.in-Err.ensures refl

pub binary-returns-in-Err-walk : goal.binary-returns-in-Err-walk
binary-returns-in-Err-walk g t c = binary_right_stops g.T.FunctionTable.table g.T.FunctionTable.answers_as c.args.known.now c.args.deeper (binary_op_of c.args.op) _ _ _ _ c.in-Ok.ensures _ c.in-Err-walk.ensures refl

pub binary-returns-in-Ok-walk : goal.binary-returns-in-Ok-walk
binary-returns-in-Ok-walk g t c = binary_goes g.T.FunctionTable.table g.T.FunctionTable.answers_as c.args.known.now c.args.deeper (binary_op_of c.args.op) _ _ _ g.T.FunctionTable.ordered_types_in (λ fs. g.met.T.FunctionTable.orders c.args.known.now.table.now fs.answers) _ _ c.in-Ok.ensures c.in-Ok-walk.ensures c.binary_left.ensures

pub choice-returns-in-Holds : goal.choice-returns-in-Holds
choice-returns-in-Holds g t c = choice_holds g.T.FunctionTable.table g.T.FunctionTable.answers_as c.args.known.now c.args.deeper (tree_of {T = Unit} c.args.test.now) (tree_of {T = Unit} c.args.first.now) (tree_of {T = Unit} c.args.last.now) _ c.part.ensures _ c.in-Holds.ensures c.walk.ensures

pub choice-returns-in-Fails : goal.choice-returns-in-Fails
choice-returns-in-Fails g t c = choice_fails g.T.FunctionTable.table g.T.FunctionTable.answers_as c.args.known.now c.args.deeper (tree_of {T = Unit} c.args.test.now) (tree_of {T = Unit} c.args.first.now) (tree_of {T = Unit} c.args.last.now) _ c.part.ensures _ c.in-Fails.ensures c.walk-in-Fails.ensures

pub choice-returns-in-Ok : goal.choice-returns-in-Ok
choice-returns-in-Ok g t c = choice_open g.T.FunctionTable.table g.T.FunctionTable.answers_as c.args.known.now c.args.deeper (tree_of {T = Unit} c.args.test.now) (tree_of {T = Unit} c.args.first.now) (tree_of {T = Unit} c.args.last.now) _ c.part.ensures _ c.in-Open.r _ c.in-Open.ensures c.in-Ok.ensures _ c.attempt-in-Ok.ensures c.choice_stays.ensures

pub choice-returns-in-Err : goal.choice-returns-in-Err
choice-returns-in-Err g t c = choice_given_up g.T.FunctionTable.table g.T.FunctionTable.answers_as c.args.known.now c.args.deeper (tree_of {T = Unit} c.args.test.now) (tree_of {T = Unit} c.args.first.now) (tree_of {T = Unit} c.args.last.now) _ c.part.ensures c.in-Open.r _ c.in-Open.ensures c.in-Err.ensures

pub choice-returns-in-Stops : goal.choice-returns-in-Stops
choice-returns-in-Stops g t c = choice_stops g.T.FunctionTable.table g.T.FunctionTable.answers_as c.args.known.now c.args.deeper (tree_of {T = Unit} c.args.test.now) (tree_of {T = Unit} c.args.first.now) (tree_of {T = Unit} c.args.last.now) _ c.part.ensures _ c.in-Stops.ensures

pub both-returns-in-Fails : goal.both-returns-in-Fails
both-returns-in-Fails g t c = both_fails g.T.FunctionTable.table g.T.FunctionTable.answers_as c.args.known.now c.args.deeper (tree_of {T = Unit} c.args.left.now) (tree_of {T = Unit} c.args.right.now) _ c.part.ensures _ c.in-Fails.ensures c.settled.ensures

pub both-returns-in-Open : goal.both-returns-in-Open
both-returns-in-Open g t c = both_open g.T.FunctionTable.table g.T.FunctionTable.answers_as c.args.known.now c.args.deeper (tree_of {T = Unit} c.args.left.now) (tree_of {T = Unit} c.args.right.now) _ c.part.ensures _ c.in-Open.r c.in-Open.ensures _ c.attempt.ensures c.and_stays.ensures

pub both-returns-in-Stops : goal.both-returns-in-Stops
both-returns-in-Stops g t c = both_stops g.T.FunctionTable.table g.T.FunctionTable.answers_as c.args.known.now c.args.deeper (tree_of {T = Unit} c.args.left.now) (tree_of {T = Unit} c.args.right.now) _ c.part.ensures _ c.in-Stops.ensures

pub both-returns-in-Holds : goal.both-returns-in-Holds
both-returns-in-Holds g t c = both_holds g.T.FunctionTable.table g.T.FunctionTable.answers_as c.args.known.now c.args.deeper (tree_of {T = Unit} c.args.left.now) (tree_of {T = Unit} c.args.right.now) _ c.part.ensures _ c.in-Holds.ensures _ c.part-in-Holds.ensures c.and_after.ensures

pub either-returns-in-Holds : goal.either-returns-in-Holds
either-returns-in-Holds g t c = either_holds g.T.FunctionTable.table g.T.FunctionTable.answers_as c.args.known.now c.args.deeper (tree_of {T = Unit} c.args.left.now) (tree_of {T = Unit} c.args.right.now) _ c.part.ensures _ c.in-Holds.ensures c.settled.ensures

pub either-returns-in-Open : goal.either-returns-in-Open
either-returns-in-Open g t c = either_open g.T.FunctionTable.table g.T.FunctionTable.answers_as c.args.known.now c.args.deeper (tree_of {T = Unit} c.args.left.now) (tree_of {T = Unit} c.args.right.now) _ c.part.ensures _ c.in-Open.r c.in-Open.ensures _ c.attempt.ensures c.or_stays.ensures

pub either-returns-in-Stops : goal.either-returns-in-Stops
either-returns-in-Stops g t c = either_stops g.T.FunctionTable.table g.T.FunctionTable.answers_as c.args.known.now c.args.deeper (tree_of {T = Unit} c.args.left.now) (tree_of {T = Unit} c.args.right.now) _ c.part.ensures _ c.in-Stops.ensures

pub either-returns-in-Fails : goal.either-returns-in-Fails
either-returns-in-Fails g t c = either_fails g.T.FunctionTable.table g.T.FunctionTable.answers_as c.args.known.now c.args.deeper (tree_of {T = Unit} c.args.left.now) (tree_of {T = Unit} c.args.right.now) _ c.part.ensures _ c.in-Fails.ensures _ c.part-in-Fails.ensures c.or_after.ensures

pub called-returns-in-Err : goal.called-returns-in-Err
called-returns-in-Err g t c = call_stops g.T.FunctionTable.table g.T.FunctionTable.answers_as c.args.known.now c.args.deeper _ _ _ _ c.in-Err.ensures refl

pub called-returns-in-Ok : goal.called-returns-in-Ok
called-returns-in-Ok g t c = call_goes g.T.FunctionTable.table g.T.FunctionTable.answers_as c.args.known.now c.args.deeper _ _ _ _ c.in-Ok.ensures c.call_left.ensures

pub set-returns-in-Err : goal.set-returns-in-Err
set-returns-in-Err g t c = set_stops g.T.FunctionTable.table g.T.FunctionTable.answers_as c.args.known.now c.args.deeper _ _ _ c.in-Err.ensures refl

pub set-returns-in-Ok : goal.set-returns-in-Ok
set-returns-in-Ok g t c = set_goes g.T.FunctionTable.table g.T.FunctionTable.answers_as c.args.known.now c.args.deeper _ _ _ c.in-Ok.ensures c.set_left.ensures

pub record-returns-in-Err : goal.record-returns-in-Err
record-returns-in-Err g t c = record_stops g.T.FunctionTable.table g.T.FunctionTable.answers_as c.args.known.now c.args.deeper _ _ _ c.in-Err.ensures refl

pub record-returns-in-Ok : goal.record-returns-in-Ok
record-returns-in-Ok g t c = record_goes g.T.FunctionTable.table g.T.FunctionTable.answers_as c.args.known.now c.args.deeper _ _ _ c.in-Ok.ensures c.record_left.ensures

pub pieces-loop-e-init : goal.pieces-loop-e-init
pieces-loop-e-init g t c = λ fs h. starts (evaluated (scope_of g.T.FunctionTable.table fs c.args.known.now) c.args.deeper) (trees_in c.args.exprs.now) _ c.in_ok-parts.ensures.empty

pub pieces-loop-e-preserved : goal.pieces-loop-e-preserved
pieces-loop-e-preserved g t c = λ fs h. on (evaluated (scope_of g.T.FunctionTable.table fs c.args.known.now) c.args.deeper) c.args.exprs.now c.loop-e.e-index c.loop-e.parts.items (c.loop-e.invariant fs h) c.e-item.result _ c.in_ok-parts-2.parts c.loop-e-test.true c.e-item.is (c.in_ok-parts-2.ensures _ (c.walk.ensures.leaves fs h))

pub pieces-returns : goal.pieces-returns
pieces-returns g t c = record { leaves = λ fs h. all (evaluated (scope_of g.T.FunctionTable.table fs c.args.known.now) c.args.deeper) c.args.exprs.now c.loop-e.e-index c.loop-e.parts.items (c.loop-e.invariant fs h) c.loop-e-test.false }

pub pieces-returns-in_err-parts : goal.pieces-returns-in_err-parts
pieces-returns-in_err-parts g t c = record { leaves = λ fs h. says_nothing _ _ _ c.in_err-parts.ensures.memory c.from_residual.ensures.1 }

pub pieces-returns-in_err-parts-2 : goal.pieces-returns-in_err-parts-2
pieces-returns-in_err-parts-2 g t c = record { leaves = λ fs h. off (evaluated (scope_of g.T.FunctionTable.table fs c.args.known.now) c.args.deeper) c.args.exprs.now c.loop-e.e-index c.loop-e.parts.items (c.loop-e.invariant fs h) c.e-item.result _ _ _ c.loop-e-test.true c.e-item.is (c.in_err-parts-2.ensures _ (c.walk.ensures.leaves fs h)) c.from_residual-in_err-parts-2.ensures.1 }

pub field_pieces-loop-e-init : goal.field_pieces-loop-e-init
field_pieces-loop-e-init g t c = λ fs h. subst (λ es. SoFar (evaluated (scope_of g.T.FunctionTable.table fs c.args.known.now) c.args.deeper) (trees_in (values c.args.fields.now)) c.in_ok-parts.parts.items (trees_in es)) (sym c.fields_of-left.ensures) (starts (evaluated (scope_of g.T.FunctionTable.table fs c.args.known.now) c.args.deeper) (trees_in (values c.args.fields.now)) c.in_ok-parts.parts.items c.in_ok-parts.ensures.empty)

pub field_pieces-loop-e-preserved : goal.field_pieces-loop-e-preserved
field_pieces-loop-e-preserved g t c = λ fs h. field_on (evaluated (scope_of g.T.FunctionTable.table fs c.args.known.now) c.args.deeper) c.args.fields.now.entries c.loop-e.parts.items c.loop-e.left.left (c.loop-e.invariant fs h) c.in-Some.e.now c.next_field.new.fields.left c.in_ok-parts-2.parts c.in-Some.ensures (c.in_ok-parts-2.ensures _ (c.walk.ensures.leaves fs h))

pub field_pieces-loop-e-smaller : goal.field_pieces-loop-e-smaller
field_pieces-loop-e-smaller g t c = fewer c.loop-e.left.left c.next_field.new.fields.left c.in-Some.e.now c.in-Some.ensures

pub field_pieces-returns-in_err-parts : goal.field_pieces-returns-in_err-parts
field_pieces-returns-in_err-parts g t c = record { leaves = λ fs h. says_nothing _ _ _ c.in_err-parts.ensures.memory c.from_residual.ensures.1 }

pub field_pieces-returns-in_err-parts-2 : goal.field_pieces-returns-in_err-parts-2
field_pieces-returns-in_err-parts-2 g t c = record { leaves = λ fs h. field_off (evaluated (scope_of g.T.FunctionTable.table fs c.args.known.now) c.args.deeper) c.args.fields.now.entries c.loop-e.parts.items c.loop-e.left.left (c.loop-e.invariant fs h) c.in-Some.e.now c.next_field.new.fields.left _ _ c.in-Some.ensures (c.in_err-parts-2.ensures _ (c.walk.ensures.leaves fs h)) c.from_residual-in_err-parts-2.ensures.1 }

pub field_pieces-returns : goal.field_pieces-returns
field_pieces-returns g t c = record { leaves = λ fs h. fields_all (evaluated (scope_of g.T.FunctionTable.table fs c.args.known.now) c.args.deeper) c.args.fields.now.entries c.loop-e.parts.items c.loop-e.left.left (c.loop-e.invariant fs h) c.in_default.ensures }

pub attribute-returns-in_err-v : goal.attribute-returns-in_err-v
attribute-returns-in_err-v g t c = get_stops g.T.FunctionTable.table g.T.FunctionTable.answers_as c.args.known.now c.args.deeper (tree_of {T = Unit} c.args.e.now) _ (rc_str_bytes c.args.attr.now) _ c.in_err-v.ensures c.from_residual.ensures.1

pub attribute-returns-in-Value : goal.attribute-returns-in-Value
attribute-returns-in-Value g t c = get_value g.T.FunctionTable.table g.T.FunctionTable.answers_as c.args.known.now c.args.deeper (tree_of {T = Unit} c.args.e.now) _ (rc_str_bytes c.args.attr.now) _ c.in_ok-v.ensures _ c.in-Value.is c.attribute.ensures

pub attribute-returns-in-Residual : goal.attribute-returns-in-Residual
attribute-returns-in-Residual g t c = get_residual g.T.FunctionTable.table g.T.FunctionTable.answers_as c.args.known.now c.args.deeper (tree_of {T = Unit} c.args.e.now) _ (rc_str_bytes c.args.attr.now) _ c.in_ok-v.ensures _ c.in-Residual.is c.attribute_left.ensures

pub attribute_left-returns-in-None : goal.attribute_left-returns-in-None
attribute_left-returns-in-None g t c = field_stays g.T.FunctionTable.table g.T.FunctionTable.answers_as c.args.known.now c.args.deeper (rc_str_bytes c.args.attr.now) (tree_of {T = Unit} c.args.r.now) _ c.in-None.ensures.0 c.get_of.ensures

pub attribute_left-returns-then-is_projectable : goal.attribute_left-returns-then-is_projectable
attribute_left-returns-then-is_projectable g t c = field_again g.T.FunctionTable.table g.T.FunctionTable.answers_as c.args.known.now c.args.deeper (rc_str_bytes c.args.attr.now) (tree_of {T = Unit} c.args.r.now) _ _ c.in-Some.ensures _ (search rules) (search rules) c.walk.ensures

pub attempt-returns-in-Ok : goal.attempt-returns-in-Ok
attempt-returns-in-Ok g t c = record { leaves = λ fs s. subst (λ l. IsTree (best (tree_of {T = Unit} c.args.e.now) l) c.expr_of.result) (sym (c.in-Ok.ensures.leaves fs s)) (c.expr_of.ensures (tree_of {T = Unit} c.args.e.now)) }

pub attempt-returns-in-Err : goal.attempt-returns-in-Err
attempt-returns-in-Err g t c = record { leaves = λ fs s. c.given_up.ensures _ (c.in-Err.ensures.leaves fs s) }
