use Rattle.std.proofs.Common.{rules, arith, map, sym, ap, ◌∙◌}
use Rattle.cedar_expr_model.specs.Builder.{trees, tree_fields}
use Rattle.cedar_expr_model.specs.Tree.{call, set_literal, record_literal}
use Rattle.cedar_expr_names.specs.Views.{plain_name_of}
use Rattle.cedar_expr_trees.specs.Trees.{tree_of, kind_tree, named, field_trees}
use Rattle.cedar_expr_trees.proofs.Trees.{call_tree, set_tree, record_tree}
use Rattle.cedar_expr_trees.proofs.Sizes.{arguments_are_smaller}
use Rattle.cedar_typechecker_environments.specs.Facts.{facts_of}
use Rattle.cedar_typechecker_environments.specs.Settings.{setting_of}
use Rattle.cedar_typechecker_model.specs.Typed.{choice_step}
use Rattle.cedar_typechecker_answers.specs.Answers.{seen}
use Rattle.cedar_typechecker_answers.specs.Steps.{choice_step_seen}
use Rattle.cedar_typechecker_operators.proofs.ByKind.{in_tree, both_go}
use Rattle.cedar_typechecker_answers.proofs.Copied.{one_more, all_made}
use Rattle.cedar_typechecker_operators.proofs.InRows.{row_on, row_stops, fields_on, fields_stop, fields_end, fields_in_order, rise_by_names}
use Rattle.cedar_typechecker_operators.proofs.Smaller.{members_are_smaller}
use Rattle.cedar_typechecker_operators.proofs.walk.+typing.Goals as goal

pub typecheck-typecheck_call-requires : goal.typecheck-typecheck_call-requires
typecheck-typecheck_call-requires g t c κs within =
    let made = c.in-ExtensionFunctionApp in
    let smaller = arguments_are_smaller {T = Unit} c.args.expr.now made.fn_name made.args c.as_slice.result.now (sym c.expr_kind.ensures.kind ∙ made.is) (c.as_slice.ensures.value ∙ ap (λ v. v.items) c.deref-in-ExtensionFunctionApp.ensures) in
    (omega (arith, smaller), search rules)

pub typecheck-typecheck_set-requires : goal.typecheck-typecheck_set-requires
typecheck-typecheck_set-requires g t c κs within =
    let made = c.in-Set in
    let smaller = members_are_smaller {T = Unit} c.args.expr.now made.members c.as_slice-in-Set.result.now (sym c.expr_kind.ensures.kind ∙ made.is) (c.as_slice-in-Set.ensures.value ∙ ap (λ v. v.items) c.deref-in-Set.ensures) in
    (omega (arith, smaller), search rules)

pub typecheck-returns-in-ExtensionFunctionApp : goal.typecheck-returns-in-ExtensionFunctionApp
typecheck-returns-in-ExtensionFunctionApp g t c =
    let made = c.in-ExtensionFunctionApp in
    let is = ap (λ es. call (plain_name_of made.fn_name) (trees (map (tree_of {T = Unit}) es))) (c.as_slice.ensures.value ∙ ap (λ v. v.items) c.deref-in-ExtensionFunctionApp.ensures) ∙ sym (call_tree {T = Unit} made.fn_name made.args) ∙ ap (kind_tree {T = Unit}) (sym made.is) ∙ c.expr_kind.ensures.tree in
    in_tree (setting_of g.S.DeclaredAttributes.schema g.S.TypingSchema.table c.args.world.now) (facts_of c.args.known.now) _ _ _ is c.typecheck_call.ensures

pub typecheck-returns-in-ExtHasAttr : goal.typecheck-returns-in-ExtHasAttr
typecheck-returns-in-ExtHasAttr g t c = in_tree (setting_of g.S.DeclaredAttributes.schema g.S.TypingSchema.table c.args.world.now) (facts_of c.args.known.now) _ _ _ (ap (kind_tree {T = Unit}) (sym c.in-ExtHasAttr.is) ∙ c.expr_kind.ensures.tree) c.typecheck_has_path.ensures

pub typecheck-returns-in-Set : goal.typecheck-returns-in-Set
typecheck-returns-in-Set g t c =
    let made = c.in-Set in
    let is = ap (λ es. set_literal (trees (map (tree_of {T = Unit}) es))) (c.as_slice-in-Set.ensures.value ∙ ap (λ v. v.items) c.deref-in-Set.ensures) ∙ sym (set_tree {T = Unit} made.members) ∙ ap (kind_tree {T = Unit}) (sym made.is) ∙ c.expr_kind.ensures.tree in
    in_tree (setting_of g.S.DeclaredAttributes.schema g.S.TypingSchema.table c.args.world.now) (facts_of c.args.known.now) _ _ _ is c.typecheck_set.ensures

pub typecheck-returns-in-Record : goal.typecheck-returns-in-Record
typecheck-returns-in-Record g t c =
    let made = c.in-Record in
    let is = ap (λ m. record_literal (tree_fields (named (field_trees {T = Unit} m.entries)))) c.deref-in-Record.ensures ∙ sym (record_tree {T = Unit} made.fields) ∙ ap (kind_tree {T = Unit}) (sym made.is) ∙ c.expr_kind.ensures.tree in
    in_tree (setting_of g.S.DeclaredAttributes.schema g.S.TypingSchema.table c.args.world.now) (facts_of c.args.known.now) _ _ _ is c.typecheck_record.ensures

pub typecheck_if-returns-in_ok-second-in-Both : goal.typecheck_if-returns-in_ok-second-in-Both
typecheck_if-returns-in_ok-second-in-Both g t c =
    both_go (setting_of g.S.DeclaredAttributes.schema g.S.TypingSchema.table c.args.world.now) (facts_of c.args.known.now) _ (tree_of {T = Unit} c.args.test.now) (tree_of {T = Unit} c.args.first.now) (tree_of {T = Unit} c.args.second.now) (seen c.in-Both.test) (seen c.in_ok-first-in-Both.first) (seen c.in_ok-second-in-Both.second) (facts_of c.in-Both.then)
    (ap choice_step_seen (sym c.in-Both.is) ∙ c.in_ok-choice_step.ensures ∙ ap (choice_step (facts_of c.args.known.now)) c.in_ok-tested.ensures) c.in_ok-first-in-Both.ensures c.in_ok-second-in-Both.ensures c.chosen_answer.ensures

pub typecheck_all-returns-in-Fail : goal.typecheck_all-returns-in-Fail
typecheck_all-returns-in-Fail g t c = row_stops (setting_of g.S.DeclaredAttributes.schema g.S.TypingSchema.table c.args.world.now) (facts_of c.args.known.now) c.args.exprs.now c.loop-e.e-index c.e-item.result _ c.loop-e.row.items c.loop-e-test.true c.e-item.is c.loop-e.invariant (ap seen (sym c.in-Fail.is) ∙ c.in_ok-expr_type.ensures)

pub typecheck_all-loop-e-preserved : goal.typecheck_all-loop-e-preserved
typecheck_all-loop-e-preserved g t c = row_on (setting_of g.S.DeclaredAttributes.schema g.S.TypingSchema.table c.args.world.now) (facts_of c.args.known.now) c.args.exprs.now c.loop-e.e-index c.e-item.result _ c.loop-e.row.items c.push.new.self.items c.in-Success.expr_type (facts_of c.in-Success.expr_capability) c.loop-e-test.true c.e-item.is c.loop-e.invariant (ap seen (sym c.in-Success.is) ∙ c.in_ok-expr_type.ensures) c.in_ok-push-in-Success.ensures.items

pub typecheck_fields-returns-in-Fail : goal.typecheck_fields-returns-in-Fail
typecheck_fields-returns-in-Fail g t c = fields_stop (setting_of g.S.DeclaredAttributes.schema g.S.TypingSchema.table c.args.world.now) (facts_of c.args.known.now) c.args.fields.now.entries c.loop-name.name-iterator c.next.new.self c.loop-name.row.items c.in-Some.name.now c.in-Some.e.now c.loop-name.invariant.typed c.in-Some.ensures.steps (ap seen (sym c.in-Fail.is) ∙ c.in_ok-expr_type.ensures)

pub typecheck_fields-loop-name-preserved : goal.typecheck_fields-loop-name-preserved
typecheck_fields-loop-name-preserved g t c = record {
  typed = fields_on (setting_of g.S.DeclaredAttributes.schema g.S.TypingSchema.table c.args.world.now) (facts_of c.args.known.now) c.args.fields.now.entries c.loop-name.name-iterator c.next.new.self c.loop-name.row.items c.push.new.self.items c.in-Some.name.now c.in_ok-clone-in-Success.field-0 c.in-Some.e.now c.in-Success.expr_type (facts_of c.in-Success.expr_capability) c.loop-name.invariant.typed c.in-Some.ensures.steps c.in_ok-push-in-Success.ensures.items (search rules) (ap seen (sym c.in-Success.is) ∙ c.in_ok-expr_type.ensures);
  names = one_more _ _ _ c.loop-name.row.items c.push.new.self.items c.loop-name.name-iterator c.next.new.self (c.in_ok-clone-in-Success.field-0, c.in-Success.expr_type) (c.in-Some.name.now, c.in-Some.e.now) c.loop-name.invariant.names c.in-Some.ensures.steps c.in_ok-push-in-Success.ensures.items (search rules);
}

pub typecheck_fields-returns : goal.typecheck_fields-returns
typecheck_fields-returns g t c =
    let rising = rise_by_names c.loop-name.row.items c.args.fields.now.entries (all_made _ _ _ c.loop-name.row.items c.loop-name.name-iterator c.loop-name.invariant.names c.in-None.ensures.steps.0) c.len.ensures.ordered in
    fields_in_order _ c.loop-name.row.items _ rising c.in_ok-field_map.ensures
    ∙ fields_end (setting_of g.S.DeclaredAttributes.schema g.S.TypingSchema.table c.args.world.now) (facts_of c.args.known.now) c.args.fields.now.entries c.loop-name.name-iterator c.loop-name.row.items c.loop-name.invariant.typed c.in-None.ensures.steps.0
