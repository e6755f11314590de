use Rattle.std.proofs.Common.{rules, arith, refl, sym, ap, ◌∙◌, map}
use Rattle.cedar_expr_names.specs.Views.{plain_name_of}
use Rattle.cedar_expr_model.specs.Builder.{trees, tree_fields}
use Rattle.cedar_expr_model.specs.Tree.{call, set_literal, record_literal}
use Rattle.cedar_expr_trees.specs.Trees.{tree_of, kind_tree, named, field_trees}
use Rattle.cedar_expr_trees.proofs.Sizes.{arguments_are_smaller}
use Rattle.cedar_expr_trees.proofs.Trees.{call_tree, set_tree, record_tree}
use Rattle.cedar_typechecker_answers.proofs.Copied.{one_more, all_made, drop_here, none_left, named_trees}
use Rattle.cedar_gate_places.proofs.Copying.{copied_fields}
use Rattle.cedar_gate_places.proofs.places.+placed.Goals as goal

pub placed-parts-requires : goal.placed-parts-requires
placed-parts-requires t c =
    let made = c.in-ExtensionFunctionApp in
    let smaller = arguments_are_smaller {T = Unit} c.args.expr.now made.fn_name made.args c.as_slice.result.now (sym c.expr_kind.ensures.kind ∙ made.is) (c.as_slice.ensures.value ∙ ap (λ v. v.items) c.deref-in-ExtensionFunctionApp.ensures) in
    (omega (arith, smaller), tt)

pub parts-loop-e-preserved : goal.parts-loop-e-preserved
parts-loop-e-preserved t c =
    let es = c.args.exprs.now in
    let here = drop_here es c.loop-e.e-index c.e-item.result _ c.loop-e-test.true c.e-item.is in
    one_more _ _ _ c.loop-e.all.items c.push.new.self.items _ _ c.in_ok-placed.field-0 c.e-item.result c.loop-e.invariant here c.in_ok-push.ensures.items c.in_ok-placed.ensures

pub parts-returns : goal.parts-returns
parts-returns t c = all_made _ _ _ c.loop-e.all.items _ c.loop-e.invariant (none_left c.args.exprs.now c.loop-e.e-index (omega (arith, c.loop-e-test.false)))

pub fields_placed-loop-name-preserved : goal.fields_placed-loop-name-preserved
fields_placed-loop-name-preserved t c =
    one_more _ _ _ c.loop-name.all.items c.push.new.self.items c.loop-name.name-iterator c.next.new.self (c.in_ok-clone-2.field-0, c.in_ok-placed.field-0) (c.in-Some.name.now, c.in-Some.e.now) c.loop-name.invariant c.in-Some.ensures.steps c.in_ok-push.ensures.items (search rules)

pub fields_placed-returns : goal.fields_placed-returns
fields_placed-returns t c =
    let trees = all_made _ _ _ c.loop-name.all.items c.loop-name.name-iterator c.loop-name.invariant c.in-None.ensures.steps.0 in
    copied_fields c.loop-name.all.items c.args.fields.now.entries c.field_map.result trees c.len.ensures.ordered c.field_map.ensures

pub placed-returns-in_ok-call-in-ExtensionFunctionApp : goal.placed-returns-in_ok-call-in-ExtensionFunctionApp
placed-returns-in_ok-call-in-ExtensionFunctionApp t c =
    let whole = c.in-ExtensionFunctionApp in
    let is =
    sym c.expr_kind.ensures.tree
    ∙ ap (kind_tree {T = Unit}) whole.is
    ∙ call_tree {T = Unit} whole.fn_name whole.args
    ∙ ap (λ es. call (plain_name_of whole.fn_name) (trees (map (tree_of {T = Unit}) es))) (sym (c.as_slice.ensures.value ∙ ap (λ v. v.items) c.deref-in-ExtensionFunctionApp.ensures)) in
    c.with_maybe_source_loc.ensures.tree
    ∙ c.in_ok-call-in-ExtensionFunctionApp.ensures.tree
    ∙ ap (λ n. call n (trees (map tree_of c.in_ok-args-in-ExtensionFunctionApp.args.items))) (search rules)
    ∙ ap (λ ts. call (plain_name_of whole.fn_name) (trees ts)) c.in_ok-args-in-ExtensionFunctionApp.ensures
    ∙ sym is

pub placed-returns-in_ok-set-in-Set : goal.placed-returns-in_ok-set-in-Set
placed-returns-in_ok-set-in-Set t c =
    let whole = c.in-Set in
    let is =
    sym c.expr_kind.ensures.tree
    ∙ ap (kind_tree {T = Unit}) whole.is
    ∙ set_tree {T = Unit} whole.members
    ∙ ap (λ es. set_literal (trees (map (tree_of {T = Unit}) es))) (sym (c.as_slice-in-Set.ensures.value ∙ ap (λ v. v.items) c.deref-in-Set.ensures)) in
    c.with_maybe_source_loc-in-Set.ensures.tree ∙ c.in_ok-set-in-Set.ensures.tree ∙ ap (λ ts. set_literal (trees ts)) c.in_ok-members-in-Set.ensures ∙ sym is

pub placed-returns-in_ok-new-in-Record : goal.placed-returns-in_ok-new-in-Record
placed-returns-in_ok-new-in-Record t c =
    let es = c.deref-in-Record.result.now.entries in
    let made = c.in_ok-fields-in-Record.fields.entries in
    let is =
    sym c.expr_kind.ensures.tree
    ∙ ap (kind_tree {T = Unit}) c.in-Record.is
    ∙ record_tree {T = Unit} c.in-Record.fields
    ∙ ap (λ m. record_literal (tree_fields (named (field_trees {T = Unit} m.entries)))) (sym c.deref-in-Record.ensures) in
    c.with_maybe_source_loc-in-Record.ensures.tree
    ∙ c.record_arc-record.ensures.tree
    ∙ ap (λ m. record_literal (tree_fields (named (field_trees {T = Unit} m.entries)))) c.in_ok-new-in-Record.ensures.ok
    ∙ ap (λ ps. record_literal (tree_fields ps)) (named_trees made ∙ c.in_ok-fields-in-Record.ensures ∙ sym (named_trees es))
    ∙ sym is
