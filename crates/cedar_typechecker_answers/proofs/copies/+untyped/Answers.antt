use Rattle.std.proofs.Common.{rules, arith, refl, sym, ap, ◌∙◌, map, None}
use Rattle.cedar_expr_names.specs.Views.{plain_name_of}
use Rattle.cedar_expr_model.specs.Builder.{trees, tree_fields}
use Rattle.cedar_expr_model.specs.Tree.{call, set_literal, record_literal}
use Rattle.cedar_expr_trees.specs.Trees.{tree_of, kind_tree, named, field_trees}
use Rattle.cedar_expr_trees.proofs.Sizes.{arguments_are_smaller}
use Rattle.cedar_expr_trees.proofs.Trees.{call_tree, set_tree, record_tree}
use Rattle.cedar_typechecker_model.specs.Typed.{blank, mark}
use Rattle.cedar_typechecker_answers.specs.Marked.{marks_of, rows, named_tree}
use Rattle.cedar_typechecker_answers.proofs.Copied.{one_more, all_made, drop_here, none_left, blanks_are, field_blanks_are, named_trees}
use Rattle.cedar_typechecker_answers.proofs.Fields.{trees_in_map, marks_in_map}
use Rattle.cedar_typechecker_answers.proofs.copies.+untyped.Goals as goal

pub untyped-untyped_all-requires : goal.untyped-untyped_all-requires
untyped-untyped_all-requires t c =
    let made = c.in-ExtensionFunctionApp in
    let smaller = arguments_are_smaller {T = Unit} c.args.expr.now made.fn_name made.args c.as_slice.result.now (sym c.expr_kind.ensures.kind ∙ made.is) (c.as_slice.ensures.value ∙ ap (λ v. v.items) c.deref-in-ExtensionFunctionApp.ensures) in
    (omega (arith, smaller), tt)

pub untyped-returns-in_ok-call_kind-in-ExtensionFunctionApp-clause-tree : goal.untyped-returns-in_ok-call_kind-in-ExtensionFunctionApp-clause-tree
untyped-returns-in_ok-call_kind-in-ExtensionFunctionApp-clause-tree t c =
    let whole = c.in-ExtensionFunctionApp in
    let is =
    sym c.expr_kind.ensures.tree
    ∙ ap (kind_tree {T = Unit}) whole.is
    ∙ call_tree {T = Unit} whole.fn_name whole.args
    ∙ ap (λ es. call (plain_name_of whole.fn_name) (trees (map (tree_of {T = Unit}) es))) (sym (c.as_slice.ensures.value ∙ ap (λ v. v.items) c.deref-in-ExtensionFunctionApp.ensures)) in
    c.of_kind-in-ExtensionFunctionApp.ensures.tree
    ∙ c.in_ok-call_kind-in-ExtensionFunctionApp.ensures.tree
    ∙ ap (λ n. call n (trees (map tree_of c.in_ok-args-in-ExtensionFunctionApp.args.items))) (search rules)
    ∙ ap (λ ts. call (plain_name_of whole.fn_name) (trees ts)) c.in_ok-args-in-ExtensionFunctionApp.ensures.trees
    ∙ sym is

pub untyped-returns-in_ok-call_kind-in-ExtensionFunctionApp-clause-blank : goal.untyped-returns-in_ok-call_kind-in-ExtensionFunctionApp-clause-blank
untyped-returns-in_ok-call_kind-in-ExtensionFunctionApp-clause-blank t c =
    let whole = c.in-ExtensionFunctionApp in
    let is =
    sym c.expr_kind.ensures.tree
    ∙ ap (kind_tree {T = Unit}) whole.is
    ∙ call_tree {T = Unit} whole.fn_name whole.args
    ∙ ap (λ es. call (plain_name_of whole.fn_name) (trees (map (tree_of {T = Unit}) es))) (sym (c.as_slice.ensures.value ∙ ap (λ v. v.items) c.deref-in-ExtensionFunctionApp.ensures)) in
    c.of_kind-in-ExtensionFunctionApp.ensures.blank
    ∙ ap (mark None) (c.in_ok-call_kind-in-ExtensionFunctionApp.ensures.marks ∙ ap rows c.in_ok-args-in-ExtensionFunctionApp.ensures.blank ∙ blanks_are c.as_slice.result.now)
    ∙ ap blank (sym is)

pub untyped-returns-in_ok-set_kind-in-Set-clause-tree : goal.untyped-returns-in_ok-set_kind-in-Set-clause-tree
untyped-returns-in_ok-set_kind-in-Set-clause-tree t c =
    let whole = c.in-Set in
    let is =
    sym c.expr_kind.ensures.tree
    ∙ ap (kind_tree {T = Unit}) whole.is
    ∙ set_tree {T = Unit} whole.members
    ∙ ap (λ es. set_literal (trees (map (tree_of {T = Unit}) es))) (sym (c.as_slice-in-Set.ensures.value ∙ ap (λ v. v.items) c.deref-in-Set.ensures)) in
    c.of_kind-in-Set.ensures.tree ∙ c.in_ok-set_kind-in-Set.ensures.tree ∙ ap (λ ts. set_literal (trees ts)) c.in_ok-members-in-Set.ensures.trees ∙ sym is

pub untyped-returns-in_ok-set_kind-in-Set-clause-blank : goal.untyped-returns-in_ok-set_kind-in-Set-clause-blank
untyped-returns-in_ok-set_kind-in-Set-clause-blank t c =
    let whole = c.in-Set in
    let is =
    sym c.expr_kind.ensures.tree
    ∙ ap (kind_tree {T = Unit}) whole.is
    ∙ set_tree {T = Unit} whole.members
    ∙ ap (λ es. set_literal (trees (map (tree_of {T = Unit}) es))) (sym (c.as_slice-in-Set.ensures.value ∙ ap (λ v. v.items) c.deref-in-Set.ensures)) in
    c.of_kind-in-Set.ensures.blank
    ∙ ap (mark None) (c.in_ok-set_kind-in-Set.ensures.marks ∙ ap rows c.in_ok-members-in-Set.ensures.blank ∙ blanks_are c.as_slice-in-Set.result.now)
    ∙ ap blank (sym is)

pub untyped-returns-in_ok-record_kind-in-Record-clause-tree : goal.untyped-returns-in_ok-record_kind-in-Record-clause-tree
untyped-returns-in_ok-record_kind-in-Record-clause-tree t c =
    let es = c.deref-in-Record.result.now.entries in
    let is =
    sym c.expr_kind.ensures.tree
    ∙ ap (kind_tree {T = Unit}) c.in-Record.is
    ∙ record_tree {T = Unit} c.in-Record.fields
    ∙ ap (λ m. record_literal (tree_fields (named (field_trees {T = Unit} m.entries)))) (sym c.deref-in-Record.ensures) in
    c.of_kind-in-Record.ensures.tree
    ∙ c.in_ok-record_kind-in-Record.ensures.tree
    ∙ ap (λ ps. record_literal (tree_fields ps)) (named_trees c.in_ok-fields-in-Record.fields.entries ∙ c.in_ok-fields-in-Record.ensures.trees ∙ sym (named_trees es))
    ∙ sym is

pub untyped-returns-in_ok-record_kind-in-Record-clause-blank : goal.untyped-returns-in_ok-record_kind-in-Record-clause-blank
untyped-returns-in_ok-record_kind-in-Record-clause-blank t c =
    let es = c.deref-in-Record.result.now.entries in
    let is =
    sym c.expr_kind.ensures.tree
    ∙ ap (kind_tree {T = Unit}) c.in-Record.is
    ∙ record_tree {T = Unit} c.in-Record.fields
    ∙ ap (λ m. record_literal (tree_fields (named (field_trees {T = Unit} m.entries)))) (sym c.deref-in-Record.ensures) in
    c.of_kind-in-Record.ensures.blank
    ∙ ap (mark None) (c.in_ok-record_kind-in-Record.ensures.marks ∙ ap rows c.in_ok-fields-in-Record.ensures.blank ∙ field_blanks_are es)
    ∙ ap blank (sym is)

pub untyped_all-loop-e-preserved : goal.untyped_all-loop-e-preserved
untyped_all-loop-e-preserved t c =
    let was = c.loop-e.invariant in
    let made = c.loop-e.all.items in
    let more = c.push.new.self.items in
    let es = c.args.exprs.now in
    let i = c.loop-e.e-index in
    let here = drop_here es i c.e-item.result _ c.loop-e-test.true c.e-item.is in
    record {
      trees = one_more _ _ _ made more _ _ c.in_ok-untyped.field-0 c.e-item.result was.trees here c.in_ok-push.ensures.items c.in_ok-untyped.ensures.tree;
      blank = one_more _ _ _ made more _ _ c.in_ok-untyped.field-0 c.e-item.result was.blank here c.in_ok-push.ensures.items c.in_ok-untyped.ensures.blank;
    }

pub untyped_all-returns-clause-trees : goal.untyped_all-returns-clause-trees
untyped_all-returns-clause-trees t c = all_made _ _ _ c.loop-e.all.items _ c.loop-e.invariant.trees (none_left c.args.exprs.now c.loop-e.e-index (omega (arith, c.loop-e-test.false)))

pub untyped_all-returns-clause-blank : goal.untyped_all-returns-clause-blank
untyped_all-returns-clause-blank t c = all_made _ _ _ c.loop-e.all.items _ c.loop-e.invariant.blank (none_left c.args.exprs.now c.loop-e.e-index (omega (arith, c.loop-e-test.false)))

pub untyped_fields-loop-name-preserved : goal.untyped_fields-loop-name-preserved
untyped_fields-loop-name-preserved t c =
    let was = c.loop-name.invariant in
    let made = c.loop-name.all.items in
    let more = c.push.new.self.items in
    record {
      trees = one_more _ _ _ made more c.loop-name.name-iterator c.next.new.self (c.in_ok-clone.field-0, c.in_ok-untyped.field-0) (c.in-Some.name.now, c.in-Some.e.now) was.trees c.in-Some.ensures.steps c.in_ok-push.ensures.items (search rules);
      blank = one_more _ _ _ made more c.loop-name.name-iterator c.next.new.self (c.in_ok-clone.field-0, c.in_ok-untyped.field-0) (c.in-Some.name.now, c.in-Some.e.now) was.blank c.in-Some.ensures.steps c.in_ok-push.ensures.items c.in_ok-untyped.ensures.blank;
    }

pub untyped_fields-returns-clause-trees : goal.untyped_fields-returns-clause-trees
untyped_fields-returns-clause-trees t c =
    let trees = all_made _ _ _ c.loop-name.all.items c.loop-name.name-iterator c.loop-name.invariant.trees c.in-None.ensures.steps.0 in
    trees_in_map c.loop-name.all.items c.args.fields.now.entries c.field_map.result trees c.len.ensures.ordered c.field_map.ensures

pub untyped_fields-returns-clause-blank : goal.untyped_fields-returns-clause-blank
untyped_fields-returns-clause-blank t c =
    let trees = all_made _ _ _ c.loop-name.all.items c.loop-name.name-iterator c.loop-name.invariant.trees c.in-None.ensures.steps.0 in
    let blank = all_made _ _ _ c.loop-name.all.items c.loop-name.name-iterator c.loop-name.invariant.blank c.in-None.ensures.steps.0 in
    marks_in_map c.loop-name.all.items c.args.fields.now.entries c.field_map.result trees blank c.len.ensures.ordered c.field_map.ensures
