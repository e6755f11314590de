use Rattle.std.proofs.Common.{◌-◌, sym, ap, ◌∙◌}
use Rattle.std.specs.Prelude.{nat_le}
use Rattle.std.specs.BTreeMap.{values}
use Rattle.std.specs.List.{list_all}
use Rattle.cedar_expr_model.specs.Tree.{nesting}
use Rattle.cedar_expr_trees.specs.Trees.{kind_tree, tree_of}
use Rattle.cedar_gate_rules.proofs.ByParts.{call_nests, set_nests, record_nests}
use Rattle.cedar_gate_rules.proofs.Depth.{never_within}
use Rattle.cedar_gate_rules.proofs.nesting.+nesting.Goals as goal

pub nests_within-returns-in-ExtensionFunctionApp : goal.nests_within-returns-in-ExtensionFunctionApp
nests_within-returns-in-ExtensionFunctionApp g t c =
    let call = c.in-ExtensionFunctionApp in
    c.all_nest_within.ensures
    ∙ ap (λ es. list_all (λ e. nat_le (nesting (tree_of {T = g.row.T.Denot} e)) (c.args.limit - 1)) es) (c.as_slice.ensures.value ∙ ap (λ v. v.items) c.deref-in-ExtensionFunctionApp.ensures)
    ∙ sym (call_nests {T = g.row.T.Denot} call.fn_name call.args c.args.limit c.if-limit-eq0.false)
    ∙ ap (λ k. nat_le (nesting (kind_tree {T = g.row.T.Denot} k)) c.args.limit) (sym call.is)
    ∙ ap (λ t. nat_le (nesting t) c.args.limit) c.expr_kind.ensures.tree

pub nests_within-returns-in-Set : goal.nests_within-returns-in-Set
nests_within-returns-in-Set g t c =
    let s = c.in-Set in
    c.all_nest_within-in-Set.ensures
    ∙ ap (λ es. list_all (λ e. nat_le (nesting (tree_of {T = g.row.T.Denot} e)) (c.args.limit - 1)) es) (c.as_slice-in-Set.ensures.value ∙ ap (λ v. v.items) c.deref-in-Set.ensures)
    ∙ sym (set_nests {T = g.row.T.Denot} s.members c.args.limit c.if-limit-eq0.false)
    ∙ ap (λ k. nat_le (nesting (kind_tree {T = g.row.T.Denot} k)) c.args.limit) (sym s.is)
    ∙ ap (λ t. nat_le (nesting t) c.args.limit) c.expr_kind.ensures.tree

pub nests_within-returns-in-Record : goal.nests_within-returns-in-Record
nests_within-returns-in-Record g t c =
    let r = c.in-Record in
    c.fields_nest_within.ensures
    ∙ ap (λ m. list_all (λ e. nat_le (nesting (tree_of {T = g.row.T.Denot} e)) (c.args.limit - 1)) (values m)) c.deref-in-Record.ensures
    ∙ sym (record_nests {T = g.row.T.Denot} r.fields c.args.limit c.if-limit-eq0.false)
    ∙ ap (λ k. nat_le (nesting (kind_tree {T = g.row.T.Denot} k)) c.args.limit) (sym r.is)
    ∙ ap (λ t. nat_le (nesting t) c.args.limit) c.expr_kind.ensures.tree

pub nests_within-returns-then-limit-eq0 : goal.nests_within-returns-then-limit-eq0
nests_within-returns-then-limit-eq0 g t c = never_within (tree_of c.args.e.now) c.args.limit c.if-limit-eq0.true
