use Rattle.std.proofs.Common.{◌≡◌, Some, map, sym, ap, ◌∙◌}
use Rattle.cedar_expr_names.specs.Views.{plain_name_of}
use Rattle.cedar_expr_model.specs.Builder.{trees}
use Rattle.cedar_expr_model.specs.Restricted.{is_restricted}
use Rattle.cedar_expr_model.specs.Tree.{call}
use Rattle.cedar_expr_trees.specs.Trees.{tree_of, kind_tree}
use Rattle.cedar_expr_trees.proofs.Trees.{call_tree}
use Rattle.cedar_evaluator_restricted_exprs.specs.Read.{are_restricted}
use Rattle.cedar_evaluator_restricted_exprs.proofs.Parted.{members_all}
use Rattle.cedar_evaluator_restricted_exprs.proofs.Reading.{of_call}
use Rattle.cedar_evaluator_restricted_exprs.proofs.borrowed.BorrowedRestrictedExpr.as_extn_fn_call.Goals as goal

pub new-requires : goal.new-requires
new-requires c =
    let e : tree_of {T = Unit} c.args.self.now.expr.now ≡ call (plain_name_of c.in-ExtensionFunctionApp.fn_name) (trees (map (tree_of {T = Unit}) c.in-ExtensionFunctionApp.args.value.items)) = sym c.expr_kind.ensures.tree ∙ ap (kind_tree {T = Unit}) c.in-ExtensionFunctionApp.is ∙ call_tree {T = Unit} c.in-ExtensionFunctionApp.fn_name c.in-ExtensionFunctionApp.args in
    let s : c.as_slice.result.now ≡ c.in-ExtensionFunctionApp.args.value.items = c.as_slice.ensures.value ∙ ap (λ v. v.items) c.deref.ensures in
    ap (λ es. are_restricted (map (tree_of {T = Unit}) es)) s ∙ sym (members_all (map (tree_of {T = Unit}) c.in-ExtensionFunctionApp.args.value.items)) ∙ ap is_restricted (sym e) ∙ c.args.self.now.restricted

pub returns-in-ExtensionFunctionApp : goal.returns-in-ExtensionFunctionApp
returns-in-ExtensionFunctionApp c =
    let f = plain_name_of c.in-ExtensionFunctionApp.fn_name in
    let e : tree_of {T = Unit} c.args.self.now.expr.now ≡ call f (trees (map (tree_of {T = Unit}) c.in-ExtensionFunctionApp.args.value.items)) = sym c.expr_kind.ensures.tree ∙ ap (kind_tree {T = Unit}) c.in-ExtensionFunctionApp.is ∙ call_tree {T = Unit} c.in-ExtensionFunctionApp.fn_name c.in-ExtensionFunctionApp.args in
    let s : c.as_slice.result.now ≡ c.in-ExtensionFunctionApp.args.value.items = c.as_slice.ensures.value ∙ ap (λ v. v.items) c.deref.ensures in
    ap (λ ts. Some (f, ts)) (c.new.ensures ∙ ap (map (tree_of {T = Unit})) s) ∙ sym (of_call _ _ _ e)
