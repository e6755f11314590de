use Rattle.std.proofs.Common.{map, length, sym, ap, ◌∙◌}
use Rattle.cedar_expr_names.specs.Views.{plain_name_of}
use Rattle.cedar_expr_trees.specs.Trees.{tree_of, kind_tree}
use Rattle.cedar_expr_trees.proofs.Trees.{call_tree}
use Rattle.cedar_expr_functions.specs.Tables.{functions_of}
use Rattle.cedar_expr_functions.specs.Calls.{wrong_call, wrong_by_name}
use Rattle.cedar_expr_functions.proofs.Wrong.{same_count, same_length, none_other, refused_other}
use Rattle.cedar_expr_functions.proofs.calls.check_call.Goals as goal

pub returns-in-ExtensionFunctionApp-clause-none : goal.returns-in-ExtensionFunctionApp-clause-none
returns-in-ExtensionFunctionApp-clause-none g c =
    let ss = functions_of c.args.table.now in
    let f = plain_name_of c.in-ExtensionFunctionApp.fn_name in
    let es = c.in-ExtensionFunctionApp.args.value.items in
    let is =
    ap (wrong_call ss) (sym c.expr_kind.ensures.tree ∙ ap (kind_tree {T = g.row.T.Denot}) c.in-ExtensionFunctionApp.is ∙ call_tree {T = g.row.T.Denot} c.in-ExtensionFunctionApp.fn_name c.in-ExtensionFunctionApp.args)
    ∙ ap (wrong_by_name ss f) (same_count (map (tree_of {T = g.row.T.Denot}) es) ∙ same_length (tree_of {T = g.row.T.Denot}) es ∙ ap length (sym (c.as_slice.ensures.value ∙ ap (λ v. v.items) c.deref.ensures))) in
    none_other c.check_named.result _ _ (sym is) c.check_named.ensures.none

pub returns-in-ExtensionFunctionApp-clause-refused : goal.returns-in-ExtensionFunctionApp-clause-refused
returns-in-ExtensionFunctionApp-clause-refused g c =
    let ss = functions_of c.args.table.now in
    let f = plain_name_of c.in-ExtensionFunctionApp.fn_name in
    let es = c.in-ExtensionFunctionApp.args.value.items in
    let is =
    ap (wrong_call ss) (sym c.expr_kind.ensures.tree ∙ ap (kind_tree {T = g.row.T.Denot}) c.in-ExtensionFunctionApp.is ∙ call_tree {T = g.row.T.Denot} c.in-ExtensionFunctionApp.fn_name c.in-ExtensionFunctionApp.args)
    ∙ ap (wrong_by_name ss f) (same_count (map (tree_of {T = g.row.T.Denot}) es) ∙ same_length (tree_of {T = g.row.T.Denot}) es ∙ ap length (sym (c.as_slice.ensures.value ∙ ap (λ v. v.items) c.deref.ensures))) in
    refused_other c.check_named.result _ _ (sym is) c.check_named.ensures.refused
