-- Tests of calls, sets and records, by those of their arguments, members and fields.
use Rattle.std.proofs.Common.{◌≡◌, ◌&&◌, ◌||◌, Bool, List, [], ◌∷◌, map, refl, ap, ◌∙◌}
use Rattle.std.specs.BTreeMap.{values}
use Rattle.std.specs.List.{list_all, list_any}
use Rattle.std.specs.Map.{values_of}
use Rattle.std.specs.Option.{is_some}
use Rattle.std.proofs.lemmas.List.Folds.{list_any-append, list_all-append}
use Rattle.std.specs.declared.alloc.Global.{Global}
use Rattle.std.specs.declared.collections.BTreeMap.{BTreeMap}
use Rattle.std.specs.declared.rc.Rc.{Rc}
use Rattle.std.specs.declared.rc.RcStr.{RcStr}
use Rattle.std.specs.declared.vec.Vec.{Vec}
use Rattle.cedar_expr_names.specs.declared.name.Name.{Name}
use Rattle.cedar_expr_model.specs.Builder.{trees, tree_fields}
use Rattle.cedar_expr_model.specs.Tree.{Tree}
use Rattle.cedar_expr_model.specs.Parts.{is_ref, is_ref_set, listed, may_project, is_projectable, subexpressions, subexpressions_among, subexpressions_in_fields, unknown_here}
use Rattle.cedar_expr_model.specs.Unknowns.{has_unknown}
use Rattle.cedar_expr_trees.specs.declared.expr.Expr.{Expr}
use Rattle.cedar_expr_trees.specs.declared.expr.ExprKind.{Set, Record, ExtensionFunctionApp}
use Rattle.cedar_expr_trees.specs.Trees.{tree_of, kind_tree, named, field_trees}
use Rattle.cedar_expr_trees.proofs.Trees.{call_tree, set_tree, record_tree}

refs_among : {T : Type 0} (es : List (Expr T)) → list_all is_ref (listed (trees (map tree_of es))) ≡ list_all (λ e. is_ref (tree_of e)) es
refs_among [] = refl
refs_among (e ∷ es) = ap (λ b. is_ref (tree_of e) && b) (refs_among es)

projectable_among : {T : Type 0} (es : List (Expr T)) → list_all may_project (subexpressions_among (trees (map tree_of es))) ≡ list_all (λ e. is_projectable (tree_of e)) es
projectable_among [] = refl
projectable_among (e ∷ es) = list_all-append may_project (subexpressions (tree_of e)) (subexpressions_among (trees (map tree_of es))) ∙ ap (λ b. is_projectable (tree_of e) && b) (projectable_among es)

projectable_fields : {T : Type 0} (es : List (RcStr Global × Expr T)) → list_all may_project (subexpressions_in_fields (tree_fields (named (field_trees es)))) ≡ list_all (λ e. is_projectable (tree_of e)) (values_of es)
projectable_fields [] = refl
projectable_fields (e ∷ es) = list_all-append may_project (subexpressions (tree_of e.1)) (subexpressions_in_fields (tree_fields (named (field_trees es)))) ∙ ap (λ b. is_projectable (tree_of e.1) && b) (projectable_fields es)

-- an unknown
abbrev is_unknown : Tree → Bool
is_unknown t = is_some (unknown_here t)

unknown_among : {T : Type 0} (es : List (Expr T)) → list_any is_unknown (subexpressions_among (trees (map tree_of es))) ≡ list_any (λ e. has_unknown (tree_of e)) es
unknown_among [] = refl
unknown_among (e ∷ es) = list_any-append is_unknown (subexpressions (tree_of e)) (subexpressions_among (trees (map tree_of es))) ∙ ap (λ b. has_unknown (tree_of e) || b) (unknown_among es)

unknown_fields : {T : Type 0} (es : List (RcStr Global × Expr T)) → list_any is_unknown (subexpressions_in_fields (tree_fields (named (field_trees es)))) ≡ list_any (λ e. has_unknown (tree_of e)) (values_of es)
unknown_fields [] = refl
unknown_fields (e ∷ es) = list_any-append is_unknown (subexpressions (tree_of e.1)) (subexpressions_in_fields (tree_fields (named (field_trees es)))) ∙ ap (λ b. has_unknown (tree_of e.1) || b) (unknown_fields es)

pub set_is_ref_set : {T : Type 0} (es : Rc (Vec (Expr T) Global) Global) → is_ref_set (kind_tree {T = T} (Set es)) ≡ list_all (λ e. is_ref (tree_of e)) es.value.items
set_is_ref_set {T} es = ap is_ref_set (set_tree es) ∙ refs_among es.value.items

pub set_is_projectable : {T : Type 0} (es : Rc (Vec (Expr T) Global) Global) → is_projectable (kind_tree {T = T} (Set es)) ≡ list_all (λ e. is_projectable (tree_of e)) es.value.items
set_is_projectable {T} es = ap is_projectable (set_tree es) ∙ projectable_among es.value.items

pub record_is_projectable : {T : Type 0} (es : Rc (BTreeMap (RcStr Global) (Expr T) Global) Global) → is_projectable (kind_tree {T = T} (Record es)) ≡ list_all (λ e. is_projectable (tree_of e)) (values es.value)
record_is_projectable {T} es = ap is_projectable (record_tree es) ∙ projectable_fields es.value.entries

pub call_has_unknown : {T : Type 0} (f : Name) (es : Rc (Vec (Expr T) Global) Global) → has_unknown (kind_tree {T = T} (ExtensionFunctionApp f es)) ≡ list_any (λ e. has_unknown (tree_of e)) es.value.items
call_has_unknown {T} f es = ap has_unknown (call_tree f es) ∙ unknown_among es.value.items

pub set_has_unknown : {T : Type 0} (es : Rc (Vec (Expr T) Global) Global) → has_unknown (kind_tree {T = T} (Set es)) ≡ list_any (λ e. has_unknown (tree_of e)) es.value.items
set_has_unknown {T} es = ap has_unknown (set_tree es) ∙ unknown_among es.value.items

pub record_has_unknown : {T : Type 0} (es : Rc (BTreeMap (RcStr Global) (Expr T) Global) Global) → has_unknown (kind_tree {T = T} (Record es)) ≡ list_any (λ e. has_unknown (tree_of e)) (values es.value)
record_has_unknown {T} es = ap has_unknown (record_tree es) ∙ unknown_fields es.value.entries

pub ruleset ref_trees = (set_is_ref_set)

pub ruleset projectable_trees = (set_is_projectable, record_is_projectable)

pub ruleset unknown_trees = (call_has_unknown, set_has_unknown, record_has_unknown, list_any-append)
