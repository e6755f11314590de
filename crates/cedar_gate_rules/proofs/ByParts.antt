-- How deep calls, sets and records nest, by their arguments, members and fields.
use Rattle.std.proofs.Common.{◌≡◌, ℕ, ◌-◌, ◌&&◌, List, [], ◌∷◌, map, refl, ap, ◌∙◌}
use Rattle.std.specs.Prelude.{nat_le}
use Rattle.std.specs.BTreeMap.{values}
use Rattle.std.specs.List.{list_all}
use Rattle.std.specs.Map.{values_of}
use Rattle.std.specs.declared.alloc.Global.{Global}
use Rattle.std.specs.declared.collections.BTreeMap.{BTreeMap}
use Rattle.std.specs.declared.rc.Rc.{Rc}
use Rattle.std.specs.declared.rc.RcStr.{RcStr}
use Rattle.std.specs.declared.vec.Vec.{Vec}
use Rattle.cedar_expr_names.specs.declared.name.Name.{Name}
use Rattle.cedar_expr_model.specs.Builder.{trees, tree_fields}
use Rattle.cedar_expr_model.specs.Tree.{nesting, nestings, field_nestings}
use Rattle.cedar_expr_trees.specs.declared.expr.Expr.{Expr}
use Rattle.cedar_expr_trees.specs.declared.expr.ExprKind.{Set, Record, ExtensionFunctionApp}
use Rattle.cedar_expr_trees.specs.Trees.{tree_of, kind_tree, named, field_trees}
use Rattle.cedar_expr_trees.proofs.Trees.{call_tree, set_tree, record_tree}
use Rattle.cedar_gate_rules.proofs.Depth.{within_one_more, nested_among, nested_fields}

by_values : {T : Type 0} (n : ℕ) (es : List (RcStr Global × Expr T)) → list_all (λ p. nat_le (nesting p.1) n) (named (field_trees es)) ≡ list_all (λ e. nat_le (nesting (tree_of e)) n) (values_of es)
by_values n [] = refl
by_values n (e ∷ es) = ap (λ b. nat_le (nesting (tree_of e.1)) n && b) (by_values n es)

pub call_nests : {T : Type 0} (f : Name) (es : Rc (Vec (Expr T) Global) Global) (n : ℕ) → (n ≡ 0 → ⊥) → nat_le (nesting (kind_tree {T = T} (ExtensionFunctionApp f es))) n ≡ list_all (λ e. nat_le (nesting (tree_of e)) (n - 1)) es.value.items
call_nests {T} f es n h = ap (λ t. nat_le (nesting t) n) (call_tree f es) ∙ within_one_more (nestings (trees (map tree_of es.value.items))) n h ∙ nested_among tree_of (n - 1) es.value.items

pub set_nests : {T : Type 0} (es : Rc (Vec (Expr T) Global) Global) (n : ℕ) → (n ≡ 0 → ⊥) → nat_le (nesting (kind_tree {T = T} (Set es))) n ≡ list_all (λ e. nat_le (nesting (tree_of e)) (n - 1)) es.value.items
set_nests {T} es n h = ap (λ t. nat_le (nesting t) n) (set_tree es) ∙ within_one_more (nestings (trees (map tree_of es.value.items))) n h ∙ nested_among tree_of (n - 1) es.value.items

pub record_nests : {T : Type 0} (es : Rc (BTreeMap (RcStr Global) (Expr T) Global) Global) (n : ℕ) → (n ≡ 0 → ⊥) → nat_le (nesting (kind_tree {T = T} (Record es))) n ≡ list_all (λ e. nat_le (nesting (tree_of e)) (n - 1)) (values es.value)
record_nests {T} es n h =
    ap (λ t. nat_le (nesting t) n) (record_tree es)
    ∙ within_one_more (field_nestings (tree_fields (named (field_trees es.value.entries)))) n h
    ∙ nested_fields (n - 1) (named (field_trees es.value.entries))
    ∙ by_values (n - 1) es.value.entries

pub ruleset nested_trees = (call_nests, set_nests, record_nests)
