-- The subexpressions of calls, sets and records are those of their arguments, members and fields; the trees of the
-- subexpressions are those of the tree.
use Rattle.std.proofs.Common.{◌≡◌, List, [], ◌∷◌, ◌++◌, map, Option, Some, None, option_map, refl, ap, ◌∙◌}
use Rattle.std.proofs.lemmas.List.{map-append}
use Rattle.std.specs.BTreeMap.{values}
use Rattle.std.specs.List.{flat_map, filter_map, cons_option}
use Rattle.std.specs.declared.alloc.Global.{Global}
use Rattle.std.specs.declared.collections.BTreeMap.{BTreeMap}
use Rattle.std.specs.declared.rc.Rc.{Rc}
use Rattle.std.specs.declared.rc.RcStr.{RcStr}
use Rattle.std.specs.declared.vec.Vec.{Vec}
use Rattle.std.specs.Rc.{rc_str_bytes}
use Rattle.cedar_expr_names.specs.declared.loc.Loc.{Loc}
use Rattle.cedar_expr_names.specs.Views.{plain_name_of, type_name_of}
use Rattle.cedar_expr_leaves.specs.Patterns.{pattern_of}
use Rattle.cedar_expr_names.specs.declared.name.Name.{Name}
use Rattle.cedar_expr_model.specs.Name.{Text}
use Rattle.cedar_expr_model.specs.Parts.{subexpressions, subexpressions_among, subexpressions_in_fields, slot_here, slots, unknown_here, unknowns}
use Rattle.cedar_expr_model.specs.Tree.{Tree, choice, both, either, unary, binary, call, get_attr, has_attr, has_path, like, is_type, set_literal, record_literal}
use Rattle.cedar_expr_trees.specs.declared.expr.Expr.{Expr}
use Rattle.cedar_expr_trees.specs.declared.expr.ExprKind.{ExprKind, Row_of-Expr, end_of-Expr, more_of-Expr, Lit, Var, Slot, Unknown, If', And', Or', UnaryApp', BinaryApp', ExtensionFunctionApp', GetAttr', HasAttr', ExtHasAttr', Like', Is', Set', Record', Set, Record, ExtensionFunctionApp, items-the_row-Expr, items_hidden-the_row-Expr-0, items_hidden-the_row-Expr-1}
use Rattle.cedar_expr_trees.specs.declared.expr.ExprKind.TheBlock.{hidden-the_row-Expr-0, hidden-the_row-Expr-1}
use Rattle.cedar_expr_trees.specs.Trees.{tree_of, kind_tree, row_trees, row_fields, names_of}
use Rattle.cedar_expr_leaves.specs.Operators.{unary_op_of, binary_op_of}
use Rattle.cedar_expr_trees.specs.Positions.{expr_of, below, row_below, positions, slot_at, slot_kind, unknown_at, unknown_kind}

row_below_is : {T : Type 0} (n : _) (row : Row_of-Expr T n) → row_below row ≡ flat_map positions (items-the_row-Expr T n row)
row_below_is n end_of-Expr = refl
row_below_is {T} n (more_of-Expr k l d rest) =
    let e : Expr T = record { expr_kind = k; source_loc = l; «data» = d } in
    ap (λ es. positions e ++ es) (row_below_is _ rest)

pub call_below : {T : Type 0} (f : Name) (es : Rc (Vec (Expr T) Global) Global) → below {T = T} (ExtensionFunctionApp f es) ≡ flat_map positions es.value.items
call_below {T} f es = row_below_is _ (hidden-the_row-Expr-0 T es.value) ∙ ap (flat_map positions) (items_hidden-the_row-Expr-0 T es.value)

pub set_below : {T : Type 0} (es : Rc (Vec (Expr T) Global) Global) → below {T = T} (Set es) ≡ flat_map positions es.value.items
set_below {T} es = row_below_is _ (hidden-the_row-Expr-0 T es.value) ∙ ap (flat_map positions) (items_hidden-the_row-Expr-0 T es.value)

pub record_below : {T : Type 0} (es : Rc (BTreeMap (RcStr Global) (Expr T) Global) Global) → below {T = T} (Record es) ≡ flat_map positions (values es.value)
record_below {T} es = row_below_is _ (hidden-the_row-Expr-1 T es.value) ∙ ap (flat_map positions) (items_hidden-the_row-Expr-1 T es.value)

pub ruleset all_below = (call_below, set_below, record_below)

-- the trees of two rows of expressions, one behind the other
two : {T : Type 0} (es fs : List (Expr T)) (ts us : List Tree) → map tree_of es ≡ ts → map tree_of fs ≡ us → map tree_of (es ++ fs) ≡ ts ++ us
two es fs ts us h k = map-append tree_of es fs ∙ (λ i. h i ++ k i)

-- the trees of an expression of this kind and of what is below it
abbrev trees_at : {T : Type 0} → ExprKind T → List Tree
trees_at k = kind_tree k ∷ map tree_of (below k)

-- The trees of a node of two children are its own, then the subexpressions of the first child, then those of the second.
of_two : {T : Type 0} (t : Tree) (k m : ExprKind T) (l n : Option Loc) (d e : T) → trees_at k ≡ subexpressions (kind_tree k) → trees_at m ≡ subexpressions (kind_tree m) → (t ∷ map tree_of ((expr_of k l d ∷ below k) ++ (expr_of m n e ∷ below m))) ≡ t ∷ (subexpressions (kind_tree k) ++ subexpressions (kind_tree m))
of_two t k m l n d e h j = ap (λ ts. t ∷ ts) (two (expr_of k l d ∷ below k) (expr_of m n e ∷ below m) (subexpressions (kind_tree k)) (subexpressions (kind_tree m)) h j)

mutual
  trees_of_kind : {T : Type 0} (k : ExprKind T) → trees_at k ≡ subexpressions (kind_tree k)
  trees_of_kind (Lit p) = refl
  trees_of_kind (Var x) = refl
  trees_of_kind (Slot s) = refl
  trees_of_kind (Unknown u) = refl
  trees_of_kind (If' p k l d q m n e r s u f) =
      ap (λ ts. choice (kind_tree k) (kind_tree m) (kind_tree s) ∷ ts)
      (two (expr_of k l d ∷ below k) ((expr_of m n e ∷ below m) ++ (expr_of s u f ∷ below s)) (subexpressions (kind_tree k)) (subexpressions (kind_tree m) ++ subexpressions (kind_tree s)) (trees_of_kind k)
      (two (expr_of m n e ∷ below m) (expr_of s u f ∷ below s) (subexpressions (kind_tree m)) (subexpressions (kind_tree s)) (trees_of_kind m) (trees_of_kind s)))
  trees_of_kind (And' p k l d q m n e) = of_two (both (kind_tree k) (kind_tree m)) k m l n d e (trees_of_kind k) (trees_of_kind m)
  trees_of_kind (Or' p k l d q m n e) = of_two (either (kind_tree k) (kind_tree m)) k m l n d e (trees_of_kind k) (trees_of_kind m)
  trees_of_kind (UnaryApp' o p k l d) = ap (λ ts. unary (unary_op_of o) (kind_tree k) ∷ ts) (trees_of_kind k)
  trees_of_kind (BinaryApp' o p k l d q m n e) = of_two (binary (binary_op_of o) (kind_tree k) (kind_tree m)) k m l n d e (trees_of_kind k) (trees_of_kind m)
  trees_of_kind (ExtensionFunctionApp' f p s row) = ap (λ ts. call (plain_name_of f) (row_trees row) ∷ ts) (trees_of_row _ row)
  trees_of_kind (GetAttr' p k l d a) = ap (λ ts. get_attr (kind_tree k) (rc_str_bytes a) ∷ ts) (trees_of_kind k)
  trees_of_kind (HasAttr' p k l d a) = ap (λ ts. has_attr (kind_tree k) (rc_str_bytes a) ∷ ts) (trees_of_kind k)
  trees_of_kind (ExtHasAttr' p k l d as_) = ap (λ ts. has_path (kind_tree k) (rc_str_bytes as_.value.head) (map rc_str_bytes as_.value.tail.items) ∷ ts) (trees_of_kind k)
  trees_of_kind (Like' p k l d q) = ap (λ ts. like (kind_tree k) (pattern_of q) ∷ ts) (trees_of_kind k)
  trees_of_kind (Is' p k l d n) = ap (λ ts. is_type (kind_tree k) (type_name_of n) ∷ ts) (trees_of_kind k)
  trees_of_kind (Set' p s row) = ap (λ ts. set_literal (row_trees row) ∷ ts) (trees_of_row _ row)
  trees_of_kind (Record' p s row) = ap (λ ts. record_literal (row_fields (names_of s.0) row) ∷ ts) (trees_of_fields _ row (names_of s.0))

  trees_of_row : {T : Type 0} (n : _) (row : Row_of-Expr T n) → map tree_of (row_below row) ≡ subexpressions_among (row_trees row)
  trees_of_row n end_of-Expr = refl
  trees_of_row n (more_of-Expr k l d rest) = two (expr_of k l d ∷ below k) (row_below rest) (subexpressions (kind_tree k)) (subexpressions_among (row_trees rest)) (trees_of_kind k) (trees_of_row _ rest)

  trees_of_fields : {T : Type 0} (n : _) (row : Row_of-Expr T n) (names : List Text) → map tree_of (row_below row) ≡ subexpressions_in_fields (row_fields names row)
  trees_of_fields n end_of-Expr names = refl
  trees_of_fields n (more_of-Expr k l d rest) [] = two (expr_of k l d ∷ below k) (row_below rest) (subexpressions (kind_tree k)) (subexpressions_in_fields (row_fields [] rest)) (trees_of_kind k) (trees_of_fields _ rest [])
  trees_of_fields n (more_of-Expr k l d rest) (a ∷ names) = two (expr_of k l d ∷ below k) (row_below rest) (subexpressions (kind_tree k)) (subexpressions_in_fields (row_fields names rest)) (trees_of_kind k) (trees_of_fields _ rest names)

-- the trees of the subexpressions
pub trees_of_positions : {T : Type 0} (e : Expr T) → map tree_of (positions e) ≡ subexpressions (tree_of e)
trees_of_positions e = trees_of_kind e.expr_kind

-- what stands at the subexpressions is what stands in their trees
slot_is : {T : Type 0} (l : Option Loc) (k : ExprKind T) → option_map (λ s. s.0) (slot_kind l k) ≡ slot_here (kind_tree k)
slot_is l (Slot s) = refl
slot_is l k = refl

unknown_is : {T : Type 0} (k : ExprKind T) → unknown_kind k ≡ unknown_here (kind_tree k)
unknown_is (Unknown u) = refl
unknown_is k = refl

found_slot : {S : Type 0} (o : Option (S × Option Loc)) (p : Option S) (ss : List (S × Option Loc)) (ts : List S) → option_map (λ s. s.0) o ≡ p → map (λ s. s.0) ss ≡ ts → map (λ s. s.0) (cons_option o ss) ≡ cons_option p ts
found_slot None p ss ts h j = λ i. cons_option (h i) (j i)
found_slot (Some s) p ss ts h j = λ i. cons_option (h i) (j i)

slots_along : {T : Type 0} (es : List (Expr T)) → map (λ s. s.0) (filter_map slot_at es) ≡ filter_map slot_here (map tree_of es)
slots_along [] = refl
slots_along (e ∷ es) = found_slot (slot_at e) (slot_here (tree_of e)) (filter_map slot_at es) (filter_map slot_here (map tree_of es)) (slot_is e.source_loc e.expr_kind) (slots_along es)

unknowns_along : {T : Type 0} (es : List (Expr T)) → filter_map unknown_at es ≡ filter_map unknown_here (map tree_of es)
unknowns_along [] = refl
unknowns_along (e ∷ es) = λ i. cons_option (unknown_is e.expr_kind i) (unknowns_along es i)

pub slots_of_positions : {T : Type 0} (e : Expr T) → map (λ s. s.0) (filter_map slot_at (positions e)) ≡ slots (tree_of e)
slots_of_positions e = slots_along (positions e) ∙ ap (filter_map slot_here) (trees_of_positions e)

pub unknowns_of_positions : {T : Type 0} (e : Expr T) → filter_map unknown_at (positions e) ≡ unknowns (tree_of e)
unknowns_of_positions e = unknowns_along (positions e) ∙ ap (filter_map unknown_here) (trees_of_positions e)
