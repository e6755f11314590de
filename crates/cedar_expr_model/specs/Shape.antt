-- The order of expressions by their shape: by kind, and in one kind by its parts from the first that differs.
-- Rule: shapes (docs/RULES.md).
use Rattle.std.specs.Prelude.{ℕ, Bool}
use Rattle.std.specs.Ordering.{nat_cmp, ordering_then, is_eq}
use Rattle.std.specs.Option.{option_cmp}
use Rattle.std.specs.Cmp.Lexicographic.{slice_cmp}
use Rattle.std.specs.declared.cmp.Ordering.{Ordering}
use Rattle.std.specs.declared.cmp.Ordering.TheVariants.{Less, Equal, Greater}
use Rattle.cedar_expr_model.specs.Order.{text_cmp, name_order, literal_cmp, core_cmp}
use Rattle.cedar_expr_model.specs.Pattern.{Pattern, Element, character, wildcard}
use Rattle.cedar_expr_model.specs.Tree.{Var, principal, action, resource, context, SlotId, principal_slot, resource_slot, UnaryOp, negation, minus, is_empty, BinaryOp, equal, less, less_or_equal, plus, difference, times, remainder, is_in, contains, contains_all, contains_any, get_tag, has_tag, Tree, lit, var, slot, unknown, choice, both, either, unary, binary, call, get_attr, has_attr, has_path, like, is_type, set_literal, record_literal, Trees, no_trees, tree, TreeFields, no_tree_fields, tree_field}

-- variables, slots and operators in the order of their lists
abbrev pub var_rank : Var → ℕ
var_rank principal = 0
var_rank action = 1
var_rank resource = 2
var_rank context = 3

abbrev pub slot_rank : SlotId → ℕ
slot_rank principal_slot = 0
slot_rank resource_slot = 1

abbrev pub unary_rank : UnaryOp → ℕ
unary_rank negation = 0
unary_rank minus = 1
unary_rank is_empty = 2

abbrev pub binary_rank : BinaryOp → ℕ
binary_rank equal = 0
binary_rank less = 1
binary_rank less_or_equal = 2
binary_rank plus = 3
binary_rank difference = 4
binary_rank times = 5
binary_rank remainder = 6
binary_rank is_in = 7
binary_rank contains = 8
binary_rank contains_all = 9
binary_rank contains_any = 10
binary_rank get_tag = 11
binary_rank has_tag = 12

-- the orders of variables, slots and operators, by their ranks
abbrev pub var_cmp : Var → Var → Ordering
var_cmp x y = nat_cmp (var_rank x) (var_rank y)

abbrev pub slot_cmp : SlotId → SlotId → Ordering
slot_cmp x y = nat_cmp (slot_rank x) (slot_rank y)

abbrev pub unary_cmp : UnaryOp → UnaryOp → Ordering
unary_cmp x y = nat_cmp (unary_rank x) (unary_rank y)

abbrev pub binary_cmp : BinaryOp → BinaryOp → Ordering
binary_cmp x y = nat_cmp (binary_rank x) (binary_rank y)

-- a character comes before a wildcard
abbrev pub element_cmp : Element → Element → Ordering
element_cmp (character c) (character d) = nat_cmp c d
element_cmp (character c) wildcard = Less
element_cmp wildcard (character d) = Greater
element_cmp wildcard wildcard = Equal

-- patterns by their elements, from the first that differs
abbrev pub pattern_cmp : Pattern → Pattern → Ordering
pattern_cmp p q = slice_cmp element_cmp p q

-- the place of a kind among the kinds
abbrev pub tree_rank : Tree → ℕ
tree_rank (lit p) = 0
tree_rank (var x) = 1
tree_rank (slot s) = 2
tree_rank (unknown n a) = 3
tree_rank (choice t a b) = 4
tree_rank (both a b) = 5
tree_rank (either a b) = 6
tree_rank (unary o a) = 7
tree_rank (binary o a b) = 8
tree_rank (call f ts) = 9
tree_rank (get_attr t a) = 10
tree_rank (has_attr t a) = 11
tree_rank (has_path t a as_) = 12
tree_rank (like t p) = 13
tree_rank (is_type t n) = 14
tree_rank (set_literal ts) = 15
tree_rank (record_literal fs) = 16

-- Expressions by kind, and those of one kind by their parts in order; members and fields from the first that differs.
abbrev mutual
  pub tree_cmp : Tree → Tree → Ordering
  tree_cmp (lit p) (lit p') = literal_cmp p p'
  tree_cmp (var x) (var x') = var_cmp x x'
  tree_cmp (slot s) (slot s') = slot_cmp s s'
  tree_cmp (unknown n a) (unknown n' a') = ordering_then (text_cmp n n') (option_cmp core_cmp a a')
  tree_cmp (choice t a b) (choice t' a' b') = ordering_then (tree_cmp t t') (ordering_then (tree_cmp a a') (tree_cmp b b'))
  tree_cmp (both a b) (both a' b') = ordering_then (tree_cmp a a') (tree_cmp b b')
  tree_cmp (either a b) (either a' b') = ordering_then (tree_cmp a a') (tree_cmp b b')
  tree_cmp (unary o a) (unary o' a') = ordering_then (unary_cmp o o') (tree_cmp a a')
  tree_cmp (binary o a b) (binary o' a' b') = ordering_then (binary_cmp o o') (ordering_then (tree_cmp a a') (tree_cmp b b'))
  tree_cmp (call f ts) (call f' ts') = ordering_then (name_order f f') (trees_cmp ts ts')
  tree_cmp (get_attr t a) (get_attr t' a') = ordering_then (tree_cmp t t') (text_cmp a a')
  tree_cmp (has_attr t a) (has_attr t' a') = ordering_then (tree_cmp t t') (text_cmp a a')
  tree_cmp (has_path t a as_) (has_path t' a' as_') = ordering_then (tree_cmp t t') (ordering_then (text_cmp a a') (slice_cmp text_cmp as_ as_'))
  tree_cmp (like t p) (like t' p') = ordering_then (tree_cmp t t') (pattern_cmp p p')
  tree_cmp (is_type t n) (is_type t' n') = ordering_then (tree_cmp t t') (name_order n n')
  tree_cmp (set_literal ts) (set_literal ts') = trees_cmp ts ts'
  tree_cmp (record_literal fs) (record_literal fs') = tree_fields_cmp fs fs'
  tree_cmp t u = nat_cmp (tree_rank t) (tree_rank u)

  pub trees_cmp : Trees → Trees → Ordering
  trees_cmp no_trees no_trees = Equal
  trees_cmp no_trees (tree u us) = Less
  trees_cmp (tree t ts) no_trees = Greater
  trees_cmp (tree t ts) (tree u us) = ordering_then (tree_cmp t u) (trees_cmp ts us)

  pub tree_fields_cmp : TreeFields → TreeFields → Ordering
  tree_fields_cmp no_tree_fields no_tree_fields = Equal
  tree_fields_cmp no_tree_fields (tree_field b u gs) = Less
  tree_fields_cmp (tree_field a t fs) no_tree_fields = Greater
  tree_fields_cmp (tree_field a t fs) (tree_field b u gs) = ordering_then (text_cmp a b) (ordering_then (tree_cmp t u) (tree_fields_cmp fs gs))

-- expressions of one shape
abbrev pub tree_eq : Tree → Tree → Bool
tree_eq t u = is_eq (tree_cmp t u)
