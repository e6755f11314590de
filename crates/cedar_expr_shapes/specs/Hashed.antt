-- What the shape of an expression feeds a hasher: the place of its kind, and then its parts in order. What varies in number
-- is fed after its number.
-- Rule: shapes (docs/RULES.md).
use Rattle.std.specs.Prelude.{◌++◌, ℕ, ◌+◌, []}
use Rattle.std.specs.Hash as fed
use Rattle.std.specs.Hash.{HashWrites}
use Rattle.cedar_expr_model.specs.Pattern.{Element, character, wildcard}
use Rattle.cedar_expr_model.specs.Order.{core_rank}
use Rattle.cedar_expr_model.specs.Shape.{var_rank, slot_rank, unary_rank, binary_rank}
use Rattle.cedar_expr_model.specs.Tree.{CoreType, entity_core, extension_core, Tree, lit, var, slot, unknown, choice, both, either, unary, binary, call, get_attr, has_attr, has_path, like, is_type, set_literal, record_literal, Trees, no_trees, tree, TreeFields, no_tree_fields, tree_field}
use Rattle.cedar_expr_values.specs.Inputs.{place_input, name_input, literal_input}

-- what a core type feeds
abbrev pub core_input : CoreType → HashWrites
core_input (entity_core n) = place_input 5 ++ name_input n
core_input (extension_core n) = place_input 6 ++ name_input n
core_input c = place_input (core_rank c)

abbrev pub element_input : Element → HashWrites
element_input (character c) = place_input 0 ++ fed.char c
element_input wildcard = place_input 1

-- how many expressions, and how many fields
abbrev pub count : Trees → ℕ
count no_trees = 0
count (tree t ts) = count ts + 1

abbrev pub field_count : TreeFields → ℕ
field_count no_tree_fields = 0
field_count (tree_field a t fs) = field_count fs + 1

-- what an expression feeds
abbrev mutual
  pub tree_input : Tree → HashWrites
  tree_input (lit p) = fed.u8 0 ++ literal_input p
  tree_input (var x) = fed.u8 1 ++ place_input (var_rank x)
  tree_input (slot s) = fed.u8 2 ++ place_input (slot_rank s)
  tree_input (unknown n a) = fed.u8 3 ++ (fed.str n ++ fed.option core_input a)
  tree_input (choice t a b) = fed.u8 4 ++ (tree_input t ++ (tree_input a ++ tree_input b))
  tree_input (both a b) = fed.u8 5 ++ (tree_input a ++ tree_input b)
  tree_input (either a b) = fed.u8 6 ++ (tree_input a ++ tree_input b)
  tree_input (unary o a) = fed.u8 7 ++ (place_input (unary_rank o) ++ tree_input a)
  tree_input (binary o a b) = fed.u8 8 ++ (place_input (binary_rank o) ++ (tree_input a ++ tree_input b))
  tree_input (call f ts) = fed.u8 9 ++ (name_input f ++ (fed.usize (count ts) ++ trees_input ts))
  tree_input (get_attr t a) = fed.u8 10 ++ (tree_input t ++ fed.str a)
  tree_input (has_attr t a) = fed.u8 11 ++ (tree_input t ++ fed.str a)
  tree_input (has_path t a as_) = fed.u8 12 ++ (tree_input t ++ (fed.str a ++ fed.slice fed.str as_))
  tree_input (like t p) = fed.u8 13 ++ (tree_input t ++ fed.slice element_input p)
  tree_input (is_type t n) = fed.u8 14 ++ (tree_input t ++ name_input n)
  tree_input (set_literal ts) = fed.u8 15 ++ (fed.usize (count ts) ++ trees_input ts)
  tree_input (record_literal fs) = fed.u8 16 ++ (fed.usize (field_count fs) ++ tree_fields_input fs)

  pub trees_input : Trees → HashWrites
  trees_input no_trees = []
  trees_input (tree t ts) = tree_input t ++ trees_input ts

  pub tree_fields_input : TreeFields → HashWrites
  tree_fields_input no_tree_fields = []
  tree_fields_input (tree_field a t fs) = fed.str a ++ (tree_input t ++ tree_fields_input fs)
