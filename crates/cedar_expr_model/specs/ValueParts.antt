-- Which expressions are values, and values beside expressions that aren't values yet.
-- Rule: values and equality; parts of an expression (docs/RULES.md).
use Rattle.std.specs.Prelude.{List, [], ◌∷◌, map, Option, Some, None, option_map, option_and_then}
use Rattle.std.specs.Option.{option_map_or}
use Rattle.cedar_expr_model.specs.Value.{V, prim, record_of, Fields, no_fields, field}
use Rattle.cedar_expr_model.specs.Canonical.{set_made}
use Rattle.cedar_expr_model.specs.Tree.{Tree, lit, set_literal, record_literal, Trees, no_trees, tree, TreeFields, no_tree_fields, tree_field}
use Rattle.cedar_expr_model.specs.Made.{Made, written}
use Rattle.cedar_expr_model.specs.Lists.{all_given}

-- the value that an expression of literals, sets and records is; any other is no value
abbrev mutual
  pub value_of_tree : Tree → Option V
  value_of_tree (lit p) = Some (prim p)
  value_of_tree (set_literal ts) = option_map set_made (values_of_trees ts)
  value_of_tree (record_literal fs) = option_map record_of (fields_of_trees fs)
  value_of_tree t = None

  pub values_of_trees : Trees → Option (List V)
  values_of_trees no_trees = Some []
  values_of_trees (tree t ts) = option_and_then (λ v. option_map (λ vs. v ∷ vs) (values_of_trees ts)) (value_of_tree t)

  pub fields_of_trees : TreeFields → Option Fields
  fields_of_trees no_tree_fields = Some no_fields
  fields_of_trees (tree_field a t fs) = option_and_then (λ v. option_map (field a v) (fields_of_trees fs)) (value_of_tree t)

-- a value, or an expression that isn't one yet
pub data Part (A : Type 0) : Type 0 where
  known : A → Part A
  left : Tree → Part A

-- the value, where it is one
abbrev pub known_value : {A : Type 0} → Part A → Option A
known_value (known v) = Some v
known_value (left t) = None

-- either as an expression
abbrev pub part_tree : Part Made → Tree
part_tree (known m) = written m
part_tree (left t) = t

-- the values of a list where nothing is an expression
abbrev pub all_known : {A : Type 0} → List (Part A) → Option (List A)
all_known ps = all_given known_value ps

-- A list split: its values, in order, where all are values; else its expressions, in order.
pub data Split : Type 0 where
  values_alone : List Made → Split
  with_residuals : List Tree → Split

-- the list split
abbrev pub split : List (Part Made) → Split
split ps = option_map_or values_alone (all_known ps) (with_residuals (map part_tree ps))
