-- Expressions as bare trees: kinds alone, with no place and no data.
-- Rule: expressions; nesting (docs/RULES.md).
use Rattle.std.specs.Prelude.{ℕ, suc, max, List, Option}
use Rattle.cedar_expr_model.specs.Name.{Text, Name}
use Rattle.cedar_expr_model.specs.Value.{Literal}
use Rattle.cedar_expr_model.specs.Pattern.{Pattern}

-- the variables of a request
pub data Var : Type 0 where
  principal action resource context : Var
  deriving IsSet as Var-set

-- the slots of a template
pub data SlotId : Type 0 where
  principal_slot resource_slot : SlotId

-- The types that a value shows by itself.
pub data CoreType : Type 0 where
  bool_core long_core string_core set_core record_core : CoreType
  entity_core extension_core : Name → CoreType

pub data UnaryOp : Type 0 where
  negation minus is_empty : UnaryOp
  deriving IsSet as UnaryOp-set

pub data BinaryOp : Type 0 where
  equal less less_or_equal plus difference times remainder is_in contains contains_all contains_any get_tag has_tag : BinaryOp
  deriving IsSet as BinaryOp-set

-- Expressions. `has_path` asks for two or more attributes, one after the other.
mutual
  pub data Tree : Type 0 where
    lit : Literal → Tree
    var : Var → Tree
    slot : SlotId → Tree
    unknown : Text → Option CoreType → Tree
    choice : Tree → Tree → Tree → Tree
    both either : Tree → Tree → Tree
    unary : UnaryOp → Tree → Tree
    binary : BinaryOp → Tree → Tree → Tree
    call : Name → Trees → Tree
    get_attr has_attr : Tree → Text → Tree
    has_path : Tree → Text → List Text → Tree
    like : Tree → Pattern → Tree
    is_type : Tree → Name → Tree
    set_literal : Trees → Tree
    record_literal : TreeFields → Tree

  pub data Trees : Type 0 where
    no_trees : Trees
    tree : Tree → Trees → Trees

  pub data TreeFields : Type 0 where
    no_tree_fields : TreeFields
    tree_field : Text → Tree → TreeFields → TreeFields

-- The nesting: 1 for a leaf, and for a node 1 more than its deepest child.
abbrev mutual
  pub nesting : Tree → ℕ
  nesting (choice t a b) = suc (max (nesting t) (max (nesting a) (nesting b)))
  nesting (both a b) = suc (max (nesting a) (nesting b))
  nesting (either a b) = suc (max (nesting a) (nesting b))
  nesting (unary o a) = suc (nesting a)
  nesting (binary o a b) = suc (max (nesting a) (nesting b))
  nesting (call f ts) = suc (nestings ts)
  nesting (get_attr a n) = suc (nesting a)
  nesting (has_attr a n) = suc (nesting a)
  nesting (has_path a n ns) = suc (nesting a)
  nesting (like a p) = suc (nesting a)
  nesting (is_type a n) = suc (nesting a)
  nesting (set_literal ts) = suc (nestings ts)
  nesting (record_literal fs) = suc (field_nestings fs)
  nesting t = 1

  pub nestings : Trees → ℕ
  nestings no_trees = 0
  nestings (tree t ts) = max (nesting t) (nestings ts)

  pub field_nestings : TreeFields → ℕ
  field_nestings no_tree_fields = 0
  field_nestings (tree_field a t fs) = max (nesting t) (field_nestings fs)
