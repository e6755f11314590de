-- What an expression is made of: its subexpressions, slots and unknowns.
-- Rule: parts of an expression (docs/RULES.md).
use Rattle.std.specs.Prelude.{List, [], ◌∷◌, ◌++◌, Bool, true, false, Option, Some, None, is_some}
use Rattle.std.specs.List.{filter_map, list_all}
use Rattle.cedar_expr_model.specs.Name.{Text}
use Rattle.cedar_expr_model.specs.Uid.{Uid}
use Rattle.cedar_expr_model.specs.Value.{entity}
use Rattle.cedar_expr_model.specs.Tree.{CoreType, SlotId, Tree, lit, var, slot, unknown, choice, both, either, unary, binary, call, get_attr, has_attr, has_path, like, is_type, set_literal, record_literal, Trees, no_trees, tree, TreeFields, no_tree_fields, tree_field}

-- The subexpressions, each place once: the expression itself, and then those of its children, in order.
abbrev mutual
  pub subexpressions : Tree → List Tree
  subexpressions (choice t a b) = choice t a b ∷ (subexpressions t ++ (subexpressions a ++ subexpressions b))
  subexpressions (both a b) = both a b ∷ (subexpressions a ++ subexpressions b)
  subexpressions (either a b) = either a b ∷ (subexpressions a ++ subexpressions b)
  subexpressions (unary o a) = unary o a ∷ subexpressions a
  subexpressions (binary o a b) = binary o a b ∷ (subexpressions a ++ subexpressions b)
  subexpressions (call f ts) = call f ts ∷ subexpressions_among ts
  subexpressions (get_attr t a) = get_attr t a ∷ subexpressions t
  subexpressions (has_attr t a) = has_attr t a ∷ subexpressions t
  subexpressions (has_path t a bs) = has_path t a bs ∷ subexpressions t
  subexpressions (like t p) = like t p ∷ subexpressions t
  subexpressions (is_type t n) = is_type t n ∷ subexpressions t
  subexpressions (set_literal ts) = set_literal ts ∷ subexpressions_among ts
  subexpressions (record_literal fs) = record_literal fs ∷ subexpressions_in_fields fs
  subexpressions t = t ∷ []

  pub subexpressions_among : Trees → List Tree
  subexpressions_among no_trees = []
  subexpressions_among (tree t ts) = subexpressions t ++ subexpressions_among ts

  pub subexpressions_in_fields : TreeFields → List Tree
  subexpressions_in_fields no_tree_fields = []
  subexpressions_in_fields (tree_field a t fs) = subexpressions t ++ subexpressions_in_fields fs

-- an unknown: its name and its annotation, if it has one
pub record Unknown : Type 0 where
  pub name : Text
  pub annotation : Option CoreType

-- the unknown, the slot, and the uid, that an expression is
abbrev pub unknown_here : Tree → Option Unknown
unknown_here (unknown n a) = Some (record { name = n; annotation = a })
unknown_here t = None

abbrev pub slot_here : Tree → Option SlotId
slot_here (slot s) = Some s
slot_here t = None

abbrev pub uid_here : Tree → Option Uid
uid_here (lit (entity u)) = Some u
uid_here t = None

-- the unknowns and the slots of an expression, each occurrence
abbrev pub unknowns : Tree → List Unknown
unknowns t = filter_map unknown_here (subexpressions t)

abbrev pub slots : Tree → List SlotId
slots t = filter_map slot_here (subexpressions t)

-- a literal, an unknown, a set, a variable or a record
abbrev pub may_project : Tree → Bool
may_project (lit p) = true
may_project (var x) = true
may_project (unknown n a) = true
may_project (set_literal ts) = true
may_project (record_literal fs) = true
may_project t = false

-- projectable: each subexpression is such a one
abbrev pub is_projectable : Tree → Bool
is_projectable t = list_all may_project (subexpressions t)

-- children in a row, and the fields of a record, as lists
abbrev pub listed : Trees → List Tree
listed no_trees = []
listed (tree t ts) = t ∷ listed ts

abbrev pub listed_fields : TreeFields → List (Text × Tree)
listed_fields no_tree_fields = []
listed_fields (tree_field a t fs) = (a, t) ∷ listed_fields fs

-- a reference, which is a uid as a literal, and a set of references
abbrev pub is_ref : Tree → Bool
is_ref t = is_some (uid_here t)

abbrev pub is_ref_set : Tree → Bool
is_ref_set (set_literal ts) = list_all is_ref (listed ts)
is_ref_set t = false
