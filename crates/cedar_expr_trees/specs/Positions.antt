-- The subexpressions of a code expression, and what is left to iterators over them.
-- Rule: parts of an expression (docs/RULES.md).
use Rattle.std.specs.Prelude.{List, [], ◌∷◌, ◌++◌, Option, Some, None, map}
use Rattle.std.specs.List.{filter_map}
use Rattle.std.specs.Vec.Iter.{into_iter_items}
use Rattle.cedar_expr_names.specs.declared.loc.Loc.{Loc}
use Rattle.cedar_expr_leaves.specs.declared.slot.Slot as code
use Rattle.cedar_expr_leaves.specs.Slots.{slot_of}
use Rattle.cedar_expr_model.specs.Parts as model
use Rattle.cedar_expr_model.specs.Tree.{SlotId}
use Rattle.cedar_expr_trees.specs.Unknowns.{unknown_of}
use Rattle.cedar_expr_trees.specs.declared.expr.Expr.{Expr}
use Rattle.cedar_expr_trees.specs.declared.expr.ExprKind.{ExprKind, Row_of-Expr, end_of-Expr, more_of-Expr, Lit, Var, Slot, Unknown, If', And', Or', UnaryApp', BinaryApp', ExtensionFunctionApp', GetAttr', HasAttr', ExtHasAttr', Like', Is', Set', Record'}
use Rattle.cedar_expr_trees.specs.declared.expr_iterator.ExprIterator.{ExprIterator}
use Rattle.cedar_expr_trees.specs.declared.expr_iterator.Slots.{Slots}
use Rattle.cedar_expr_trees.specs.declared.expr_iterator.Unknowns.{Unknowns}

-- an expression of these parts
abbrev pub expr_of : {T : Type 0} → ExprKind T → Option Loc → T → Expr T
expr_of k l d = record { expr_kind = k; source_loc = l; «data» = d }

-- The subexpressions below an expression of this kind: each child, and then what is below it, in order.
abbrev mutual
  pub below : {T : Type 0} → ExprKind T → List (Expr T)
  below (Lit p) = []
  below (Var x) = []
  below (Slot s) = []
  below (Unknown u) = []
  below (If' p k l d q m n e r s u f) = (expr_of k l d ∷ below k) ++ ((expr_of m n e ∷ below m) ++ (expr_of s u f ∷ below s))
  below (And' p k l d q m n e) = (expr_of k l d ∷ below k) ++ (expr_of m n e ∷ below m)
  below (Or' p k l d q m n e) = (expr_of k l d ∷ below k) ++ (expr_of m n e ∷ below m)
  below (UnaryApp' o p k l d) = expr_of k l d ∷ below k
  below (BinaryApp' o p k l d q m n e) = (expr_of k l d ∷ below k) ++ (expr_of m n e ∷ below m)
  below (ExtensionFunctionApp' f p s row) = row_below row
  below (GetAttr' p k l d a) = expr_of k l d ∷ below k
  below (HasAttr' p k l d a) = expr_of k l d ∷ below k
  below (ExtHasAttr' p k l d as_) = expr_of k l d ∷ below k
  below (Like' p k l d q) = expr_of k l d ∷ below k
  below (Is' p k l d n) = expr_of k l d ∷ below k
  below (Set' p s row) = row_below row
  below (Record' p s row) = row_below row

  pub row_below : {T : Type 0} {n : _} → Row_of-Expr T n → List (Expr T)
  row_below end_of-Expr = []
  row_below (more_of-Expr k l d rest) = (expr_of k l d ∷ below k) ++ row_below rest

-- the subexpressions of an expression, each of its places once: it, and then what is below it
abbrev pub positions : {T : Type 0} → Expr T → List (Expr T)
positions e = e ∷ below e.expr_kind

-- the slot that an expression is, with its place
abbrev pub slot_kind : {T : Type 0} → Option Loc → ExprKind T → Option (SlotId × Option Loc)
slot_kind l (Slot s) = Some (slot_of s, l)
slot_kind l k = None

abbrev pub slot_at : {T : Type 0} → Expr T → Option (SlotId × Option Loc)
slot_at e = slot_kind e.source_loc e.expr_kind

-- the unknown that an expression is
abbrev pub unknown_kind : {T : Type 0} → ExprKind T → Option model.Unknown
unknown_kind (Unknown u) = Some (unknown_of u)
unknown_kind k = None

abbrev pub unknown_at : {T : Type 0} → Expr T → Option model.Unknown
unknown_at e = unknown_kind e.expr_kind

-- a slot with its place
abbrev pub slot_placed : code.Slot → SlotId × Option Loc
slot_placed s = (slot_of s.id, s.loc)

-- what is left to the iterators
abbrev pub exprs_left : {T : Type 0} → ExprIterator T → List (Expr T)
exprs_left i = map (λ e. e.now) (into_iter_items i.exprs)

abbrev pub slots_left : {T : Type 0} → Slots T → List (SlotId × Option Loc)
slots_left i = filter_map slot_at (exprs_left i.exprs)

abbrev pub unknowns_left : {T : Type 0} → Unknowns T → List model.Unknown
unknowns_left i = filter_map unknown_at (exprs_left i.exprs)
