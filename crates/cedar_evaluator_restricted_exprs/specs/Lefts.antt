-- What an evaluation of restricted expressions leaves.
-- Rule: restricted expressions; partial evaluation (docs/RULES.md).
use Rattle.std.specs.Prelude.{◌≡◌, List, map, Bool, true, false, Some, None, Result, Ok, Err}
use Rattle.std.specs.Map.{keys_of}
use Rattle.std.specs.declared.alloc.Global.{Global}
use Rattle.std.specs.declared.rc.RcStr.{RcStr}
use Rattle.std.specs.declared.vec.Vec.{Vec}
use Rattle.cedar_expr_model.specs.Name.{Text}
use Rattle.cedar_expr_model.specs.Builder.{tree_fields}
use Rattle.cedar_expr_model.specs.Made.{Made}
use Rattle.cedar_expr_model.specs.Parts.{listed_fields}
use Rattle.cedar_expr_model.specs.ValueParts.{Part, all_known, part_tree}
use Rattle.cedar_expr_values.specs.Extensions.{extension_of}
use Rattle.cedar_expr_values.specs.Values.{made}
use Rattle.cedar_expr_values.specs.declared.extension.ExtValue.{ExtValue}
use Rattle.cedar_expr_trees.specs.Trees.{tree_of, named, field_trees}
use Rattle.cedar_expr_trees.specs.declared.expr.Expr.{Expr}
use Rattle.cedar_expr_partial.specs.Parts.{part_of}
use Rattle.cedar_expr_partial.specs.declared.partial_value.PartialValue.{PartialValue}
use Rattle.cedar_evaluator_errors.specs.Outcomes.{left_seen}
use Rattle.cedar_evaluator_model.specs.Scope.{Left, stopped}
use Rattle.cedar_evaluator_model.specs.Steps.{Pieces, pieces, halted}
use Rattle.cedar_evaluator_restricted_exprs.specs.declared.fault.RestrictedFault.{RestrictedFault}
use Rattle.cedar_evaluator_restricted_exprs.specs.declared.fault.RestrictedFault.TheVariants.{Stopped}
use Rattle.cedar_evaluator_restricted_exprs.specs.declared.value_parts.Parted.{Parted}
use Rattle.cedar_evaluator_restricted_exprs.specs.declared.value_parts.Parted.TheVariants as parted

abbrev pub is_stopped : Left → Bool
is_stopped (stopped s) = true
is_stopped l = false

abbrev pub is_halted : Pieces → Bool
is_halted (halted s) = true
is_halted (pieces ps) = false

-- This is left, or the evaluation stopped. Out of memory says nothing.
abbrev pub Leaves : Left → Result (PartialValue ExtValue) RestrictedFault → Type 0
Leaves l (Ok p) = l ≡ left_seen p
Leaves l (Err e) = e ≡ Stopped → is_stopped l ≡ true

abbrev pub parts_of : List (PartialValue ExtValue) → List (Part Made)
parts_of vs = map (part_of extension_of) vs

-- The pieces of several expressions are these parts in order, or the evaluation stopped. Out of memory says nothing.
abbrev pub ArePieces : Pieces → Result (Vec (PartialValue ExtValue) Global) RestrictedFault → Type 0
ArePieces p (Ok vs) = p ≡ pieces (parts_of vs.items)
ArePieces p (Err e) = e ≡ Stopped → is_halted p ≡ true

-- The parts are these values, or one is none and they are these expressions.
abbrev pub IsParted : List (Part Made) → Parted → Type 0
IsParted ps (parted.Values vs) = all_known ps ≡ Some (map (made extension_of) vs.items)
IsParted ps (parted.Exprs es) = (all_known ps ≡ None) × (map part_tree ps ≡ map tree_of es.items)

-- the names of a record's fields, in order
abbrev pub names_in : List (RcStr Global × Expr Unit) → List Text
names_in es = keys_of (listed_fields (tree_fields (named (field_trees es))))
