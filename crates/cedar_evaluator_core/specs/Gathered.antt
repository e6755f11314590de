-- What several expressions leave, and whether they all are values.
-- Rule: partial evaluation (docs/RULES.md).
use Rattle.std.specs.Prelude.{◌≡◌, List, [], ◌∷◌, map, false, Some, None, Result, Ok, Err}
use Rattle.std.specs.declared.alloc.Global.{Global}
use Rattle.std.specs.declared.vec.Vec.{Vec}
use Rattle.cedar_expr_model.specs.Made.{Made}
use Rattle.cedar_expr_model.specs.ValueParts.{Part, all_known, part_tree}
use Rattle.cedar_expr_values.specs.Extensions.{extension_of}
use Rattle.cedar_expr_values.specs.Values.{made}
use Rattle.cedar_expr_values.specs.declared.extension.ExtValue.{ExtValue}
use Rattle.cedar_expr_trees.specs.Trees.{tree_of, named, field_trees}
use Rattle.cedar_expr_trees.specs.declared.expr.Expr.{Expr}
use Rattle.std.specs.Map.{keys_of}
use Rattle.std.specs.declared.rc.RcStr.{RcStr}
use Rattle.cedar_expr_model.specs.Name.{Text}
use Rattle.cedar_expr_model.specs.Builder.{tree_fields}
use Rattle.cedar_expr_model.specs.Parts.{listed_fields}
use Rattle.cedar_expr_partial.specs.Parts.{part_of}
use Rattle.cedar_expr_partial.specs.declared.partial_value.PartialValue.{PartialValue}
use Rattle.cedar_evaluator_model.specs.Steps.{Pieces, pieces, halted, with_piece, tag_left}
use Rattle.cedar_evaluator_model.specs.Scope.{Stop, Left, stopped}
use Rattle.cedar_evaluator_errors.specs.Outcomes.{is_memory, stop_or}
use Rattle.cedar_evaluator_errors.specs.declared.err.EvaluationError.{EvaluationError}
use Rattle.cedar_evaluator_core.specs.declared.parts.Parted.{Parted}
use Rattle.cedar_evaluator_core.specs.declared.parts.Parted.TheVariants as parted

abbrev pub parts_of : List (PartialValue ExtValue) → List (Part Made)
parts_of vs = map (part_of extension_of) vs

-- These are the pieces, or it stopped so. Out of memory says nothing.
abbrev pub ArePieces : Pieces → Result (Vec (PartialValue ExtValue) Global) EvaluationError → Type 0
ArePieces p (Ok vs) = p ≡ pieces (parts_of vs.items)
ArePieces p (Err e) = (other : Stop) → is_memory e ≡ false → p ≡ halted (stop_or other e)

-- The parts are these values, or one is none and they are these expressions.
abbrev pub IsParted : List (Part Made) → Parted → Type 0
IsParted ps (parted.Values vs) = all_known ps ≡ Some (map (made extension_of) vs.items)
IsParted ps (parted.Exprs es) = (all_known ps ≡ None) × (map part_tree ps ≡ map tree_of es.items)

-- the names of a record's fields, in order
abbrev pub names_in : List (RcStr Global × Expr Unit) → List Text
names_in es = keys_of (listed_fields (tree_fields (named (field_trees es))))

-- what was left so far, and then the rest
abbrev pub onto : List (Part Made) → Pieces → Pieces
onto [] r = r
onto (p ∷ ps) r = with_piece (tag_left p) (onto ps r)

-- These are the parts so far and what is left of one more, or it stopped so. Out of memory says nothing.
abbrev pub IsLonger : List (PartialValue ExtValue) → Left → Result (Vec (PartialValue ExtValue) Global) EvaluationError → Type 0
IsLonger done l (Ok more) = (rest : Pieces) → onto (parts_of more.items) rest ≡ onto (parts_of done) (with_piece l rest)
IsLonger done l (Err e) = (other : Stop) → is_memory e ≡ false → l ≡ stopped (stop_or other e)
