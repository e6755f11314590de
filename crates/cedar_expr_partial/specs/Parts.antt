-- What the code's partial values are in the model, and what their refusals say.
-- Rule: values and equality; parts of an expression (docs/RULES.md).
use Rattle.std.specs.Prelude.{◌≡◌, map, Option, None, option_map}
use Rattle.std.specs.Rc.{rc_str_bytes}
use Rattle.std.specs.Vec.Iter.{into_iter_items}
use Rattle.std.specs.declared.vec.IntoIter.{IntoIter}
use Rattle.std.specs.declared.alloc.Global.{Global}
use Rattle.std.specs.declared.rc.RcStr.{RcStr}
use Rattle.std.specs.declared.result.Result.{Result}
use Rattle.std.specs.declared.result.Result.TheVariants.{Ok, Err}
use Rattle.either.specs.declared.Either.{Either}
use Rattle.either.specs.declared.Either.TheVariants.{Left, Right}
use Rattle.cedar_expr_names.specs.declared.loc.Loc.{Loc}
use Rattle.cedar_expr_model.specs.Name.{Text}
use Rattle.cedar_expr_model.specs.Value.{V}
use Rattle.cedar_expr_model.specs.Tree.{Tree}
use Rattle.cedar_expr_model.specs.Made.{Made, written}
use Rattle.cedar_expr_model.specs.ValueParts.{value_of_tree, Part, known, left, Split, values_alone, with_residuals}
use Rattle.cedar_expr_values.specs.Extension.{Extension}
use Rattle.cedar_expr_values.specs.Values.{made, place_of as value_place}
use Rattle.cedar_expr_values.specs.declared.value.Value.{Value}
use Rattle.cedar_expr_trees.specs.Trees.{tree_of, place_of}
use Rattle.cedar_expr_trees.specs.declared.expr.Expr.{Expr}
use Rattle.cedar_expr_partial.specs.declared.err.ContainsUnknown.{ContainsUnknown}
use Rattle.cedar_expr_partial.specs.declared.err.NotValue.{NotValue as Fault}
use Rattle.cedar_expr_partial.specs.declared.err.NotValue.TheVariants.{OutOfMemory, NotValue}
use Rattle.cedar_expr_partial.specs.declared.err.PartialValueToValueError.{PartialValueToValueError}
use Rattle.cedar_expr_partial.specs.declared.err.PartialValueToValueError.TheVariants as to_value
use Rattle.cedar_expr_partial.specs.declared.partial_value.PartialValue.{PartialValue}
use Rattle.cedar_expr_partial.specs.declared.partial_value.PartialValue.TheVariants.{Value as Whole, Residual}

-- a value as it was made, or what is left of an expression
abbrev pub part_of : {X : Type 0} → (X → Extension) → PartialValue X → Part Made
part_of seen (Whole v) = known (made seen v)
part_of seen (Residual e) = left (tree_of e)

-- where it stands in its source
abbrev pub part_place : {X : Type 0} → PartialValue X → Option Loc
part_place (Whole v) = value_place v
part_place (Residual e) = place_of e

-- what a refusal says is left, and where that stands
abbrev pub left_of : ContainsUnknown → Tree
left_of e = tree_of e.residual

abbrev pub left_place : ContainsUnknown → Option Loc
left_place e = place_of e.residual

-- The value at its place, where it is one; else the refusal says what is left.
abbrev pub GivesValue : {X : Type 0} → (X → Extension) → PartialValue X → Result (Value X) PartialValueToValueError → Type 0
GivesValue seen p (Ok v) = (part_of seen p ≡ known (made seen v)) × (part_place p ≡ value_place v)
GivesValue seen p (Err (to_value.ContainsUnknown e)) = (part_of seen p ≡ left (left_of e)) × (part_place p ≡ left_place e)

-- a list split: its values, or its expressions
abbrev pub split_of : {X : Type 0} → (X → Extension) → Either (IntoIter (Value X) Global) (IntoIter (Expr Unit) Global) → Split
split_of seen (Left vs) = values_alone (map (made seen) (into_iter_items vs))
split_of seen (Right es) = with_residuals (map tree_of (into_iter_items es))

-- a name with the expression that a value is written as
abbrev pub written_pair : {X : Type 0} → (X → Extension) → RcStr Global × Value X → Text × Tree
written_pair seen p = (rc_str_bytes p.0, written (made seen p.1))

-- the value that an expression is
abbrev pub value_shown : {T : Type 0} → Expr T → Option V
value_shown e = value_of_tree (tree_of e)

-- a name with the value that an expression is
abbrev pub field_shown : {T : Type 0} → RcStr Global × Expr T → Option (Text × V)
field_shown p = option_map (λ v. (rc_str_bytes p.0, v)) (value_shown p.1)

-- The fault is there: there is no value. Out of memory says nothing.
abbrev pub IsNoValue : {A : Type 0} → Option A → Fault → Type 0
IsNoValue o OutOfMemory = Unit {0}
IsNoValue o (NotValue loc) = o ≡ None
