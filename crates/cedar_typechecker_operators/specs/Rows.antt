-- Expressions in a row, and fields, with the types of their parts.
-- Rule: typing (docs/RULES.md).
use Rattle.std.specs.Prelude.{List, [], ◌∷◌, true, Option, Some, None, option_map, option_and_then}
use Rattle.std.specs.Rc.{rc_str_bytes}
use Rattle.std.specs.declared.alloc.Global.{Global}
use Rattle.std.specs.declared.collections.BTreeMap.{BTreeMap}
use Rattle.std.specs.declared.rc.RcStr.{RcStr}
use Rattle.std.specs.declared.vec.Vec.{Vec}
use Rattle.cedar_expr_model.specs.Name.{Text}
use Rattle.cedar_expr_trees.specs.declared.expr.Expr.{Expr}
use Rattle.cedar_schema_model.specs.Types.{Ty, Declared}
use Rattle.cedar_schema_types.specs.declared.types.Type.{«Type» as CodeType}
use Rattle.cedar_typechecker_model.specs.Facts.{no_facts}
use Rattle.cedar_typechecker_model.specs.Typed.{Row, no_row, row_with, FieldRow, no_field_row, field_row_with}
use Rattle.cedar_typechecker_answers.specs.Marked.{type_in}
use Rattle.cedar_typechecker_answers.specs.Answers.{typed_at}

-- these, and then a row
abbrev pub then_row : List (Expr (Option CodeType)) → Option Row → Option Row
then_row [] o = o
then_row (e ∷ es) o = option_and_then (λ x. option_map (row_with x) (then_row es o)) (typed_at e no_facts e.«data»)

abbrev pub row_found : Option (Vec (Expr (Option CodeType)) Global) → Option Row
row_found None = None
row_found (Some v) = then_row v.items (Some no_row)

-- these fields, and then others
abbrev pub then_fields : List (RcStr Global × Expr (Option CodeType)) → Option FieldRow → Option FieldRow
then_fields [] o = o
then_fields (p ∷ ps) o = option_and_then (λ x. option_map (field_row_with (rc_str_bytes p.0) x) (then_fields ps o)) (typed_at p.1 no_facts p.1.«data»)

abbrev pub fields_found : Option (BTreeMap (RcStr Global) (Expr (Option CodeType)) Global) → Option FieldRow
fields_found None = None
fields_found (Some m) = then_fields m.entries (Some no_field_row)

-- the type of an expression, and of a field, which is required
abbrev pub type_at : Expr (Option CodeType) → Option Ty
type_at e = type_in e.«data»

abbrev pub required_at : RcStr Global × Expr (Option CodeType) → Option (Text × Declared)
required_at e = option_map (λ t. (rc_str_bytes e.0, record { type = t; is_required = true })) (type_at e.1)
