-- Extension values as contracts see them, and their order.
-- Rule: values and equality; extension functions (docs/RULES.md).
use Rattle.std.specs.Prelude.{List}
use Rattle.std.specs.Ordering.{ordering_then}
use Rattle.std.specs.declared.cmp.Ordering.{Ordering}
use Rattle.cedar_expr_model.specs.Name.{Text, Name}
use Rattle.cedar_expr_model.specs.Value.{Literal}
use Rattle.cedar_expr_model.specs.Order.{text_cmp, name_order}
use Rattle.cedar_expr_model.specs.Made.{Made, made_extension}

-- An extension value: its type, its key, and the function and literals of a call that makes it.
pub record Extension : Type 0 where
  pub kind : Name
  pub key : Text
  pub function : Name
  pub arguments : List Literal

-- extension values by their types and then by their keys; the call doesn't count
abbrev pub extension_cmp : Extension → Extension → Ordering
extension_cmp x y = ordering_then (name_order x.kind y.kind) (text_cmp x.key y.key)

-- the value as it was made
abbrev pub made_of_extension : Extension → Made
made_of_extension x = made_extension x.kind x.key x.function x.arguments
