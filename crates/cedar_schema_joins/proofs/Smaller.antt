-- How much stands in members of a set and in fields of a record.
use Rattle.std.proofs.Common.{ℕ, List, map}
use Rattle.std.specs.declared.alloc.Global.{Global}
use Rattle.std.specs.declared.rc.RcStr.{RcStr}
use Rattle.cedar_expr_values.specs.Extension.{Extension}
use Rattle.cedar_expr_values.specs.Kept.{mades_size, made_fields_size}
use Rattle.cedar_expr_values.specs.Values.{made, made_list, made_fields, made_pair}
use Rattle.cedar_expr_values.specs.declared.value.Value.{Value}

module _ {X : Type 0} (seen : X → Extension) where
  abbrev pub size_of : List (Value X) → ℕ
  size_of vs = mades_size (made_list (map (made seen) vs))

  abbrev pub fields_size_of : List (RcStr Global × Value X) → ℕ
  fields_size_of es = made_fields_size (made_fields (map (made_pair seen) es))
