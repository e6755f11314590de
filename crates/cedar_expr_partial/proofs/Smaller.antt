-- The members of a set and the fields of a record are smaller than it.
use Rattle.std.proofs.Common.{◌≡◌, ℕ, ◌+◌, ◌*◌, ◌<◌, ◌≤◌, List, ◌∷◌, map, ap, arith}
use Rattle.std.specs.declared.alloc.Global.{Global}
use Rattle.std.specs.declared.rc.RcStr.{RcStr}
use Rattle.cedar_expr_values.specs.Extension.{Extension}
use Rattle.cedar_expr_values.specs.Kept.{made_size, mades_size, made_fields_size}
use Rattle.cedar_expr_values.specs.Values.{made, made_list, made_fields, made_pair}
use Rattle.cedar_expr_values.specs.declared.value.Value.{Value}

module _ {X : Type 0} (seen : X → Extension) where
  abbrev pub size_of : List (Value X) → ℕ
  size_of vs = mades_size (made_list (map (made seen) vs))

  abbrev pub fields_size_of : List (RcStr Global × Value X) → ℕ
  fields_size_of es = made_fields_size (made_fields (map (made_pair seen) es))

  pub one_is_smaller : (v : Value X) (vs ws : List (Value X)) (n t : ℕ) → vs ≡ v ∷ ws → size_of vs ≤ n → 3 * n + 3 ≡ t → 3 * made_size (made seen v) + 2 < t
  one_is_smaller v vs ws n t e h d = let f = ap size_of e in omega arith

  pub rest_is_smaller : (v : Value X) (vs ws : List (Value X)) (n : ℕ) → vs ≡ v ∷ ws → size_of vs ≤ n → size_of ws ≤ n
  rest_is_smaller v vs ws n e h = let f = ap size_of e in omega arith

  pub field_is_smaller : (e : RcStr Global × Value X) (es fs : List (RcStr Global × Value X)) (n t : ℕ) → es ≡ e ∷ fs → fields_size_of es ≤ n → 3 * n + 3 ≡ t → 3 * made_size (made seen e.1) + 2 < t
  field_is_smaller e es fs n t i h d = let f = ap fields_size_of i in omega arith

  pub fields_are_smaller : (e : RcStr Global × Value X) (es fs : List (RcStr Global × Value X)) (n : ℕ) → es ≡ e ∷ fs → fields_size_of es ≤ n → fields_size_of fs ≤ n
  fields_are_smaller e es fs n i h = let f = ap fields_size_of i in omega arith
