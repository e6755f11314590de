-- How many names stand over made fields.
use Rattle.std.proofs.Common.{◌≡◌, List, [], ◌∷◌, map, suc, length, refl, ap}
use Rattle.std.specs.declared.alloc.Global.{Global}
use Rattle.std.specs.declared.rc.RcStr.{RcStr}
use Rattle.cedar_expr_values.specs.Extension.{Extension}
use Rattle.cedar_expr_values.specs.Values.{made_fields, made_pair}
use Rattle.cedar_expr_values.specs.declared.value.Value.{Value}
use Rattle.cedar_evaluator_requests.specs.Views.{names_made}

-- one over each
pub as_many : {X : Type 0} (seen : X → Extension) (es : List (RcStr Global × Value X)) → length es ≡ length (names_made (made_fields (map (made_pair seen) es)))
as_many seen [] = refl
as_many seen (e ∷ es) = ap suc (as_many seen es)
