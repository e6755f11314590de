-- The names of a map rise.
use Rattle.std.proofs.Common.{◌≡◌, true, List, [], ◌∷◌, map, refl}
use Rattle.std.specs.List.Sorted.{IsStrictlySortedBy}
use Rattle.std.specs.Map.{keys_of}
use Rattle.std.specs.Rc.{rc_str_bytes}
use Rattle.std.specs.declared.alloc.Global.{Global}
use Rattle.std.specs.declared.rc.RcStr.{RcStr}
use Rattle.cedar_expr_model.specs.Order.{text_cmp}
use Rattle.cedar_expr_model.specs.Records.{names_rise}
use Rattle.cedar_expr_model.proofs.Lists.{hold_both}
use Rattle.cedar_expr_model.proofs.Rising.{is_less}
use Rattle.cedar_expr_values.specs.Fields.{by_text}

pub names_ascend : {A : Type 0} (es : List (RcStr Global × A)) → IsStrictlySortedBy (λ a b. text_cmp (rc_str_bytes a) (rc_str_bytes b)) (keys_of es) → names_rise (map by_text es) ≡ true
unfolding IsStrictlySortedBy
names_ascend [] s = refl
names_ascend (e ∷ []) s = refl
names_ascend (e ∷ f ∷ es) s = hold_both _ _ (is_less (text_cmp (rc_str_bytes e.0) (rc_str_bytes f.0)) (s.0).0) (names_ascend (f ∷ es) s.1)
