-- A text among texts.
use Rattle.std.proofs.Common.{◌≡◌, ◌||◌, List, [], ◌∷◌, map, refl}
use Rattle.std.proofs.lemmas.Map.Text.{is_eq-slice_cmp}
use Rattle.std.specs.BTreeMap.{is_at}
use Rattle.std.specs.Cmp.Lexicographic.{slice_cmp}
use Rattle.std.specs.List.{list_any}
use Rattle.std.specs.Ordering.{nat_cmp}
use Rattle.std.specs.Rc.{rc_str_bytes}
use Rattle.std.specs.Str.{bytes_eq}
use Rattle.std.specs.declared.alloc.Global.{Global}
use Rattle.std.specs.declared.rc.RcStr.{RcStr}
use Rattle.cedar_expr_model.specs.Name.{Text}

pub text_among : (t : Text) (ks : List (RcStr Global)) → list_any (is_at (λ k. slice_cmp nat_cmp t (rc_str_bytes k))) ks ≡ list_any (bytes_eq t) (map rc_str_bytes ks)
text_among t [] = refl
text_among t (k ∷ ks) = λ i. is_eq-slice_cmp t (rc_str_bytes k) i || text_among t ks i
