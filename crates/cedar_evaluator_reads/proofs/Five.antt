-- The first five names of a list, one after the other.
use Rattle.std.proofs.Common.{◌≡◌, ◌≤◌, List, [], ◌∷◌, ◌++◌, map, length, take, refl, sym, ap, subst, ◌∙◌, append-nil}
use Rattle.std.proofs.Math.Seq.{take-append_seam}
use Rattle.std.proofs.lemmas.List.{length-map, take_all}
use Rattle.std.specs.Rc.{rc_str_bytes}
use Rattle.std.specs.declared.alloc.Global.{Global}
use Rattle.std.specs.declared.rc.RcStr.{RcStr}
use Rattle.cedar_expr_model.specs.Name.{Text}

abbrev pub texts : List (RcStr Global) → List Text
texts ns = map rc_str_bytes ns

-- one name more
pub one_more : (all : List Text) (done more names later : List (RcStr Global)) (n k : RcStr Global) → texts done ++ texts names ≡ all → names ≡ k ∷ later → rc_str_bytes n ≡ rc_str_bytes k → more ≡ done ++ n ∷ [] → texts more ++ texts later ≡ all
one_more all done more names later n k h a same m =
    ap (λ ds. texts ds ++ texts later) m
    ∙ go done
    ∙ ap (λ b. texts done ++ (b ∷ texts later)) same
    ∙ ap (λ ks. texts done ++ texts ks) (sym a)
    ∙ h
  where
    go : (ds : List (RcStr Global)) → texts (ds ++ n ∷ []) ++ texts later ≡ texts ds ++ (rc_str_bytes n ∷ texts later)
    go [] = refl
    go (d ∷ ds) = ap (λ ns. rc_str_bytes d ∷ ns) (go ds)

-- five are there, or there are no more
pub five : (all : List Text) (done names : List (RcStr Global)) → texts done ++ texts names ≡ all → length done ≡ 5 → texts done ≡ take 5 all
five all done names h n = sym (take-append_seam (texts done) (texts names)) ∙ (λ i. take ((length-map done rc_str_bytes ∙ n) i) (h i))

pub fewer : (all : List Text) (done names : List (RcStr Global)) → texts done ++ texts names ≡ all → names ≡ [] → length done ≤ 5 → texts done ≡ take 5 all
fewer all done names h a n =
    let whole : texts done ≡ all = sym (append-nil (texts done)) ∙ ap (λ ns. texts done ++ texts ns) (sym a) ∙ h in
    sym (take_all 5 (texts done) (subst (λ k. k ≤ 5) (sym (length-map done rc_str_bytes)) n)) ∙ ap (take 5) whole
