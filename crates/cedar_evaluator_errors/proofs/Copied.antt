-- Copies of lists, item by item.
use Rattle.std.proofs.Common.{◌≡◌, List, [], ◌∷◌, map, refl}
use Rattle.std.specs.List.{AllZip}
use Rattle.std.specs.Rc.{rc_str_bytes}
use Rattle.std.specs.declared.alloc.Global.{Global}
use Rattle.std.specs.declared.rc.RcStr.{RcStr}
use Rattle.cedar_expr_values.specs.Types.{core_of}
use Rattle.cedar_expr_values.specs.declared.types.Type.{«Type» as CoreKind}

-- what is seen of copies, one by one
pub copies_are : {A B : Type 0} (seen : A → B) (alike : A → A → Type 0) → ((a b : A) → alike a b → seen b ≡ seen a) → (xs ys : List A) → AllZip alike xs ys → map seen ys ≡ map seen xs
copies_are seen alike same [] [] h = refl
copies_are seen alike same [] (y ∷ ys) h = absurd h
copies_are seen alike same (x ∷ xs) [] h = absurd h
copies_are seen alike same (x ∷ xs) (y ∷ ys) h = λ i. same x y h.0 i ∷ copies_are seen alike same xs ys h.1 i

pub texts_copied : (xs ys : List (RcStr Global)) → AllZip (λ s copy. rc_str_bytes copy ≡ rc_str_bytes s) xs ys → map (λ s. rc_str_bytes s) ys ≡ map (λ s. rc_str_bytes s) xs
texts_copied xs ys h = copies_are (λ s. rc_str_bytes s) (λ s copy. rc_str_bytes copy ≡ rc_str_bytes s) (λ s copy k. k) xs ys h

pub types_copied : (xs ys : List CoreKind) → AllZip (λ t copy. core_of copy ≡ core_of t) xs ys → map core_of ys ≡ map core_of xs
types_copied xs ys h = copies_are core_of (λ t copy. core_of copy ≡ core_of t) (λ t copy k. k) xs ys h
