-- Whether one of several passes a test: ten of them, turned.
use Rattle.std.proofs.Common.{◌≡◌, Bool, true, false, ◌||◌, List, refl, sym, ap, ◌∙◌}
use Rattle.std.specs.List.{list_any}
use Rattle.cedar_schema_fragments.proofs.Anys.{or_right, or_turned, any_or}

or_turn : (a b : Bool) → (a || b) ≡ (b || a)
or_turn true true = refl
or_turn true false = refl
or_turn false true = refl
or_turn false false = refl

-- names, references, extension types of common types, of entity types and of actions, with parents of actions last
pub ten_turned : (a b c d e f g h i k : Bool)
    → ((a || (b || c)) || ((d || (e || f)) || (g || (k || (h || i)))))
    ≡ (a || (d || (g || ((b || (e || h)) || ((c || (f || i)) || k)))))
ten_turned a b c d e f g h i k =
    ap (λ x. (a || (b || c)) || ((d || (e || f)) || (g || x))) (or_turn k (h || i))
    ∙ ap (λ x. (a || (b || c)) || ((d || (e || f)) || x)) (or_right g (h || i) k)
    ∙ ap (λ x. (a || (b || c)) || x) (or_right (d || (e || f)) (g || (h || i)) k)
    ∙ or_right (a || (b || c)) ((d || (e || f)) || (g || (h || i))) k
    ∙ ap (λ x. x || k) (or_turned a b c d e f g h i)
    ∙ sym (or_right (a || (d || g)) ((b || (e || h)) || (c || (f || i))) k)
    ∙ ap (λ x. (a || (d || g)) || x) (sym (or_right (b || (e || h)) (c || (f || i)) k))
    ∙ sym (or_right a (d || g) ((b || (e || h)) || ((c || (f || i)) || k)))
    ∙ ap (λ x. a || x) (sym (or_right d g ((b || (e || h)) || ((c || (f || i)) || k))))

module _ {A : Type 0} where
  pub any_or6 : (p q r s t u : A → Bool) (xs : List A) → list_any (λ x. p x || (q x || (r x || (s x || (t x || u x))))) xs ≡ (list_any p xs || (list_any q xs || (list_any r xs || (list_any s xs || (list_any t xs || list_any u xs)))))
  any_or6 p q r s t u xs =
      any_or p (λ x. q x || (r x || (s x || (t x || u x)))) xs
      ∙ ap (λ b. list_any p xs || b)
      (any_or q (λ x. r x || (s x || (t x || u x))) xs
      ∙ ap (λ b. list_any q xs || b)
      (any_or r (λ x. s x || (t x || u x)) xs
      ∙ ap (λ b. list_any r xs || b)
      (any_or s (λ x. t x || u x) xs
      ∙ ap (λ b. list_any s xs || b) (any_or t u xs))))
