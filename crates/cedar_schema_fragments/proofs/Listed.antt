-- The names of what is declared, one after the other.
use Rattle.std.proofs.Common.{◌≡◌, List, [], ◌∷◌, map, refl, ap, ◌∙◌}

again : {K D X : Type 0} (f : K → X) (es : List (K × D)) → map f (map (λ e. e.0) es) ≡ map (λ e. f e.0) es
again f [] = refl
again f (e ∷ es) = ap (λ xs. f e.0 ∷ xs) (again f es)

pub listed : {K D X : Type 0} (f : K → X) (ks : List K) (slice items : List (K × D)) → ks ≡ map (λ e. e.0) slice → slice ≡ items → map f ks ≡ map (λ e. f e.0) items
listed f ks slice items h e = ap (map f) h ∙ again f slice ∙ ap (map (λ x. f x.0)) e
