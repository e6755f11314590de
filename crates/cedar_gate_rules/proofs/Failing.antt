-- One that fails a test fails it for all.
use Rattle.std.proofs.Common.{◌≡◌, ℕ, ◌<◌, Bool, false, List, length, get_or, sym, ap, ◌∙◌}
use Rattle.std.specs.Prelude.{map}
use Rattle.std.specs.List.{list_all}
use Rattle.std.proofs.lemmas.List.Folds.{list_all_at, list_all-map}

pub one_fails : {X Y : Type 0} (f : X → Y) (p : Y → Bool) (xs : List X) (i : ℕ) (x : X) → i < length xs → x ≡ get_or xs i x → p (f x) ≡ false → false ≡ list_all p (map f xs)
one_fails f p xs i x h e k = sym (list_all-map p f xs ∙ list_all_at (λ z. p (f z)) xs i x h (ap (λ z. p (f z)) (sym e) ∙ k))
