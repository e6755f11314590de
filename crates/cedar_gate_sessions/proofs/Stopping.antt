-- Going over a list with a test.
use Rattle.std.proofs.Common.{◌≡◌, ◌<◌, Bool, false, ℕ, List, sym, ap, ◌∙◌, map, length, get_or}
use Rattle.std.proofs.lemmas.List.Folds.{list_all-map, list_all_at}
use Rattle.std.specs.List.{list_all}

-- the test fails at one
pub all_stop : {X Y : Type 0} (p : X → Bool) (h : Y → X) (xs : List Y) (i : ℕ) (x : Y) → i < length xs → x ≡ get_or xs i x → p (h x) ≡ false → list_all p (map h xs) ≡ false
all_stop p h xs i x l is fails = list_all-map p h xs ∙ list_all_at (λ y. p (h y)) xs i x l (ap (λ y. p (h y)) (sym is) ∙ fails)
