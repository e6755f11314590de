-- Writing a name part by part.
use Rattle.std.proofs.Common.{◌≡◌, ℕ, ◌≤◌, length, take, List, [], ◌∷◌, ◌++◌, map, refl, ap}
use Rattle.std.proofs.lemmas.List.{take_all}
use mathlib.Core.List.{append_assoc}
use Rattle.std.specs.List.{flat_map}
use Rattle.cedar_expr_model.specs.Name.{Text, colons, joined}
use Rattle.cedar_expr_names.specs.declared.id.Id.{Id}
use Rattle.cedar_expr_names.specs.Ids.{id_text}

-- a part with the double colon that ends it
abbrev pub ended : Id → Text
ended i = id_text i ++ colons

pub joined_is : (ids : List Id) (base : Text) → flat_map ended ids ++ base ≡ joined (map id_text ids) base
joined_is [] base = refl
joined_is (i ∷ ids) base = rw (append_assoc, append_assoc) (ap (λ t. id_text i ++ (colons ++ t)) (joined_is ids base))

pub all_joined : (ids xs : List Id) (n : ℕ) (base : Text) → xs ≡ ids → length xs ≤ n → flat_map ended (take n xs) ++ base ≡ joined (map id_text ids) base
all_joined ids xs n base e h = rw (take_all, e) (joined_is ids base)
