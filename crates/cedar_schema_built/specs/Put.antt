-- Lists in the order of names.
-- Rule: schemas (docs/RULES.md).
use Rattle.std.specs.Prelude.{List, [], ◌∷◌}
use Rattle.std.specs.Ordering.{match_ordering}
use Rattle.std.specs.declared.cmp.Ordering.{Ordering}

module _ {S A : Type 0} (by : S → S → Ordering) (name : A → S) where
  -- one more, at its place in the order of names, or in the place of the one of its name
  abbrev pub put : A → List A → List A
  put a [] = a ∷ []
  put a (b ∷ bs) = match_ordering (by (name a) (name b)) (a ∷ b ∷ bs) (a ∷ bs) (b ∷ put a bs)

  -- each of these, one after the other
  abbrev pub all_put : List A → List A → List A
  all_put bs [] = bs
  all_put bs (a ∷ as_) = all_put (put a bs) as_
