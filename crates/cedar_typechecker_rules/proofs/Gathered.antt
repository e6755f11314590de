-- What is given of each, one after the other: that of those so far, and then that of the rest.
use Rattle.std.proofs.Common.{◌≡◌, List, [], ◌∷◌, ◌++◌, Option, Some, None, option_map, option_and_then, refl, sym, ap, ◌∙◌, append_assoc, append-nil}
use Rattle.cedar_expr_model.specs.Lists.{all_given}

module _ {X Y : Type 0} (f : X → Option Y) where
  abbrev pub left_to_give : List Y → List X → Option (List Y)
  left_to_give done xs = option_map (λ ys. done ++ ys) (all_given f xs)

  nothing_done : (o : Option (List Y)) → option_map (λ ys. [] ++ ys) o ≡ o
  nothing_done None = refl
  nothing_done (Some ys) = refl

  pub gives_first : (xs : List X) → left_to_give [] xs ≡ all_given f xs
  gives_first xs = nothing_done (all_given f xs)

  more : (done : List Y) (y : Y) (o : Option (List Y)) → option_map (λ ys. (done ++ y ∷ []) ++ ys) o ≡ option_map (λ ys. done ++ ys) (option_map (λ ys. y ∷ ys) o)
  more done y None = refl
  more done y (Some ys) = ap Some (append_assoc done (y ∷ []) ys)

  abbrev onwards : List Y → List X → Option Y → Option (List Y)
  onwards done xs o = option_map (λ ys. done ++ ys) (option_and_then (λ y. option_map (λ ys. y ∷ ys) (all_given f xs)) o)

  pub gives_on : (done now : List Y) (x : X) (y : Y) (xs : List X) (whole : Option (List Y)) → left_to_give done (x ∷ xs) ≡ whole → Some y ≡ f x → now ≡ done ++ y ∷ [] → left_to_give now xs ≡ whole
  gives_on done now x y xs whole h there e = ap (λ ds. left_to_give ds xs) e ∙ more done y (all_given f xs) ∙ ap (onwards done xs) there ∙ h

  pub gives_none : (done : List Y) (x : X) (xs : List X) (whole : Option (List Y)) → left_to_give done (x ∷ xs) ≡ whole → None ≡ f x → None ≡ whole
  gives_none done x xs whole h e = ap (onwards done xs) e ∙ h

  pub gives_all : (done : List Y) (xs : List X) (whole : Option (List Y)) → left_to_give done xs ≡ whole → xs ≡ [] → Some done ≡ whole
  gives_all done xs whole h e = ap Some (sym (append-nil done)) ∙ ap (left_to_give done) (sym e) ∙ h
