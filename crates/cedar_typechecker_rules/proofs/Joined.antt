-- Joins of several types, one after the other, as far as each is given.
use Rattle.std.proofs.Common.{◌≡◌, ℕ, ◌+◌, ◌<◌, List, [], ◌∷◌, map, drop, length, get_or, Option, Some, None, option_map, option_and_then, refl, sym, ap, ◌∙◌}
use Rattle.std.proofs.lemmas.List.{drop_more}
use Rattle.cedar_expr_model.specs.Lists.{all_given}
use Rattle.cedar_schema_model.specs.Types.{Ty, Mode}
use Rattle.cedar_schema_model.specs.Join.{join}
use Rattle.cedar_schema_model.proofs.Named.{join_all}

nothing_joins : (m : Mode) (us : List Ty) → join_all m None us ≡ None
nothing_joins m [] = refl
nothing_joins m (u ∷ us) = nothing_joins m us

module _ {X : Type 0} (m : Mode) (f : X → Option Ty) where
  -- the join so far with what is given of the rest
  abbrev pub left_to_join : Ty → List X → Option Ty
  left_to_join j xs = option_and_then (join_all m (Some j)) (all_given f xs)

  more : (j k t : Ty) (o : Option (List Ty)) → Some k ≡ join m j t → option_and_then (join_all m (Some k)) o ≡ option_and_then (join_all m (Some j)) (option_map (λ ts. t ∷ ts) o)
  more j k t None e = refl
  more j k t (Some ts) e = ap (λ o. join_all m o ts) e

  apart : (j t : Ty) (o : Option (List Ty)) → None ≡ join m j t → None ≡ option_and_then (join_all m (Some j)) (option_map (λ ts. t ∷ ts) o)
  apart j t None e = refl
  apart j t (Some ts) e = sym (nothing_joins m ts) ∙ ap (λ o. join_all m o ts) e

  abbrev onwards : Ty → List X → Option Ty → Option Ty
  onwards j xs o = option_and_then (join_all m (Some j)) (option_and_then (λ y. option_map (λ ys. y ∷ ys) (all_given f xs)) o)

  pub joins_on : (j k t : Ty) (x : X) (xs : List X) (whole : Option Ty) → left_to_join j (x ∷ xs) ≡ whole → Some t ≡ f x → Some k ≡ join m j t → left_to_join k xs ≡ whole
  joins_on j k t x xs whole h there e = more j k t (all_given f xs) e ∙ ap (onwards j xs) there ∙ h

  pub joins_apart : (j t : Ty) (x : X) (xs : List X) (whole : Option Ty) → left_to_join j (x ∷ xs) ≡ whole → Some t ≡ f x → None ≡ join m j t → None ≡ whole
  joins_apart j t x xs whole h there e = apart j t (all_given f xs) e ∙ ap (onwards j xs) there ∙ h

  pub joins_lacks : (j : Ty) (x : X) (xs : List X) (whole : Option Ty) → left_to_join j (x ∷ xs) ≡ whole → None ≡ f x → None ≡ whole
  joins_lacks j x xs whole h e = ap (onwards j xs) e ∙ h

  pub joins_end : (j : Ty) (xs : List X) (whole : Option Ty) → left_to_join j xs ≡ whole → xs ≡ [] → Some j ≡ whole
  joins_end j xs whole h e = ap (left_to_join j) (sym e) ∙ h

-- at an index the next type doesn't join
pub stops_at : {A : Type 0} (m : Mode) (view : A → Ty) (xs : List A) (i : ℕ) (x d : A) (j : Ty) (whole : Option Ty) → i < length xs → x ≡ get_or xs i d → join_all m (Some j) (map view (drop i xs)) ≡ whole → None ≡ join m j (view x) → None ≡ whole
stops_at m view xs i x d j whole below at h none =
    sym (nothing_joins m (map view (drop (i + 1) xs)))
    ∙ ap (λ o. join_all m o (map view (drop (i + 1) xs))) none
    ∙ ap (λ ys. join_all m (Some j) (map view ys)) (sym (drop_more xs i d below ∙ ap (λ y. y ∷ drop (i + 1) xs) (sym at)))
    ∙ h
