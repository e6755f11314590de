-- What was gathered, and then what comes of the rest, is what comes of all.
use Rattle.std.proofs.Common.{◌≡◌, List, [], ◌∷◌, ◌++◌, append_assoc, map, refl, sym, ap, ◌∙◌}
use Rattle.std.proofs.lemmas.Grind.{flat_map-append}
use Rattle.std.proofs.lemmas.List.{append-nil}
use Rattle.std.proofs.lemmas.List.Folds.{flat_map-map}
use Rattle.std.specs.List.{flat_map}

module _ {A B : Type 0} (f : A → List B) where
  -- What is gathered so far, and what the rest has.
  pub record Gathers (all : List A) (done : List B) (rest : List A) : Type 0 where
    pub is : done ++ flat_map f rest ≡ flat_map f all

  pub gathers_none : (all rest : List A) (done : List B) → rest ≡ all → done ≡ [] → Gathers all done rest
  gathers_none all rest done e n = record { is = (λ i. n i ++ flat_map f (e i)) }

  pub gathers_one : (all rest later : List A) (done more : List B) (x : A) → Gathers all done rest → rest ≡ x ∷ later → more ≡ done ++ f x → Gathers all more later
  gathers_one all rest later done more x g e n =
      record { is = ap (λ ys. ys ++ flat_map f later) n ∙ append_assoc done (f x) (flat_map f later) ∙ ap (λ xs. done ++ flat_map f xs) (sym e) ∙ g.is }

  pub gathers_all : (all rest : List A) (done : List B) → Gathers all done rest → rest ≡ [] → done ≡ flat_map f all
  gathers_all all rest done g e = sym (append-nil done) ∙ ap (λ xs. done ++ flat_map f xs) (sym e) ∙ g.is

-- what is gathered of the parts of each, and of these parts as they are seen
pub seen_of_each : {E N F B : Type 0} (h : F → List B) (g : N → F) (parts : E → List N) (es : List E) → flat_map (λ n. h (g n)) (flat_map parts es) ≡ flat_map h (flat_map (λ e. map g (parts e)) es)
seen_of_each h g parts [] = refl
seen_of_each h g parts (e ∷ es) =
    flat_map-append (λ n. h (g n)) (parts e) (flat_map parts es)
    ∙ (λ i. sym (flat_map-map h g (parts e)) i ++ seen_of_each h g parts es i)
    ∙ sym (flat_map-append h (map g (parts e)) (flat_map (λ d. map g (parts d)) es))
