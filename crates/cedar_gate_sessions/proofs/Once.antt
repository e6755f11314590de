-- Keys of distinct texts, put in a set one after the other.
use Rattle.std.proofs.Common.{◌≡◌, Bool, true, false, cond, ◌||◌, List, [], ◌∷◌, ◌++◌, map, append_assoc, refl, sym, ap, ◌∙◌, subst}
use Rattle.std.proofs.lemmas.List.{map-append, append-nil}
use Rattle.std.proofs.lemmas.Slice.Eq.{bytes_eq-Decides}
use Rattle.std.specs.List.{list_any}
use Rattle.std.specs.Str.{bytes_eq}
use Rattle.indexmap.specs.IndexSet.{insert_key}
use Rattle.cedar_expr_model.specs.Name.{Text}
use Rattle.cedar_expr_model.specs.ListLaws.{AreDistinct}
use Rattle.cedar_expr_model.proofs.Lists.{found-Decides}
use Rattle.cedar_expr_model.proofs.Repeating.{distinct_apart}

not_true : (b : Bool) → (b ≡ true → ⊥) → b ≡ false
not_true true h = absurd (h refl)
not_true false h = refl

fresh : (done : List Text) (t : Text) (later : List Text) → AreDistinct (done ++ t ∷ later) → list_any (bytes_eq t) done ≡ false
fresh done t later d = not_true (list_any (bytes_eq t) done) (λ h. distinct_apart done t later d ((found-Decides bytes_eq bytes_eq-Decides t done).0 h))

-- two keys of one text
abbrev pub same : {K : Type 0} → (K → Text) → K → K → Bool
same text i j = bytes_eq (text i) (text j)

module _ {K : Type 0} (text : K → Text) where
  any_text : (t : Text) (ks : List K) → list_any (λ q. bytes_eq t (text q)) ks ≡ list_any (bytes_eq t) (map text ks)
  any_text t [] = refl
  any_text t (k ∷ ks) = ap (λ b. bytes_eq t (text k) || b) (any_text t ks)

  goes_last : (ks : List K) (k : K) → list_any (bytes_eq (text k)) (map text ks) ≡ false → insert_key (same text) ks k ≡ ks ++ k ∷ []
  goes_last ks k h = ap (λ b. cond b ks (ks ++ k ∷ [])) (any_text (text k) ks ∙ h)

  -- the next key goes last in the set of those before it
  pub set_step : (all rest later done more : List K) (k : K) → AreDistinct (map text all) → map text done ++ map text rest ≡ map text all → rest ≡ k ∷ later → more ≡ insert_key (same text) done k → map text more ++ map text later ≡ map text all
  set_step all rest later done more k d h is put =
      let whole : map text done ++ text k ∷ map text later ≡ map text all = ap (λ es. map text done ++ map text es) (sym is) ∙ h in
      let new = fresh (map text done) (text k) (map text later) (subst AreDistinct (sym whole) d) in
      ap (λ ks. map text ks ++ map text later) (put ∙ goes_last done k new)
      ∙ ap (λ ts. ts ++ map text later) (map-append text done (k ∷ []))
      ∙ append_assoc (map text done) (text k ∷ []) (map text later)
      ∙ whole

  -- where none is left, all are in it
  pub set_all : (all rest done : List K) → map text done ++ map text rest ≡ map text all → rest ≡ [] → map text done ≡ map text all
  set_all all rest done h none = sym (append-nil (map text done)) ∙ ap (λ es. map text done ++ map text es) (sym none) ∙ h
