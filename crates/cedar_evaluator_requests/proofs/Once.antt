-- Entries under texts, of which none stands twice: to put them in a map one after the other is to list them.
use Rattle.std.proofs.Common.{◌≡◌, Bool, true, false, cond, ◌||◌, List, [], ◌∷◌, ◌++◌, map, append_assoc, refl, sym, ap, ◌∙◌, subst}
use Rattle.std.proofs.lemmas.List.{map-append}
use Rattle.std.proofs.lemmas.Map.Keys.{IsDistinct-head, IsDistinct-tail}
use Rattle.std.proofs.lemmas.Slice.Eq.{bytes_eq-Decides}
use Rattle.std.specs.Prelude.{Contains}
use Rattle.std.specs.List.{list_any, AllByRecursion, IsDistinct}
use Rattle.std.specs.Str.{bytes_eq}
use Rattle.indexmap.specs.IndexMap.{insert_entry, insert_all}
use Rattle.indexmap.specs.IndexSet.{insert_key}
use Rattle.cedar_expr_model.specs.Name.{Text}
use Rattle.cedar_expr_model.specs.ListLaws.{AreDistinct}
use Rattle.cedar_expr_model.proofs.Lists.{found-Decides, contains_cases, contains_none}
use Rattle.cedar_expr_model.proofs.Repeating.{distinct_apart}

not_true : (b : Bool) → (b ≡ true → ⊥) → b ≡ false
not_true true h = absurd (h refl)
not_true false h = refl

fresh : (done : List Text) (t : Text) (later : List Text) → AreDistinct (done ++ t ∷ later) → list_any (bytes_eq t) done ≡ false
fresh done t later d = not_true (list_any (bytes_eq t) done) (λ h. distinct_apart done t later d ((found-Decides bytes_eq bytes_eq-Decides t done).0 h))

append_none : {A : Type 0} (xs : List A) → xs ++ [] ≡ xs
append_none [] = refl
append_none (x ∷ xs) = ap (λ l. x ∷ l) (append_none xs)

-- two keys of one text
abbrev pub same : {K : Type 0} → (K → Text) → K → K → Bool
same text i j = bytes_eq (text i) (text j)

module _ {K : Type 0} (text : K → Text) where
  differs : (k : K) (ks : List K) → AllByRecursion (λ q. same text k q ≡ false) ks → ¬ (Contains (map text ks) (text k))
  differs k [] h c = contains_none (text k) c
  differs k (q ∷ ks) h c = contains_cases ⊥ (text q) (map text ks) (text k) c (λ e. let t = (bytes_eq-Decides (text k) (text q)).1 (sym e) in let f = h.0 in cc) (λ l. differs k ks h.1 l)

  -- keys that differ have texts that do
  pub texts_apart : (ks : List K) → IsDistinct (same text) ks → AreDistinct (map text ks)
  texts_apart [] d = tt
  texts_apart (k ∷ ks) d = (differs k ks (IsDistinct-head (same text) k ks d), texts_apart ks (IsDistinct-tail (same text) k ks d))

  any_text : (t : Text) (ks : List K) → list_any (λ q. bytes_eq t (text q)) ks ≡ list_any (bytes_eq t) (map text ks)
  any_text t [] = refl
  any_text t (k ∷ ks) = ap (λ b. bytes_eq t (text k) || b) (any_text t ks)

  key_goes_last : (ks : List K) (c : K) → list_any (bytes_eq (text c)) (map text ks) ≡ false → insert_key (same text) ks c ≡ ks ++ c ∷ []
  key_goes_last ks c h = ap (λ b. cond b ks (ks ++ c ∷ [])) (any_text (text c) ks ∙ h)

  -- a copy of the next of some keys that differ goes last in a set of copies of those before it
  pub key_step : (all rest later done more : List K) (k c : K) → IsDistinct (same text) all → map text done ++ map text rest ≡ map text all → rest ≡ k ∷ later → text c ≡ text k → more ≡ insert_key (same text) done c → map text more ++ map text later ≡ map text all
  key_step all rest later done more k c d h is copy put =
      let whole : map text done ++ text k ∷ map text later ≡ map text all = ap (λ es. map text done ++ map text es) (sym is) ∙ h in
      let apart : AreDistinct (map text done ++ text k ∷ map text later) = subst AreDistinct (sym whole) (texts_apart all d) in
      let new = fresh (map text done) (text k) (map text later) apart in
      ap (λ ks. map text ks ++ map text later) (put ∙ key_goes_last done c (ap (λ t. list_any (bytes_eq t) (map text done)) copy ∙ new))
      ∙ ap (λ ts. ts ++ map text later) (map-append text done (c ∷ []))
      ∙ append_assoc (map text done) (text c ∷ []) (map text later)
      ∙ ap (λ t. map text done ++ t ∷ map text later) copy
      ∙ whole

module _ {K V : Type 0} (text : K → Text) where
  -- the texts under which entries stand
  abbrev pub texts : List (K × V) → List Text
  texts es = map (λ e. text e.0) es

  entry_case : (e : K × V) (es : List (K × V)) (k : K) (v : V) (t : Bool) → same text k e.0 ≡ t → (t || list_any (bytes_eq (text k)) (texts es)) ≡ false → (list_any (bytes_eq (text k)) (texts es) ≡ false → insert_entry (same text) es k v ≡ es ++ (k, v) ∷ []) → insert_entry (same text) (e ∷ es) k v ≡ e ∷ es ++ (k, v) ∷ []
  entry_case e es k v true s h rest = cc
  entry_case e es k v false s h rest = ap (λ b. cond b ((e.0, v) ∷ es) (e ∷ insert_entry (same text) es k v)) s ∙ ap (λ xs. e ∷ xs) (rest h)

  -- an entry under a text under which none stands goes last
  pub goes_last : (es : List (K × V)) (k : K) (v : V) → list_any (bytes_eq (text k)) (texts es) ≡ false → insert_entry (same text) es k v ≡ es ++ (k, v) ∷ []
  goes_last [] k v h = refl
  goes_last (e ∷ es) k v h = entry_case e es k v (same text k e.0) refl h (goes_last es k v)

  -- entries of distinct texts are put in one after the other as they are listed
  pub all_go_last : (done es : List (K × V)) → AreDistinct (texts (done ++ es)) → insert_all (same text) done es ≡ done ++ es
  all_go_last done [] d = sym (append_none done)
  all_go_last done (e ∷ es) d =
      let apart = subst AreDistinct (map-append (λ (x : K × V). text x.0) done (e ∷ es)) d in
      let one = goes_last done e.0 e.1 (fresh (texts done) (text e.0) (texts es) apart) in
      ap (λ xs. insert_all (same text) xs es) one
      ∙ all_go_last (done ++ e ∷ []) es (subst (λ xs. AreDistinct (texts xs)) (sym (append_assoc done (e ∷ []) es)) d)
      ∙ append_assoc done (e ∷ []) es

  pub all_once : (es : List (K × V)) → AreDistinct (texts es) → insert_all (same text) [] es ≡ es
  all_once es d = all_go_last [] es d
