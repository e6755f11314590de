-- One more under each key that it stands above, and in the end all of them.
use Rattle.std.proofs.Common.{◌≡◌, Bool, true, false, cond, ◌||◌, List, [], ◌∷◌, ◌++◌, map, Option, Some, None, refl, sym, ap, ◌∙◌, subst, inl, inr, append_assoc, append-nil}
use Rattle.std.specs.Prelude.{Contains, if◌then◌else◌}
use Rattle.std.specs.Bool.{Decides}
use Rattle.std.specs.Borrow.{Bor}
use Rattle.std.specs.List.{list_any, filter}
use Rattle.std.specs.Option.{option_copied, option_map_or}
use Rattle.std.specs.Ordering.{eq_by_cmp}
use Rattle.std.specs.declared.alloc.Global.{Global}
use Rattle.std.specs.declared.cmp.Ordering.{Ordering}
use Rattle.std.specs.declared.vec.Vec.{Vec}
use Rattle.std.proofs.lemmas.Bool.{true≢false}
use Rattle.cedar_expr_model.proofs.Lists.{found-Decides}
use Rattle.cedar_schema_model.specs.BagLaws.{HasTwice}
use Rattle.cedar_schema_built.specs.Above.{row_of, with_above, IsAdded, above_among, IsAddedBelow}
use Rattle.cedar_schema_built.proofs.Putting.{map_more}

-- with one more for each of these that it is
abbrev pub all_above : {S : Type 0} → (S → S → Bool) → S → S → List S → List S → List S
all_above eq w v [] above = above
all_above eq w v (u ∷ us) above = all_above eq w v us (with_above eq w v u above)

module _ {S : Type 0} (eq : S → S → Bool) (decides : (s t : S) → Decides (eq s t) (s ≡ t)) where
  above_none : (w v : S) (ds above : List S) → list_any (eq w) ds ≡ false → all_above eq w v ds above ≡ above
  above_none w v [] above h = refl
  above_none w v (d ∷ ds) above h = go (eq w d) h (above_none w v ds above)
    where
      go : (b : Bool) → (b || list_any (eq w) ds) ≡ false → (list_any (eq w) ds ≡ false → all_above eq w v ds above ≡ above) → all_above eq w v ds (if b then above ++ v ∷ [] else above) ≡ above
      go true e rest = absurd (true≢false e)
      go false e rest = rest e

  -- where none stands twice, there is one more exactly where it is among them
  above_once : (w v : S) (ds above : List S) → (HasTwice ds → ⊥) → all_above eq w v ds above ≡ (if list_any (eq w) ds then above ++ v ∷ [] else above)
  above_once w v [] above once = refl
  above_once w v (d ∷ ds) above once = go (eq w d) refl (above_once w v ds above (λ t. once (inr t)))
    where
      other : eq w d ≡ true → (b : Bool) → list_any (eq w) ds ≡ b → b ≡ false
      other e true h = absurd (once (inl (subst (Contains ds) ((decides w d).0 e) ((found-Decides eq decides w ds).0 h))))
      other e false h = refl

      go : (b : Bool) → eq w d ≡ b → all_above eq w v ds above ≡ (if list_any (eq w) ds then above ++ v ∷ [] else above)
          → all_above eq w v ds (if b then above ++ v ∷ [] else above) ≡ (if (b || list_any (eq w) ds) then above ++ v ∷ [] else above)
      go true e rest = above_none w v ds (above ++ v ∷ []) (other e (list_any (eq w) ds) refl)
      go false e rest = rest

module _ {K S : Type 0} (seen : K → S) (eq : S → S → Bool) where
  abbrev pub seen_above : (K → Option (Vec K Global)) → K → List S
  seen_above rows q = map seen (row_of rows q)

  -- one more under a key, as it is seen
  seen_with : (cmp : K → K → Ordering) → ((k l : K) → eq_by_cmp cmp k l ≡ eq (seen k) (seen l)) → (q v u : K) (row : List K) → map seen (with_above (eq_by_cmp cmp) q v u row) ≡ with_above eq (seen q) (seen v) (seen u) (map seen row)
  seen_with cmp told q v u row = ap (λ b. map seen (if b then row ++ v ∷ [] else row)) (told q u) ∙ go (eq (seen q) (seen u))
    where
      go : (b : Bool) → map seen (if b then row ++ v ∷ [] else row) ≡ (if b then map seen row ++ seen v ∷ [] else map seen row)
      go true = map_more seen row v
      go false = refl

  -- the next of those below
  pub one_below : (cmp : K → K → Ordering) → ((k l : K) → eq_by_cmp cmp k l ≡ eq (seen k) (seen l)) → (old new : K → Option (Vec K Global)) (key ancestor : K) → IsAdded cmp key ancestor old new
      → (v : S) (rest later : List K) (d : K) → rest ≡ d ∷ later → seen ancestor ≡ v → seen key ≡ seen d
      → (q : K) (whole : List S) → all_above eq (seen q) v (map seen rest) (seen_above old q) ≡ whole → all_above eq (seen q) v (map seen later) (seen_above new q) ≡ whole
  one_below cmp told old new key ancestor added v rest later d is name same q whole h =
      ap (all_above eq (seen q) v (map seen later)) (ap (map seen) (added.each q) ∙ seen_with cmp told q ancestor key (row_of old q) ∙ (λ i. with_above eq (seen q) (name i) (same i) (seen_above old q)))
      ∙ ap (λ ds. all_above eq (seen q) v (map seen ds) (seen_above old q)) (sym is) ∙ h

  module _ {A : Type 0} (name : A → S) (below : A → List S) where
    -- all of those below
    pub all_below : ((s t : S) → Decides (eq s t) (s ≡ t)) → (a : A) → (HasTwice (below a) → ⊥) → (old new : K → Option (Vec K Global)) (rest : List K) → rest ≡ []
        → ((q : K) → all_above eq (seen q) (name a) (map seen rest) (seen_above new q) ≡ all_above eq (seen q) (name a) (below a) (seen_above old q)) → IsAddedBelow eq name below seen a old new
    all_below decides a once old new rest is h = record {
      each = λ q. ap (λ ds. all_above eq (seen q) (name a) (map seen ds) (seen_above new q)) (sym is) ∙ h q
          ∙ above_once eq decides (seen q) (name a) (below a) (seen_above old q) once ∙ go (seen_above old q) (list_any (eq (seen q)) (below a));
    }
      where
        go : (above : List S) (b : Bool) → (if b then above ++ name a ∷ [] else above) ≡ (above ++ map name (cond b (a ∷ []) []))
        go above true = refl
        go above false = sym (append-nil above)

    -- one of those above, and then the others
    first_among : (w : S) (a : A) (as_ : List A) → (above_among eq name below w (a ∷ []) ++ above_among eq name below w as_) ≡ above_among eq name below w (a ∷ as_)
    first_among w a as_ = go (list_any (eq w) (below a))
      where
        go : (b : Bool) → (map name (cond b (a ∷ []) []) ++ above_among eq name below w as_) ≡ map name (cond b (a ∷ filter (λ a. list_any (eq w) (below a)) as_) (filter (λ a. list_any (eq w) (below a)) as_))
        go true = refl
        go false = refl

    -- the next of those above
    pub one_above : {X : Type 0} (made : X → A) (rest later : List X) (x : X) → rest ≡ x ∷ later → (old new : K → Option (Vec K Global)) → IsAddedBelow eq name below seen (made x) old new
        → (q : K) (whole : List S) → (seen_above old q ++ above_among eq name below (seen q) (map made rest)) ≡ whole → (seen_above new q ++ above_among eq name below (seen q) (map made later)) ≡ whole
    one_above made rest later x is old new added q whole h =
        ap (λ us. us ++ above_among eq name below (seen q) (map made later)) (added.each q)
        ∙ append_assoc (seen_above old q) (above_among eq name below (seen q) (made x ∷ [])) (above_among eq name below (seen q) (map made later))
        ∙ ap (λ us. seen_above old q ++ us) (first_among (seen q) (made x) (map made later) ∙ ap (λ xs. above_among eq name below (seen q) (map made xs)) (sym is))
        ∙ h

-- what stands under a key, as it is looked up
pub row_got : {K S : Type 0} (seen : K → S) (rows : K → Option (Vec K Global)) (q : K) (r : Option (Bor (Vec K Global))) → option_copied r ≡ rows q → option_map_or (λ r. map seen r.now.items) r [] ≡ map seen (row_of rows q)
row_got seen rows q None e = ap (λ o. map seen (option_map_or (λ v. v.items) o [])) e
row_got seen rows q (Some v) e = ap (λ o. map seen (option_map_or (λ v. v.items) o [])) e
