-- Pairs in the order of their names, and the records that are made of them.
use Rattle.std.proofs.Common.{◌≡◌, Bool, true, false, cond, List, [], ◌∷◌, Option, Some, None, bytes_eq, refl, sym, ap, ◌∙◌}
use Rattle.std.specs.List.{list_all}
use Rattle.std.specs.Option.{option_or}
use Rattle.std.specs.Map.{lookup}
use Rattle.std.specs.Ordering.{match_ordering, is_lt}
use Rattle.std.proofs.lemmas.Slice.Eq.{bytes_eq-Decides}
use Rattle.std.proofs.lemmas.Cmp.{tied_itself}
use Rattle.std.specs.declared.cmp.Ordering.{Ordering}
use Rattle.std.specs.declared.cmp.Ordering.TheVariants.{Less, Equal, Greater}
use Rattle.cedar_expr_model.specs.Name.{Text}
use Rattle.cedar_expr_model.specs.Value.{V, field_of}
use Rattle.cedar_expr_model.specs.Order.{text_cmp}
use Rattle.cedar_expr_model.specs.Canonical.{is_canonical, have_canonical, is_before}
use Rattle.cedar_expr_model.specs.Records.{pair_placed, in_order, names_rise, fields, record_made}
use Rattle.cedar_expr_model.specs.ListLaws.{last_of}
use Rattle.cedar_expr_model.proofs.Lists.{both_hold, hold_both}
use Rattle.cedar_expr_model.proofs.Linear.{text_total, text_exact}
use Rattle.cedar_expr_model.proofs.Rising.{less_is, is_less}

turned : (a b : Text) → text_cmp a b ≡ Greater → text_cmp b a ≡ Less
turned a b e = let q = text_total.antisymm b a in rw (q, e) refl

never_below : (a : Text) → text_cmp a a ≡ Less → ⊥
never_below a e = let q = tied_itself text_total a in cc

no_more : {A : Type 0} (o : Option A) → option_or o None ≡ o
no_more None = refl
no_more (Some x) = refl

together : {A : Type 0} (o p q : Option A) → option_or (option_or o p) q ≡ option_or o (option_or p q)
together None p q = refl
together (Some x) p q = refl

module _ {A : Type 0} where
  -- rising names by the first pair and the others: its name stands before the first of them, and theirs rise
  abbrev is_first_name : Text → List (Text × A) → Bool
  is_first_name a [] = true
  is_first_name a (p ∷ ps) = is_lt (text_cmp a p.0)

  rise_parts : (p : Text × A) (ps : List (Text × A)) → names_rise (p ∷ ps) ≡ true → (is_first_name p.0 ps ≡ true) × (names_rise ps ≡ true)
  rise_parts p [] h = (refl, refl)
  rise_parts p (q ∷ ps) h = both_hold (is_lt (text_cmp p.0 q.0)) (names_rise (q ∷ ps)) h

  rise_more : (p : Text × A) (ps : List (Text × A)) → is_first_name p.0 ps ≡ true → names_rise ps ≡ true → names_rise (p ∷ ps) ≡ true
  rise_more p [] f h = refl
  rise_more p (q ∷ ps) f h = hold_both (is_lt (text_cmp p.0 q.0)) (names_rise (q ∷ ps)) f h

  -- with one more the names rise
  first_placed : (b a : Text) (x : A) (ps : List (Text × A)) → text_cmp b a ≡ Less → is_first_name b ps ≡ true → is_first_name b (pair_placed a x ps) ≡ true
  first_placed b a x [] e h = is_less (text_cmp b a) e
  first_placed b a x (p ∷ ps) e h = go (text_cmp a p.0)
    where
      go : (r : Ordering) → is_first_name b (match_ordering r ((a, x) ∷ p ∷ ps) (p ∷ ps) (p ∷ pair_placed a x ps)) ≡ true
      go Less = is_less (text_cmp b a) e
      go Equal = h
      go Greater = h

  rises_case : (a : Text) (x : A) (p : Text × A) (ps : List (Text × A)) (r : Ordering) → text_cmp a p.0 ≡ r → is_first_name p.0 ps ≡ true → names_rise ps ≡ true → names_rise (pair_placed a x ps) ≡ true → names_rise (match_ordering r ((a, x) ∷ p ∷ ps) (p ∷ ps) (p ∷ pair_placed a x ps)) ≡ true
  rises_case a x p ps Less e f h k = rise_more (a, x) (p ∷ ps) (is_less (text_cmp a p.0) e) (rise_more p ps f h)
  rises_case a x p ps Equal e f h k = rise_more p ps f h
  rises_case a x p ps Greater e f h k = rise_more p (pair_placed a x ps) (first_placed p.0 a x ps (turned a p.0 e) f) k

  placed_rises : (a : Text) (x : A) (ps : List (Text × A)) → names_rise ps ≡ true → names_rise (pair_placed a x ps) ≡ true
  placed_rises a x [] h = refl
  placed_rises a x (p ∷ ps) h =
      let q = rise_parts p ps h in
      rises_case a x p ps (text_cmp a p.0) refl q.0 q.1 (placed_rises a x ps q.1)

  pub in_order_rises : (ps : List (Text × A)) → names_rise (in_order ps) ≡ true
  in_order_rises [] = refl
  in_order_rises (p ∷ ps) = placed_rises p.0 p.1 (in_order ps) (in_order_rises ps)

  -- what is found
  abbrev in_pair : Text → Text × A → Option A
  in_pair a p = cond (bytes_eq a p.0) (Some p.1) None

  abbrev first_of : Text → List (Text × A) → Option A
  first_of a [] = None
  first_of a (p ∷ ps) = option_or (in_pair a p) (first_of a ps)

  looked_up : (a : Text) (ps : List (Text × A)) → lookup (bytes_eq a) ps ≡ first_of a ps
  looked_up a [] = refl
  looked_up a (p ∷ ps) = go (bytes_eq a p.0) (looked_up a ps)
    where
      go : (t : Bool) → lookup (bytes_eq a) ps ≡ first_of a ps → cond t (Some p.1) (lookup (bytes_eq a) ps) ≡ option_or (cond t (Some p.1) None) (first_of a ps)
      go true e = refl
      go false e = e

  pair_of : (c : Text) (p : Text × A) (t : Bool) → bytes_eq c p.0 ≡ t → in_pair c p ≡ cond t (Some p.1) None
  pair_of c p t e = ap (λ s. cond s (Some p.1) None) e

  below_too : (c a : Text) (qs : List (Text × A)) → text_cmp c a ≡ Less → is_first_name a qs ≡ true → is_first_name c qs ≡ true
  below_too c a [] e k = refl
  below_too c a (r ∷ qs) e k = is_less (text_cmp c r.0) (text_total.trans c a r.0 e (less_is (text_cmp a r.0) k))

  absent_case : (c : Text) (p : Text × A) (o : Option A) (t : Bool) → bytes_eq c p.0 ≡ t → text_cmp c p.0 ≡ Less → o ≡ None → option_or (cond t (Some p.1) None) o ≡ None
  absent_case c p o true e f g = absurd (never_below c (ap (text_cmp c) ((bytes_eq-Decides c p.0).0 e) ∙ f))
  absent_case c p o false e f g = g

  absent : (c : Text) (ps : List (Text × A)) → is_first_name c ps ≡ true → names_rise ps ≡ true → first_of c ps ≡ None
  absent c [] f h = refl
  absent c (p ∷ ps) f h =
      let q = rise_parts p ps h in
      let e = less_is (text_cmp c p.0) f in
      absent_case c p (first_of c ps) (bytes_eq c p.0) refl e (absent c ps (below_too c p.0 ps e q.0) q.1)

  -- with one more in its place
  find_case : (c a : Text) (x : A) (p : Text × A) (ps : List (Text × A)) (r : Ordering) (t : Bool) → text_cmp a p.0 ≡ r → bytes_eq c a ≡ t → names_rise (p ∷ ps) ≡ true → first_of c (pair_placed a x ps) ≡ option_or (first_of c ps) (cond t (Some x) None) → first_of c (match_ordering r ((a, x) ∷ p ∷ ps) (p ∷ ps) (p ∷ pair_placed a x ps)) ≡ option_or (first_of c (p ∷ ps)) (cond t (Some x) None)
  find_case c a x p ps Less true e f h k =
      let g : c ≡ a = (bytes_eq-Decides c a).0 f in
      let n : first_of c (p ∷ ps) ≡ None = absent c (p ∷ ps) (is_less (text_cmp c p.0) (ap (λ z. text_cmp z p.0) g ∙ e)) h in
      ap (λ o. option_or o (first_of c (p ∷ ps))) (pair_of c (a, x) true f) ∙ sym (ap (λ o. option_or o (Some x)) n)
  find_case c a x p ps Less false e f h k =
      ap (λ o. option_or o (first_of c (p ∷ ps))) (pair_of c (a, x) false f) ∙ sym (no_more (first_of c (p ∷ ps)))
  find_case c a x p ps Equal true e f h k =
      let g : bytes_eq c p.0 ≡ true = (bytes_eq-Decides c p.0).1 ((bytes_eq-Decides c a).0 f ∙ text_exact a p.0 e) in
      let s : first_of c (p ∷ ps) ≡ Some p.1 = ap (λ o. option_or o (first_of c ps)) (pair_of c p true g) in
      s ∙ sym (ap (λ o. option_or o (Some x)) s)
  find_case c a x p ps Equal false e f h k = sym (no_more (first_of c (p ∷ ps)))
  find_case c a x p ps Greater t e f h k = ap (option_or (in_pair c p)) k ∙ sym (together (in_pair c p) (first_of c ps) (cond t (Some x) None))

  placed_finds : (c a : Text) (x : A) (ps : List (Text × A)) → names_rise ps ≡ true → first_of c (pair_placed a x ps) ≡ option_or (first_of c ps) (in_pair c (a, x))
  placed_finds c a x [] h = no_more (in_pair c (a, x))
  placed_finds c a x (p ∷ ps) h =
      find_case c a x p ps (text_cmp a p.0) (bytes_eq c a) refl refl h
      (placed_finds c a x ps (rise_parts p ps h).1)

  order_finds : (a : Text) (ps : List (Text × A)) → first_of a (in_order ps) ≡ last_of a ps
  order_finds a [] = refl
  order_finds a (p ∷ ps) = placed_finds a p.0 p.1 (in_order ps) (in_order_rises ps) ∙ ap (λ o. option_or o (in_pair a p)) (order_finds a ps)

  pub in_order_finds : (a : Text) (ps : List (Text × A)) → lookup (bytes_eq a) (in_order ps) ≡ last_of a ps
  in_order_finds a ps = looked_up a (in_order ps) ∙ order_finds a ps

  -- what is in order stays
  placed_first : (p : Text × A) (ps : List (Text × A)) → is_first_name p.0 ps ≡ true → pair_placed p.0 p.1 ps ≡ p ∷ ps
  placed_first p [] h = refl
  placed_first p (q ∷ ps) h = let e = less_is (text_cmp p.0 q.0) h in rw e refl

  pub in_order_stays : (ps : List (Text × A)) → names_rise ps ≡ true → in_order ps ≡ ps
  in_order_stays [] h = refl
  in_order_stays (p ∷ ps) h =
      let q = rise_parts p ps h in
      ap (pair_placed p.0 p.1) (in_order_stays ps q.1) ∙ placed_first p ps q.0

  -- a test of what is placed
  placed_passes : (f : A → Bool) (a : Text) (x : A) (ps : List (Text × A)) → f x ≡ true → list_all (λ (p : Text × A). f p.1) ps ≡ true → list_all (λ (p : Text × A). f p.1) (pair_placed a x ps) ≡ true
  placed_passes f a x [] e h = hold_both _ _ e refl
  placed_passes f a x (p ∷ ps) e h =
      let q = both_hold (f p.1) (list_all (λ (p : Text × A). f p.1) ps) h in
      go (text_cmp a p.0) q.0 (placed_passes f a x ps e q.1)
    where
      go : (r : Ordering) → f p.1 ≡ true → list_all (λ (p : Text × A). f p.1) (pair_placed a x ps) ≡ true → list_all (λ (p : Text × A). f p.1) (match_ordering r ((a, x) ∷ p ∷ ps) (p ∷ ps) (p ∷ pair_placed a x ps)) ≡ true
      go Less g k = hold_both _ _ e h
      go Equal g k = h
      go Greater g k = hold_both _ _ g k

  in_order_passes : (f : A → Bool) (ps : List (Text × A)) → list_all (λ (p : Text × A). f p.1) ps ≡ true → list_all (λ (p : Text × A). f p.1) (in_order ps) ≡ true
  in_order_passes f [] h = refl
  in_order_passes f (p ∷ ps) h =
      let q = both_hold (f p.1) (list_all (λ (p : Text × A). f p.1) ps) h in
      placed_passes f p.0 p.1 (in_order ps) q.0 (in_order_passes f ps q.1)

-- records of values
before_fields : (a : Text) (ps : List (Text × V)) → is_first_name a ps ≡ true → is_before a (fields ps) ≡ true
before_fields a [] h = refl
before_fields a (p ∷ ps) h = h

fields_canonical : (ps : List (Text × V)) → names_rise ps ≡ true → list_all (λ (p : Text × V). is_canonical p.1) ps ≡ true → have_canonical (fields ps) ≡ true
fields_canonical [] h k = refl
fields_canonical (p ∷ ps) h k =
    let q = rise_parts p ps h in
    let r = both_hold (is_canonical p.1) (list_all (λ (p : Text × V). is_canonical p.1) ps) k in
    hold_both _ _ r.0 (hold_both _ _ (before_fields p.0 ps q.0) (fields_canonical ps q.1 r.1))

pub record_canonical : (ps : List (Text × V)) → list_all (λ (p : Text × V). is_canonical p.1) ps ≡ true → is_canonical (record_made ps) ≡ true
record_canonical ps h = fields_canonical (in_order ps) (in_order_rises ps) (in_order_passes is_canonical ps h)

fields_find : (a : Text) (ps : List (Text × V)) → field_of a (fields ps) ≡ lookup (bytes_eq a) ps
fields_find a [] = refl
fields_find a (p ∷ ps) = ap (cond (bytes_eq a p.0) (Some p.1)) (fields_find a ps)

pub record_has_last : (a : Text) (ps : List (Text × V)) → field_of a (fields (in_order ps)) ≡ last_of a ps
record_has_last a ps = fields_find a (in_order ps) ∙ in_order_finds a ps
