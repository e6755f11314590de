-- Pairs in the order of their names, where one more is put in its place and takes that of its name.
use Rattle.std.proofs.Common.{◌≡◌, Bool, true, false, cond, List, [], ◌∷◌, ◌++◌, map, Option, Some, None, bytes_eq, refl, sym, ap, ◌∙◌}
use Rattle.std.proofs.lemmas.List.{map-append}
use Rattle.std.specs.Map.{lookup}
use Rattle.std.specs.Option.{option_or}
use Rattle.std.specs.Ordering.{match_ordering, ordering_reverse, is_lt}
use Rattle.std.specs.BTreeMap.{insert_entry}
use Rattle.std.specs.Rc.{rc_str_bytes}
use Rattle.std.specs.declared.alloc.Global.{Global}
use Rattle.std.specs.declared.rc.RcStr.{RcStr}
use Rattle.std.specs.declared.cmp.Ordering.{Ordering}
use Rattle.std.specs.declared.cmp.Ordering.TheVariants.{Less, Equal, Greater}
use Rattle.std.proofs.lemmas.Slice.Eq.{bytes_eq-Decides}
use Rattle.std.proofs.lemmas.Cmp.{tied_itself}
use Rattle.cedar_expr_model.specs.Name.{Text}
use Rattle.cedar_expr_model.specs.Order.{text_cmp}
use Rattle.cedar_expr_model.specs.Records.{in_order, names_rise}
use Rattle.cedar_expr_model.specs.ListLaws.{last_of}
use Rattle.cedar_expr_model.proofs.Lists.{both_hold, hold_both}
use Rattle.cedar_expr_model.proofs.Linear.{text_total, text_exact}
use Rattle.cedar_expr_model.proofs.Rising.{less_is, is_less}
use Rattle.cedar_expr_model.proofs.Ordering.{in_order_rises, in_order_finds}
use Rattle.cedar_expr_values.specs.Fields.{by_text}

same_name : (c a b : Text) → bytes_eq c a ≡ true → bytes_eq c b ≡ true → a ≡ b
same_name c a b e f = sym ((bytes_eq-Decides c a).0 e) ∙ (bytes_eq-Decides c b).0 f

never_below : (a b : Text) → a ≡ b → text_cmp a b ≡ Less → ⊥
never_below a b e f = let q = sym (tied_itself text_total a) ∙ ap (text_cmp a) e ∙ f in cc

never_above : (a b : Text) → a ≡ b → text_cmp a b ≡ Greater → ⊥
never_above a b e f = let q = sym (tied_itself text_total a) ∙ ap (text_cmp a) e ∙ f in cc

no_more : {A : Type 0} (o : Option A) → option_or o None ≡ o
no_more None = refl
no_more (Some x) = refl

together : {A : Type 0} (o p q : Option A) → option_or (option_or o p) q ≡ option_or o (option_or p q)
together None p q = refl
together (Some x) p q = refl

module _ {A : Type 0} where
  -- rising names by the first pair and the others: its name stands before the first of them, and theirs rise
  abbrev is_first_name : Text → List (Text × A) → Bool
  is_first_name a [] = true
  is_first_name a (p ∷ ps) = is_lt (text_cmp a p.0)

  rise_parts : (p : Text × A) (ps : List (Text × A)) → names_rise (p ∷ ps) ≡ true → (is_first_name p.0 ps ≡ true) × (names_rise ps ≡ true)
  rise_parts p [] h = (refl, refl)
  rise_parts p (q ∷ ps) h = both_hold (is_lt (text_cmp p.0 q.0)) (names_rise (q ∷ ps)) h

  rise_more : (p : Text × A) (ps : List (Text × A)) → is_first_name p.0 ps ≡ true → names_rise ps ≡ true → names_rise (p ∷ ps) ≡ true
  rise_more p [] f h = refl
  rise_more p (q ∷ ps) f h = hold_both (is_lt (text_cmp p.0 q.0)) (names_rise (q ∷ ps)) f h

  -- what stands in the pair, if it is of this name, and in the first pair of this name
  abbrev in_pair : Text → Text × A → Option A
  in_pair a p = cond (bytes_eq a p.0) (Some p.1) None

  abbrev found : Text → List (Text × A) → Option A
  found a [] = None
  found a (p ∷ ps) = option_or (in_pair a p) (found a ps)

  looked_up : (a : Text) (ps : List (Text × A)) → lookup (bytes_eq a) ps ≡ found a ps
  looked_up a [] = refl
  looked_up a (p ∷ ps) = go (bytes_eq a p.0) (looked_up a ps)
    where
      go : (t : Bool) → lookup (bytes_eq a) ps ≡ found a ps → cond t (Some p.1) (lookup (bytes_eq a) ps) ≡ option_or (cond t (Some p.1) None) (found a ps)
      go true e = refl
      go false e = e

  order_finds : (a : Text) (ps : List (Text × A)) → found a (in_order ps) ≡ last_of a ps
  order_finds a ps = sym (looked_up a (in_order ps)) ∙ in_order_finds a ps

  -- the pairs with this one: in the place of one of its name, or in its own
  abbrev pub put : Text → A → List (Text × A) → List (Text × A)
  put a x [] = (a, x) ∷ []
  put a x (p ∷ ps) = match_ordering (text_cmp a p.0) ((a, x) ∷ p ∷ ps) ((p.0, x) ∷ ps) (p ∷ put a x ps)

  pub put_is : (k : RcStr Global) (x : A) (es : List (RcStr Global × A))
      → map by_text (insert_entry (λ s t. text_cmp (rc_str_bytes s) (rc_str_bytes t)) es k x) ≡ put (rc_str_bytes k) x (map by_text es)
  put_is k x [] = refl
  put_is k x (e ∷ es) = go (text_cmp (rc_str_bytes k) (rc_str_bytes e.0)) (put_is k x es)
    where
      go : (r : Ordering) → map by_text (insert_entry (λ s t. text_cmp (rc_str_bytes s) (rc_str_bytes t)) es k x) ≡ put (rc_str_bytes k) x (map by_text es)
          → map by_text (match_ordering r ((k, x) ∷ e ∷ es) ((e.0, x) ∷ es) (e ∷ insert_entry (λ s t. text_cmp (rc_str_bytes s) (rc_str_bytes t)) es k x))
          ≡ match_ordering r (by_text (k, x) ∷ by_text e ∷ map by_text es) ((rc_str_bytes e.0, x) ∷ map by_text es) (by_text e ∷ put (rc_str_bytes k) x (map by_text es))
      go Less h = refl
      go Equal h = refl
      go Greater h = ap (λ ps. by_text e ∷ ps) h

  -- it rises, and finds the new one first
  put_first : (b a : Text) (x : A) (ps : List (Text × A)) → text_cmp b a ≡ Less → is_first_name b ps ≡ true → is_first_name b (put a x ps) ≡ true
  put_first b a x [] e h = is_less (text_cmp b a) e
  put_first b a x (p ∷ ps) e h = go (text_cmp a p.0)
    where
      go : (r : Ordering) → is_first_name b (match_ordering r ((a, x) ∷ p ∷ ps) ((p.0, x) ∷ ps) (p ∷ put a x ps)) ≡ true
      go Less = is_less (text_cmp b a) e
      go Equal = h
      go Greater = h

  put_rises : (a : Text) (x : A) (ps : List (Text × A)) → names_rise ps ≡ true → names_rise (put a x ps) ≡ true
  put_rises a x [] h = refl
  put_rises a x (p ∷ ps) h = let q = rise_parts p ps h in go (text_cmp a p.0) refl q.0 q.1 (put_rises a x ps q.1)
    where
      go : (r : Ordering) → text_cmp a p.0 ≡ r → is_first_name p.0 ps ≡ true → names_rise ps ≡ true → names_rise (put a x ps) ≡ true
          → names_rise (match_ordering r ((a, x) ∷ p ∷ ps) ((p.0, x) ∷ ps) (p ∷ put a x ps)) ≡ true
      go Less e f g i = rise_more (a, x) (p ∷ ps) (is_less (text_cmp a p.0) e) (rise_more p ps f g)
      go Equal e f g i = rise_more (p.0, x) ps f g
      go Greater e f g i = rise_more p (put a x ps) (put_first p.0 a x ps (text_total.antisymm p.0 a ∙ ap ordering_reverse e) f) i

  put_finds : (c a : Text) (x : A) (ps : List (Text × A)) → found c (put a x ps) ≡ option_or (in_pair c (a, x)) (found c ps)
  put_finds c a x [] = refl
  put_finds c a x (p ∷ ps) = go (text_cmp a p.0) refl (bytes_eq c a) refl (bytes_eq c p.0) refl (put_finds c a x ps)
    where
      go : (r : Ordering) → text_cmp a p.0 ≡ r → (s : Bool) → bytes_eq c a ≡ s → (t : Bool) → bytes_eq c p.0 ≡ t → found c (put a x ps) ≡ option_or (in_pair c (a, x)) (found c ps)
          → found c (match_ordering r ((a, x) ∷ p ∷ ps) ((p.0, x) ∷ ps) (p ∷ put a x ps)) ≡ option_or (in_pair c (a, x)) (found c (p ∷ ps))
      go Less e s f t g h = refl
      go Equal e s f true g h = let q : bytes_eq c a ≡ true = ap (bytes_eq c) (text_exact a p.0 e) ∙ g in rw (g, q) refl
      go Equal e s f false g h = let q : bytes_eq c a ≡ false = ap (bytes_eq c) (text_exact a p.0 e) ∙ g in rw (g, q) refl
      go Greater e true f true g h = absurd (never_above a p.0 (same_name c a p.0 f g) e)
      go Greater e true f false g h = rw (h, f, g) refl
      go Greater e false f true g h = rw (h, f, g) refl
      go Greater e false f false g h = rw (h, f, g) refl

  last_of_more : (c : Text) (ps : List (Text × A)) (q : Text × A) → last_of c (ps ++ q ∷ []) ≡ option_or (in_pair c q) (last_of c ps)
  last_of_more c [] q = sym (no_more (in_pair c q))
  last_of_more c (p ∷ ps) q = ap (λ o. option_or o (in_pair c p)) (last_of_more c ps q) ∙ together (in_pair c q) (last_of c ps) (in_pair c p)

  -- pairs whose names rise are told by what they have of each name
  absent : (c : Text) (ps : List (Text × A)) → is_first_name c ps ≡ true → names_rise ps ≡ true → found c ps ≡ None
  absent c [] f h = refl
  absent c (p ∷ ps) f h =
      let q = rise_parts p ps h in
      let e = less_is (text_cmp c p.0) f in
      go (bytes_eq c p.0) refl e (absent c ps (below p ps e q.0) q.1)
    where
      below : (p : Text × A) (ps : List (Text × A)) → text_cmp c p.0 ≡ Less → is_first_name p.0 ps ≡ true → is_first_name c ps ≡ true
      below p [] e f = refl
      below p (q ∷ ps) e f = is_less (text_cmp c q.0) (text_total.trans c p.0 q.0 e (less_is (text_cmp p.0 q.0) f))

      go : (t : Bool) → bytes_eq c p.0 ≡ t → text_cmp c p.0 ≡ Less → found c ps ≡ None → option_or (cond t (Some p.1) None) (found c ps) ≡ None
      go true e f g = absurd (never_below c p.0 ((bytes_eq-Decides c p.0).0 e) f)
      go false e f g = g

  here : (p : Text × A) (ps : List (Text × A)) → found p.0 (p ∷ ps) ≡ Some p.1
  here p ps = let q : bytes_eq p.0 p.0 ≡ true = (bytes_eq-Decides p.0 p.0).1 refl in rw q refl

  below_all : (a : Text) (p : Text × A) (ps : List (Text × A)) → text_cmp a p.0 ≡ Less → names_rise (p ∷ ps) ≡ true → found a (p ∷ ps) ≡ None
  below_all a p ps e h = absent a (p ∷ ps) (is_less (text_cmp a p.0) e) h

  -- the first names are the same, and what stands under them
  heads : (p q : Text × A) (ps qs : List (Text × A)) (r : Ordering) → text_cmp p.0 q.0 ≡ r → names_rise (p ∷ ps) ≡ true → names_rise (q ∷ qs) ≡ true
      → ((c : Text) → found c (p ∷ ps) ≡ found c (q ∷ qs)) → (p.0 ≡ q.0) × (p.1 ≡ q.1)
  heads p q ps qs Less e h k f = absurd (let n : Some p.1 ≡ None = sym (here p ps) ∙ f p.0 ∙ below_all p.0 q qs e k in cc)
  heads p q ps qs Equal e h k f =
      let n = text_exact p.0 q.0 e in
      let s : Some p.1 ≡ Some q.1 = sym (here p ps) ∙ f p.0 ∙ ap (λ c. found c (q ∷ qs)) n ∙ here q qs in (n, cc)
  heads p q ps qs Greater e h k f =
      absurd (let n : Some q.1 ≡ None = sym (here q qs) ∙ sym (f q.0) ∙ below_all q.0 p ps (text_total.antisymm q.0 p.0 ∙ ap ordering_reverse e) h in cc)

  tails : (c : Text) (p q : Text × A) (ps qs : List (Text × A)) (t : Bool) → bytes_eq c p.0 ≡ t → p.0 ≡ q.0 → names_rise (p ∷ ps) ≡ true → names_rise (q ∷ qs) ≡ true
      → found c (p ∷ ps) ≡ found c (q ∷ qs) → found c ps ≡ found c qs
  tails c p q ps qs true g n h k f =
      let e = (bytes_eq-Decides c p.0).0 g in
      let i = rise_parts p ps h in
      let j = rise_parts q qs k in
      ap (λ a. found a ps) e ∙ absent p.0 ps i.0 i.1 ∙ sym (absent q.0 qs j.0 j.1) ∙ ap (λ a. found a qs) (sym n ∙ sym e)
  tails c p q ps qs false g n h k f =
      let i : bytes_eq c q.0 ≡ false = ap (bytes_eq c) (sym n) ∙ g in
      let j = ap (λ t. option_or (cond t (Some p.1) None) (found c ps)) g in
      let l = ap (λ t. option_or (cond t (Some q.1) None) (found c qs)) i in
      sym j ∙ f ∙ l

  same_pairs : (ps qs : List (Text × A)) → names_rise ps ≡ true → names_rise qs ≡ true → ((c : Text) → found c ps ≡ found c qs) → ps ≡ qs
  same_pairs [] [] h k f = refl
  same_pairs [] (q ∷ qs) h k f = absurd (let n = f q.0 ∙ here q qs in cc)
  same_pairs (p ∷ ps) [] h k f = absurd (let n = sym (f p.0) ∙ here p ps in cc)
  same_pairs (p ∷ ps) (q ∷ qs) h k f =
      let e = heads p q ps qs (text_cmp p.0 q.0) refl h k f in
      let i = rise_parts p ps h in
      let j = rise_parts q qs k in
      let rest = same_pairs ps qs i.1 j.1 (λ c. tails c p q ps qs (bytes_eq c p.0) refl e.0 h k (f c)) in
      λ n. (e.0 n, e.1 n) ∷ rest n

  in_order_more : (ps : List (Text × A)) (a : Text) (x : A) → put a x (in_order ps) ≡ in_order (ps ++ (a, x) ∷ [])
  in_order_more ps a x =
      same_pairs (put a x (in_order ps)) (in_order (ps ++ (a, x) ∷ [])) (put_rises a x (in_order ps) (in_order_rises ps)) (in_order_rises (ps ++ (a, x) ∷ []))
      (λ c. put_finds c a x (in_order ps) ∙ ap (option_or (in_pair c (a, x))) (order_finds c ps) ∙ sym (last_of_more c ps (a, x)) ∙ sym (order_finds c (ps ++ (a, x) ∷ [])))

  -- one more pair in a map whose entries are pairs in order
  pub entries_more : (k : RcStr Global) (x : A) (es fs ps : List (RcStr Global × A)) → fs ≡ insert_entry (λ s t. text_cmp (rc_str_bytes s) (rc_str_bytes t)) es k x
      → map by_text es ≡ in_order (map by_text ps) → map by_text fs ≡ in_order (map by_text (ps ++ (k, x) ∷ []))
  entries_more k x es fs ps e h =
      ap (map by_text) e ∙ put_is k x es ∙ ap (put (rc_str_bytes k) x) h ∙ in_order_more (map by_text ps) (rc_str_bytes k) x ∙ ap in_order (sym (map-append by_text ps ((k, x) ∷ [])))
