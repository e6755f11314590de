-- Equal trees and equal data, part by part: what an equality makes of two expressions, by the order of their trees and by the
-- data of their subexpressions.
use Rattle.std.proofs.Common.{◌≡◌, ◌&&◌, ◌+◌, Bool, true, false, List, [], ◌∷◌, ◌++◌, length, suc, refl, sym, ap, ◌∙◌}
use Rattle.std.specs.Ordering.{is_eq, ordering_then}
use Rattle.std.specs.Cmp.Lexicographic.{pointwise}
use Rattle.std.specs.declared.cmp.Ordering.{Ordering}
use Rattle.std.proofs.lemmas.List.{length-append}
use Rattle.cedar_expr_shapes.proofs.EqualLeaves.{two_equal}

and_assoc : (a b c : Bool) → ((a && b) && c) ≡ (a && (b && c))
and_assoc true b c = refl
and_assoc false b c = refl

and_true : (a : Bool) → (a && true) ≡ a
and_true true = refl
and_true false = refl

both_hold : (a b : Bool) → (a && b) ≡ true → (a ≡ true) × (b ≡ true)
both_hold true b e = (refl, e)
both_hold false b e = absurd (cc)

-- the second of three moves to the end
and_later : (a b c : Bool) → ((a && b) && c) ≡ ((a && c) && b)
and_later true true true = refl
and_later true true false = refl
and_later true false true = refl
and_later true false false = refl
and_later false b c = refl

both_steps : (o p : Ordering) → is_eq (ordering_then o p) ≡ true → (is_eq o ≡ true) × (is_eq p ≡ true)
both_steps o p h = both_hold (is_eq o) (is_eq p) (two_equal (is_eq o) (is_eq p) o p refl refl ∙ h)

-- the test is one of both, and there are as many data where the trees are equal
pub record Fits {T : Type 0} (D : T → T → Bool) (r : Bool) (o : Ordering) (ds es : List T) : Type 0 where
  pub tests : r ≡ (is_eq o && pointwise D ds es)
  pub lengths : is_eq o ≡ true → length ds ≡ length es

module _ {T : Type 0} (D : T → T → Bool) where
  pub fits_at : (r s : Bool) (o p : Ordering) (ds es bs cs : List T) → r ≡ s → o ≡ p → ds ≡ bs → es ≡ cs → Fits D s p bs cs → Fits D r o ds es
  fits_at r s o p ds es bs cs h i j k f = record {
    tests = h ∙ f.tests ∙ sym (λ x. is_eq (i x) && pointwise D (j x) (k x));
    lengths = λ e. ap length j ∙ f.lengths (sym (ap is_eq i) ∙ e) ∙ sym (ap length k);
  }

  -- a leaf has no data
  pub fits_leaf : (r : Bool) (o : Ordering) → r ≡ is_eq o → Fits D r o [] []
  fits_leaf r o h = record { tests = h ∙ sym (and_true (is_eq o)); lengths = λ e. refl }

  -- what differs is not equal
  pub fits_not : (o : Ordering) (ds es : List T) → is_eq o ≡ false → Fits D false o ds es
  fits_not o ds es h = record { tests = sym (ap (λ b. b && pointwise D ds es) h); lengths = λ e. cc }

  -- data behind data
  tests_append : (ds es bs cs : List T) → length ds ≡ length es → pointwise D (ds ++ bs) (es ++ cs) ≡ (pointwise D ds es && pointwise D bs cs)
  tests_append [] [] bs cs h = refl
  tests_append [] (e ∷ es) bs cs h = cc
  tests_append (d ∷ ds) [] bs cs h = cc
  tests_append (d ∷ ds) (e ∷ es) bs cs h = ap (λ b. D d e && b) (tests_append ds es bs cs (cc)) ∙ sym (and_assoc (D d e) (pointwise D ds es) (pointwise D bs cs))

  joined : (t u : Bool) (ds es bs cs : List T) → (t ≡ true → length ds ≡ length es) → ((t && pointwise D ds es) && (u && pointwise D bs cs)) ≡ ((t && u) && pointwise D (ds ++ bs) (es ++ cs))
  joined false u ds es bs cs h = refl
  joined true u ds es bs cs h =
      sym (and_assoc (pointwise D ds es) u (pointwise D bs cs))
      ∙ ap (λ b. b && pointwise D bs cs) (and_later true (pointwise D ds es) u)
      ∙ and_assoc u (pointwise D ds es) (pointwise D bs cs)
      ∙ ap (λ b. u && b) (sym (tests_append ds es bs cs (h refl)))

  -- one part, and then the next
  pub fits_then : (r s : Bool) (o p : Ordering) (ds es bs cs : List T) → Fits D r o ds es → Fits D s p bs cs → Fits D (r && s) (ordering_then o p) (ds ++ bs) (es ++ cs)
  fits_then r s o p ds es bs cs f g = record {
    tests = (λ i. f.tests i && g.tests i) ∙ joined (is_eq o) (is_eq p) ds es bs cs f.lengths ∙ ap (λ b. b && pointwise D (ds ++ bs) (es ++ cs)) (two_equal (is_eq o) (is_eq p) o p refl refl);
    lengths = λ h. let k = both_steps o p h in length-append ds bs ∙ (λ i. f.lengths k.0 i + g.lengths k.1 i) ∙ sym (length-append es cs);
  }

  -- a part, and then a leaf
  pub fits_before : (r s : Bool) (o p : Ordering) (ds es : List T) → Fits D r o ds es → s ≡ is_eq p → Fits D (r && s) (ordering_then o p) ds es
  fits_before r s o p ds es f h = record {
    tests = (λ i. f.tests i && h i) ∙ and_later (is_eq o) (pointwise D ds es) (is_eq p) ∙ ap (λ b. b && pointwise D ds es) (two_equal (is_eq o) (is_eq p) o p refl refl);
    lengths = λ e. f.lengths (both_steps o p e).0;
  }

  -- an expression's own data stand before those below it
  pub fits_own : (r : Bool) (o : Ordering) (d e : T) (ds es : List T) → Fits D r o ds es → Fits D (r && D d e) o (d ∷ ds) (e ∷ es)
  fits_own r o d e ds es f = record {
    tests = ap (λ b. b && D d e) f.tests ∙ and_later (is_eq o) (pointwise D ds es) (D d e) ∙ and_assoc (is_eq o) (D d e) (pointwise D ds es);
    lengths = λ h. ap suc (f.lengths h);
  }

  -- a name, a part, and then the others
  pub fits_field : (a r s : Bool) (n o p : Ordering) (ds es bs cs : List T) → a ≡ is_eq n → Fits D r o ds es → Fits D s p bs cs
      → Fits D ((a && r) && s) (ordering_then n (ordering_then o p)) (ds ++ bs) (es ++ cs)
  fits_field a r s n o p ds es bs cs h f g =
      let whole = fits_then a (r && s) n (ordering_then o p) [] [] (ds ++ bs) (es ++ cs) (fits_leaf a n h) (fits_then r s o p ds es bs cs f g) in
      record { tests = and_assoc a r s ∙ whole.tests; lengths = whole.lengths }

  -- data that are all equal don't count
  all_equal : ((x y : T) → D x y ≡ true) → (ds es : List T) → length ds ≡ length es → pointwise D ds es ≡ true
  all_equal h [] [] e = refl
  all_equal h [] (y ∷ es) e = cc
  all_equal h (x ∷ ds) [] e = cc
  all_equal h (x ∷ ds) (y ∷ es) e = ap (λ b. b && pointwise D ds es) (h x y) ∙ all_equal h ds es (cc)

  pub by_trees : ((x y : T) → D x y ≡ true) → (r t : Bool) (ds es : List T) → r ≡ (t && pointwise D ds es) → (t ≡ true → length ds ≡ length es) → r ≡ t
  by_trees h r true ds es e f = e ∙ all_equal h ds es (f refl)
  by_trees h r false ds es e f = e
