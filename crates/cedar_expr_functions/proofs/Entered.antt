-- Pairs that are put into a map one after the other.
use Rattle.std.proofs.Common.{◌≡◌, List, [], ◌∷◌, ◌++◌, map, Bool, true, false, cond, ◌||◌, Option, Some, None, IsSome, is_some, Result, Ok, Err, IfErr, refl, sym, ap, ◌∙◌, subst, append_assoc}
use mathlib.Core.List.{append-nil}
use Rattle.std.proofs.lemmas.List.{map-append}
use Rattle.std.proofs.lemmas.Cmp.{eq_by_cmp_equiv}
use Rattle.std.proofs.lemmas.List.Sorted.{IsPermutation-refl, IsPermutation-sym, IsPermutation-trans, IsPermutation-cons, IsPermutation-middle}
use Rattle.std.specs.Prelude.{IsPermutation}
use Rattle.std.specs.BTreeMap.{BTreeMap, get, is_at, Updates, insert_entry}
use Rattle.std.specs.Cmp.{IsEquivalence, IsTotalOrder}
use Rattle.std.specs.List.{list_any}
use Rattle.std.specs.Map.{lookup, keys_of}
use Rattle.std.specs.Ordering.{eq_by_cmp, is_eq, match_ordering}
use Rattle.std.specs.Result.{IsErrAnd}
use Rattle.std.specs.declared.cmp.Ordering.{Ordering}
use Rattle.std.specs.declared.cmp.Ordering.TheVariants.{Less, Equal, Greater}
use Rattle.cedar_expr_model.specs.Repeats.{first_again, repeated}
use Rattle.cedar_expr_functions.specs.Collected.{IsMapOf, RefusesKeys, RefusesKey}
use Rattle.cedar_expr_functions.specs.declared.err.CollectError.{CollectError}
use Rattle.cedar_expr_functions.specs.declared.err.CollectError.TheVariants.{OutOfMemory, Repeated}

-- what is met again behind a row in which nothing is
behind : {A : Type 0} (eq : A → A → Bool) (before xs ys : List A) → first_again eq before xs ≡ None → first_again eq before (xs ++ ys) ≡ first_again eq (before ++ xs) ys
behind eq before [] ys h = ap (λ zs. first_again eq zs ys) (sym (append-nil before))
behind {A} eq before (x ∷ xs) ys h = go (list_any (eq x) before) h (behind eq (before ++ x ∷ []) xs ys) ∙ ap (λ zs. first_again eq zs ys) (append_assoc before (x ∷ []) xs)
  where
    go : (t : Bool) → cond t (Some x) (first_again eq (before ++ x ∷ []) xs) ≡ None → (first_again eq (before ++ x ∷ []) xs ≡ None → first_again eq (before ++ x ∷ []) (xs ++ ys) ≡ first_again eq ((before ++ x ∷ []) ++ xs) ys) → cond t (Some x) (first_again eq (before ++ x ∷ []) (xs ++ ys)) ≡ first_again eq ((before ++ x ∷ []) ++ xs) ys
    go true e k = absurd (cc)
    go false e k = k e

-- one more behind a row in which nothing is met again
one_more : {A : Type 0} (eq : A → A → Bool) (xs ys : List A) (x : A) (t : Bool) → repeated eq xs ≡ None → list_any (eq x) xs ≡ t → repeated eq (xs ++ x ∷ ys) ≡ cond t (Some x) (first_again eq (xs ++ x ∷ []) ys)
one_more eq xs ys x t h e = behind eq [] xs (x ∷ ys) h ∙ ap (λ b. cond b (Some x) (first_again eq (xs ++ x ∷ []) ys)) e

module _ {K X : Type 0} where
  -- a look-up finds where the key is among the keys
  found_is : (test : K → Bool) (es : List (K × X)) → is_some (lookup test es) ≡ list_any test (keys_of es)
  found_is test [] = refl
  found_is test (e ∷ es) = go (test e.0) (found_is test es)
    where
      go : (t : Bool) → is_some (lookup test es) ≡ list_any test (keys_of es) → is_some (cond t (Some e.1) (lookup test es)) ≡ (t || list_any test (keys_of es))
      go true h = refl
      go false h = h

  -- what a look-up finds behind a row
  lookup_behind : (test : K → Bool) (ps qs : List (K × X)) → lookup test ps ≡ None → lookup test (ps ++ qs) ≡ lookup test qs
  lookup_behind test [] qs h = refl
  lookup_behind test (p ∷ ps) qs h = go (test p.0) h (lookup_behind test ps qs)
    where
      go : (t : Bool) → cond t (Some p.1) (lookup test ps) ≡ None → (lookup test ps ≡ None → lookup test (ps ++ qs) ≡ lookup test qs) → cond t (Some p.1) (lookup test (ps ++ qs)) ≡ lookup test qs
      go true e k = absurd (cc)
      go false e k = k e

  -- a pair behind whose key isn't looked for says nothing
  lookup_before : (test : K → Bool) (ps : List (K × X)) (p : K × X) → test p.0 ≡ false → lookup test (ps ++ p ∷ []) ≡ lookup test ps
  lookup_before test [] p h = ap (λ t. cond t (Some p.1) None) h
  lookup_before test (q ∷ ps) p h = ap (cond (test q.0) (Some q.1)) (lookup_before test ps p h)

  -- equal keys find the same
  lookup_same : {eq : K → K → Bool} → IsEquivalence eq → (a b : K) → eq a b ≡ true → (es : List (K × X)) → lookup (eq a) es ≡ lookup (eq b) es
  lookup_same laws a b e [] = refl
  lookup_same {eq} laws a b e (x ∷ es) = ap (λ t. cond t (Some x.1) (lookup (eq a) es)) (laws.congr a b x.0 e) ∙ ap (cond (eq b x.0) (Some x.1)) (lookup_same laws a b e es)

module _ {K X : Type 0} (cmp : K → K → Ordering) (total : IsTotalOrder cmp) where
  -- the map of one more pair
  pub entered : (m n : BTreeMap K X) (ps : List (K × X)) (k : K) (x : X) → IsMapOf cmp ps m → get cmp m k ≡ None → Updates cmp m n k (Some x) → IsMapOf cmp (ps ++ (k, x) ∷ []) n
  entered m n ps k x of absent put = record { finds = λ q. put.0 q ∙ go q (eq_by_cmp cmp k q) refl }
    where
      absent_by : lookup (eq_by_cmp cmp k) ps ≡ None
      absent_by = sym (of.finds k) ∙ absent

      go : (q : K) (t : Bool) → eq_by_cmp cmp k q ≡ t → cond t (Some x) (get cmp m q) ≡ lookup (eq_by_cmp cmp q) (ps ++ (k, x) ∷ [])
      go q true e =
          ap (λ t. cond t (Some x) None) (sym ((eq_by_cmp_equiv total).symm q k ∙ e))
          ∙ sym (lookup_behind (eq_by_cmp cmp q) ps ((k, x) ∷ []) (sym (lookup_same (eq_by_cmp_equiv total) k q e ps) ∙ absent_by))
      go q false e = of.finds q ∙ sym (lookup_before (eq_by_cmp cmp q) ps (k, x) ((eq_by_cmp_equiv total).symm q k ∙ e))

  -- whether the key is in the map of these pairs
  among : (m : BTreeMap K X) (ps : List (K × X)) (k : K) → IsMapOf cmp ps m → is_some (get cmp m k) ≡ list_any (eq_by_cmp cmp k) (keys_of ps)
  among m ps k of = ap is_some (of.finds k) ∙ found_is (eq_by_cmp cmp k) ps

  -- the keys still differ
  pub still_distinct : (m : BTreeMap K X) (ps : List (K × X)) (k : K) (x : X) → IsMapOf cmp ps m → repeated (eq_by_cmp cmp) (keys_of ps) ≡ None → get cmp m k ≡ None → repeated (eq_by_cmp cmp) (keys_of (ps ++ (k, x) ∷ [])) ≡ None
  still_distinct m ps k x of distinct absent =
      ap (repeated (eq_by_cmp cmp)) (map-append (λ (p : K × X). p.0) ps ((k, x) ∷ []))
      ∙ one_more (eq_by_cmp cmp) (keys_of ps) [] k false distinct (sym (among m ps k of) ∙ ap is_some absent)

  -- why one more pair is refused is why all of them are
  refused_key : (m : BTreeMap K X) (ps qs : List (K × X)) (k : K) (x : X) → IsMapOf cmp ps m → repeated (eq_by_cmp cmp) (keys_of ps) ≡ None → (e : CollectError K) → RefusesKey cmp m k e → RefusesKeys cmp (keys_of (ps ++ (k, x) ∷ qs)) e
  refused_key m ps qs k x of distinct OutOfMemory h = tt
  refused_key m ps qs k x of distinct (Repeated q) h =
      ap (repeated (eq_by_cmp cmp)) (map-append (λ (p : K × X). p.0) ps ((k, x) ∷ qs))
      ∙ one_more (eq_by_cmp cmp) (keys_of ps) (keys_of qs) k true distinct (sym (among m ps k of) ∙ h.0)
      ∙ ap Some (sym h.1)

  pub refused_all : {B : Type 0} (m : BTreeMap K X) (ps qs all : List (K × X)) (k : K) (x : X) → IsMapOf cmp ps m → repeated (eq_by_cmp cmp) (keys_of ps) ≡ None → all ≡ ps ++ (k, x) ∷ qs → (e : CollectError K) → RefusesKey cmp m k e → (r : Result B (CollectError K)) → IsErrAnd r (λ y. y ≡ e)
      → IfErr r (RefusesKeys cmp (keys_of all))
  refused_all m ps qs all k x of distinct goes e h (Ok y) same = tt
  refused_all m ps qs all k x of distinct goes e h (Err y) same = subst (λ f. RefusesKeys cmp (keys_of all) f) (sym same) (subst (λ rs. RefusesKeys cmp (keys_of rs) e) (sym goes) (refused_key m ps qs k x of distinct e h))

module _ {K X : Type 0} (cmp : K → K → Ordering) where
  inserted : (k : K) (x : X) (es : List (K × X)) → lookup (is_at (cmp k)) es ≡ None → IsPermutation ((k, x) ∷ es) (insert_entry cmp es k x)
  inserted k x [] h = IsPermutation-refl _
  inserted k x (e ∷ es) h = go (cmp k e.0) h (inserted k x es)
    where
      go : (r : Ordering) → cond (is_eq r) (Some e.1) (lookup (is_at (cmp k)) es) ≡ None → (lookup (is_at (cmp k)) es ≡ None → IsPermutation ((k, x) ∷ es) (insert_entry cmp es k x))
          → IsPermutation ((k, x) ∷ e ∷ es) (match_ordering r ((k, x) ∷ e ∷ es) ((e.0, x) ∷ es) (e ∷ insert_entry cmp es k x))
      go Less a i = IsPermutation-refl _
      go Equal a i = absurd (cc)
      go Greater a i =
          IsPermutation-trans _ _ _ (IsPermutation-sym _ _ (IsPermutation-middle (e ∷ []) (k, x) es)) (IsPermutation-cons e ((k, x) ∷ es) (insert_entry cmp es k x) (i a))

  -- a pair whose key isn't there goes among the entries
  pub placed : (m n : BTreeMap K X) (k : K) (x : X) → get cmp m k ≡ None → n.entries ≡ insert_entry cmp m.entries k x → IsPermutation ((k, x) ∷ m.entries) n.entries
  placed m n k x h e = subst (IsPermutation ((k, x) ∷ m.entries)) (sym e) (inserted k x m.entries h)
