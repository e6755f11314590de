-- Rising lists of keys merged, and what they have in common: they rise, and have the members of either list, or of both.
use Rattle.std.proofs.Common.{◌≡◌, ◌&&◌, ◌||◌, Bool, true, false, List, [], ◌∷◌, length, refl, sym, ap, ◌∙◌, arith}
use Rattle.std.specs.Ordering.{eq_by_cmp, is_eq, ordering_reverse, match_ordering}
use Rattle.std.specs.Cmp.{IsTotalOrder}
use Rattle.std.specs.List.{AllByRecursion}
use Rattle.std.specs.List.Sorted.{IsStrictlySortedBy}
use Rattle.std.specs.Set.{is_member, merge_step, IsUnion, IsIntersection}
use Rattle.std.specs.declared.cmp.Ordering.{Ordering}
use Rattle.std.specs.declared.cmp.Ordering.TheVariants.{Less, Equal, Greater}
use Rattle.std.proofs.lemmas.Cmp.{alike_right}
use Rattle.cedar_typechecker_environments.specs.Merged.{merged, common, common_step}

module _ {K : Type 0} where
  by_rank : (P : List K → Type 0) (k : Ordering) (xs ys zs : List K) → (k ≡ Less → P xs) → (k ≡ Equal → P ys) → (k ≡ Greater → P zs) → P (match_ordering k xs ys zs)
  by_rank P Less xs ys zs a b c = a refl
  by_rank P Equal xs ys zs a b c = b refl
  by_rank P Greater xs ys zs a b c = c refl

  each : (P Q : K → Type 0) → ((z : K) → P z → Q z) → (ys : List K) → AllByRecursion P ys → AllByRecursion Q ys
  each P Q f [] a = tt
  each P Q f (y ∷ ys) a = (f y a.0, each P Q f ys a.1)

  module _ (R : K → K → Ordering) where
    alone : (xs : List K) → merged R xs [] ≡ xs
    alone [] = refl
    alone (x ∷ xs) = refl

    -- the first key where the other list is at its end
    pub first_alone : (xs ys others : List K) (x : K) → xs ≡ x ∷ others → length ys ≡ 0 → merged R xs ys ≡ x ∷ merged R others ys
    first_alone xs [] others x e h = ap (λ l. merged R l []) e ∙ ap (λ l. x ∷ l) (sym (alone others))
    first_alone xs (y ∷ ys) others x e h = absurd (omega (arith, h))

    abbrev Below : K → List K → Type 0
    Below x ys = AllByRecursion (λ y. R x y ≡ Less) ys

    all_at : (P : K → Type 0) (x : K) (xs : List K) (on : List K → List K) → P x → AllByRecursion P xs → ((ys : List K) → AllByRecursion P ys → AllByRecursion P (on ys)) → (ys : List K) → AllByRecursion P ys → AllByRecursion P (merge_step R true x xs on ys)
    all_at P x xs on p a h [] b = (p, a)
    all_at P x xs on p a h (y ∷ ys) b = by_rank (AllByRecursion P) (R x y) _ _ _ (λ _. (p, h (y ∷ ys) b)) (λ _. (p, h ys b.1)) (λ _. (b.0, all_at P x xs on p a h ys b.1))

    all_merged : (P : K → Type 0) (xs ys : List K) → AllByRecursion P xs → AllByRecursion P ys → AllByRecursion P (merged R xs ys)
    all_merged P [] ys a b = b
    all_merged P (x ∷ xs) ys a b = all_at P x xs (merged R xs) a.0 a.1 (λ zs. all_merged P xs zs a.1) ys b

    all_common_at : (P : K → Type 0) (x : K) (xs : List K) (on : List K → List K) → P x → ((ys : List K) → AllByRecursion P (on ys)) → (ys : List K) → AllByRecursion P (common_step R x xs on ys)
    all_common_at P x xs on p h [] = tt
    all_common_at P x xs on p h (y ∷ ys) = by_rank (AllByRecursion P) (R x y) _ _ _ (λ _. h (y ∷ ys)) (λ _. (p, h ys)) (λ _. all_common_at P x xs on p h ys)

    all_common : (P : K → Type 0) (xs ys : List K) → AllByRecursion P xs → AllByRecursion P (common R xs ys)
    all_common P [] ys a = tt
    all_common P (x ∷ xs) ys a = all_common_at P x xs (common R xs) a.0 (λ zs. all_common P xs zs a.1) ys

module _ {K : Type 0} {R : K → K → Ordering} (o : IsTotalOrder R) where
  abbrev has : List K → K → Bool
  has = is_member (eq_by_cmp R)

  under : (x y : K) → R x y ≡ Greater → R y x ≡ Less
  under x y h = o.antisymm y x ∙ ap ordering_reverse h

  below_all : (x y : K) (ys : List K) → R x y ≡ Less → Below R y ys → Below R x (y ∷ ys)
  below_all x y ys h a = (h, each (λ z. R y z ≡ Less) (λ z. R x z ≡ Less) (λ z l. o.trans x y z h l) ys a)

  level_all : (x y : K) (ys : List K) → R x y ≡ Equal → Below R y ys → Below R x ys
  level_all x y ys h a = each (λ z. R y z ≡ Less) (λ z. R x z ≡ Less) (λ z l. o.congr x y z h ∙ l) ys a

  merged_at : (x : K) (xs : List K) → IsStrictlySortedBy R (x ∷ xs) → ((ys : List K) → IsStrictlySortedBy R ys → IsStrictlySortedBy R (merged R xs ys)) → (ys : List K) → IsStrictlySortedBy R ys → IsStrictlySortedBy R (merged R (x ∷ xs) ys)
  unfolding IsStrictlySortedBy
  merged_at x xs s h [] t = s
  merged_at x xs s h (y ∷ ys) t = by_rank (IsStrictlySortedBy R) (R x y) _ _ _
      (λ k. (all_merged R (λ z. R x z ≡ Less) xs (y ∷ ys) s.0 (below_all x y ys k t.0), h (y ∷ ys) t))
      (λ k. (all_merged R (λ z. R x z ≡ Less) xs ys s.0 (level_all x y ys k t.0), h ys t.1))
      (λ k. (all_merged R (λ z. R y z ≡ Less) (x ∷ xs) ys (below_all y x xs (under x y k) s.0) t.0, merged_at x xs s h ys t.1))

  pub merged_rises : (xs ys : List K) → IsStrictlySortedBy R xs → IsStrictlySortedBy R ys → IsStrictlySortedBy R (merged R xs ys)
  unfolding IsStrictlySortedBy
  merged_rises [] ys s t = t
  merged_rises (x ∷ xs) ys s t = merged_at x xs s (λ zs. merged_rises xs zs s.1) ys t

  common_at : (x : K) (xs : List K) → IsStrictlySortedBy R (x ∷ xs) → ((ys : List K) → IsStrictlySortedBy R (common R xs ys)) → (ys : List K) → IsStrictlySortedBy R (common R (x ∷ xs) ys)
  unfolding IsStrictlySortedBy
  common_at x xs s h [] = tt
  common_at x xs s h (y ∷ ys) = by_rank (IsStrictlySortedBy R) (R x y) _ _ _ (λ k. h (y ∷ ys)) (λ k. (all_common R (λ z. R x z ≡ Less) xs ys s.0, h ys)) (λ k. common_at x xs s h ys)

  pub common_rises : (xs ys : List K) → IsStrictlySortedBy R xs → IsStrictlySortedBy R (common R xs ys)
  unfolding IsStrictlySortedBy
  common_rises [] ys s = tt
  common_rises (x ∷ xs) ys s = common_at x xs s (λ zs. common_rises xs zs s.1) ys

  module _ (q : K) where
    as_first : (x y : K) → R x y ≡ Equal → eq_by_cmp R q y ≡ eq_by_cmp R q x
    as_first x y k = ap is_eq (sym (alike_right o x y q k))

    beside : (t a b : Bool) → (t || (a || b)) ≡ ((t || a) || b)
    beside true a b = refl
    beside false a b = refl

    nowhere : (a : Bool) → a ≡ (a || false)
    nowhere true = refl
    nowhere false = refl

    once : (t a b : Bool) → (t || (a || b)) ≡ ((t || a) || (t || b))
    once true a b = refl
    once false a b = refl

    swap : (a b c : Bool) → (a || (b || c)) ≡ (b || (a || c))
    swap true true c = refl
    swap true false c = refl
    swap false b c = refl

    union_at : (x : K) (xs : List K) → ((ys : List K) → has (merged R xs ys) q ≡ (has xs q || has ys q)) → (ys : List K) → has (merged R (x ∷ xs) ys) q ≡ (has (x ∷ xs) q || has ys q)
    union_at x xs h [] = nowhere (has (x ∷ xs) q)
    union_at x xs h (y ∷ ys) = by_rank (λ l. has l q ≡ (has (x ∷ xs) q || has (y ∷ ys) q)) (R x y) _ _ _
        (λ k. ap (λ b. eq_by_cmp R q x || b) (h (y ∷ ys)) ∙ beside (eq_by_cmp R q x) (has xs q) (has (y ∷ ys) q))
        (λ k. ap (λ b. eq_by_cmp R q x || b) (h ys) ∙ once (eq_by_cmp R q x) (has xs q) (has ys q) ∙ ap (λ t. has (x ∷ xs) q || (t || has ys q)) (sym (as_first x y k)))
        (λ k. ap (λ b. eq_by_cmp R q y || b) (union_at x xs h ys) ∙ swap (eq_by_cmp R q y) (has (x ∷ xs) q) (has ys q))

    in_either : (xs ys : List K) → has (merged R xs ys) q ≡ (has xs q || has ys q)
    in_either [] ys = refl
    in_either (x ∷ xs) ys = union_at x xs (in_either xs) ys

    -- a key that is below the first of a rising list isn't in it
    none_above : (x : K) (ys : List K) → Below R x ys → eq_by_cmp R q x ≡ true → has ys q ≡ false
    none_above x [] a t = refl
    none_above x (y ∷ ys) a t =
        let e : R q y ≡ Less = o.congr q x y (as_tied (R q x) t) ∙ a.0 in
        (λ i. is_eq (e i) || has ys q) ∙ none_above x ys a.1 t
      where
        as_tied : (r : Ordering) → is_eq r ≡ true → r ≡ Equal
        as_tied Less h = absurd (cc)
        as_tied Equal h = refl
        as_tied Greater h = absurd (cc)

    first_lacks : (t a b : Bool) → (t ≡ true → b ≡ false) → (a && b) ≡ ((t || a) && b)
    first_lacks true true b h = refl
    first_lacks true false b h = sym (h refl)
    first_lacks false a b h = refl

    second_lacks : (t a b : Bool) → (t ≡ true → a ≡ false) → (a && b) ≡ (a && (t || b))
    second_lacks true true b h = absurd (let e = h refl in cc)
    second_lacks true false b h = refl
    second_lacks false a b h = refl

    both_have : (t a b : Bool) → (t || (a && b)) ≡ ((t || a) && (t || b))
    both_have true a b = refl
    both_have false a b = refl

    nor_first : (a : Bool) → false ≡ (a && false)
    nor_first true = refl
    nor_first false = refl

    intersection_at : (x : K) (xs : List K) → IsStrictlySortedBy R (x ∷ xs) → ((ys : List K) → IsStrictlySortedBy R ys → has (common R xs ys) q ≡ (has xs q && has ys q)) → (ys : List K) → IsStrictlySortedBy R ys → has (common R (x ∷ xs) ys) q ≡ (has (x ∷ xs) q && has ys q)
    unfolding IsStrictlySortedBy
    intersection_at x xs s h [] t = nor_first (has (x ∷ xs) q)
    intersection_at x xs s h (y ∷ ys) t = by_rank (λ l. has l q ≡ (has (x ∷ xs) q && has (y ∷ ys) q)) (R x y) _ _ _
        (λ k. h (y ∷ ys) t ∙ first_lacks (eq_by_cmp R q x) (has xs q) (has (y ∷ ys) q) (none_above x (y ∷ ys) (below_all x y ys k t.0)))
        (λ k. ap (λ b. eq_by_cmp R q x || b) (h ys t.1) ∙ both_have (eq_by_cmp R q x) (has xs q) (has ys q) ∙ ap (λ t. has (x ∷ xs) q && (t || has ys q)) (sym (as_first x y k)))
        (λ k. intersection_at x xs s h ys t.1 ∙ second_lacks (eq_by_cmp R q y) (has (x ∷ xs) q) (has ys q) (none_above y (x ∷ xs) (below_all y x xs (under x y k) s.0)))

    in_both : (xs ys : List K) → IsStrictlySortedBy R xs → IsStrictlySortedBy R ys → has (common R xs ys) q ≡ (has xs q && has ys q)
    unfolding IsStrictlySortedBy
    in_both [] ys s t = refl
    in_both (x ∷ xs) ys s t = intersection_at x xs s (λ zs. in_both xs zs s.1) ys t

  pub merged_is_union : (xs ys : List K) → IsUnion (eq_by_cmp R) xs ys (merged R xs ys)
  merged_is_union xs ys q = in_either q xs ys

  pub common_is_intersection : (xs ys : List K) → IsStrictlySortedBy R xs → IsStrictlySortedBy R ys → IsIntersection (eq_by_cmp R) xs ys (common R xs ys)
  common_is_intersection xs ys s t q = in_both q xs ys s t
