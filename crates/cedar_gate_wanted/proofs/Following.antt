-- What following a list of keys does.
use Rattle.std.proofs.Common.{◌≡◌, ◌⊎◌, inl, inr, ℕ, suc, List, [], ◌∷◌, ◌++◌, Contains, Option, Some, ◌<◌, refl, sym, ◌∙◌, subst, arith}
use Rattle.std.proofs.lemmas.List.Elements.{Contains-push_cases}
use Rattle.cedar_gate_wanted.specs.Near.{IsNear, IsBelow}
use Rattle.cedar_gate_wanted.specs.Kept.{IsSettling, IsSpread, IsFollowed}
use Rattle.cedar_gate_wanted.proofs.Spreading.{IsBelow-spread}

some_one : (a b : ℕ) (o : Option ℕ) → o ≡ Some a → o ≡ Some b → a ≡ b
some_one a b o p q = cc

IsBelow-followed : {K : Type 0} (m : K → List K) (f g : K → Option ℕ) (d : ℕ) (keys now : List K) → IsFollowed m f g d keys now → (k : ℕ) (x : K) → IsBelow f k x → IsBelow g k x
IsBelow-followed m f g d keys now l k x (e, is, lt) =
    elim (l.lowered x) [
      | inl same ↦ (e, same ∙ is, lt)
      | inr (here, c, b, nearer) ↦ (suc d, here, (let h : suc d < e = nearer e is in omega arith))
    ]

-- The list was followed: what was to be followed and is not of it still is where it was not lowered, and so are those that were.
pub settling_followed_all : {K : Type 0} (r : List K) (m : K → List K) (n : ℕ) (f g : K → Option ℕ) (P Q : K → Type 0) (d : ℕ) (keys now : List K) → IsSettling r m n f P → suc d < n → IsFollowed m f g d keys now → ((v : K) → P v → g v ≡ f v → Q v ⊎ (Contains keys v × (f v ≡ Some d))) → ((v : K) → g v ≡ Some (suc d) → Contains now v → Q v) → IsSettling r m n g Q
settling_followed_all {K} r m n f g P Q d keys now s lt l old new = record {
  below = λ y e is. elim (l.lowered y) [
    | inl same ↦ s.below y e (sym same ∙ is)
    | inr (here, c, b, nearer) ↦ (let h : e ≡ suc d = some_one e (suc d) (g y) is here in omega arith)
  ];
  sound = λ y e is. elim (l.lowered y) [
    | inl same ↦ s.sound y e (sym same ∙ is)
    | inr (here, (x, at, c), b, nearer) ↦ subst (λ k. IsNear r m (suc k) y) (some_one (suc d) e (g y) here is) (inr (x, s.sound x d at, c))
  ];
  rooted = λ y c some. IsBelow-followed m f g d keys now l 1 y (s.rooted y c some);
  closed = λ v u e is c some. elim (l.lowered v) [
    | inr (here, k, b, nearer) ↦ inr (new v here b)
    | inl same ↦ elim (s.closed v u e (sym same ∙ is) c some) [
      | inl b ↦ inl (IsBelow-followed m f g d keys now l (suc (suc e)) u b)
      | inr p ↦ elim (old v p same) [
        | inl q ↦ inr q
        | inr (k, at) ↦ inl (subst (λ k. IsBelow g (suc (suc k)) u) (some_one d e (f v) at (sym same ∙ is)) (l.reached v u k at c))
      ]
    ]
  ];
}

-- nothing is followed yet
pub followed_none : {K : Type 0} (m : K → List K) (f : K → Option ℕ) (d : ℕ) (now : List K) → IsFollowed m f f d [] now
followed_none m f d now = record { reached = λ x y (k, lt, c) at in_m. absurd (omega arith); lowered = λ y. inl refl }

-- a key that is at d in the one map is so in the other
at_both : {K : Type 0} (m : K → List K) (f g : K → Option ℕ) (d : ℕ) (keys now : List K) → IsFollowed m f g d keys now → (x : K) → f x ≡ Some d → g x ≡ Some d
at_both m f g d keys now l x at = elim (l.lowered x) [
  | inl same ↦ same ∙ at
  | inr (here, c, b, nearer) ↦ (let h : suc d < d = nearer d at in absurd (omega arith))
]

at_first : {K : Type 0} (m : K → List K) (f g : K → Option ℕ) (d : ℕ) (keys now : List K) → IsFollowed m f g d keys now → (x : K) → g x ≡ Some d → f x ≡ Some d
at_first m f g d keys now l x at = elim (l.lowered x) [
  | inl same ↦ sym same ∙ at
  | inr (here, c, b, nearer) ↦ (let h : suc d ≡ d = some_one (suc d) d (g x) here at in absurd (omega arith))
]

-- one key more was followed
pub followed_more : {K : Type 0} (m : K → List K) (f g h : K → Option ℕ) (d e : ℕ) (keys ys now then xs : List K) (x : K) → IsFollowed m f g d keys now → ys ≡ keys ++ x ∷ [] → ((y : K) → Contains now y → Contains then y) → g x ≡ Some d → xs ≡ m x → e ≡ suc d → IsSpread g h e xs then → IsFollowed m f h d ys then
followed_more {K} m f g h d e keys ys now then xs x l more kept at all next of_e = record {
  reached = λ v y c is in_m. elim (Contains-push_cases keys x v (subst (λ zs. Contains zs v) more c)) [
    | inl old ↦ IsBelow-spread g h (suc d) xs then s (suc (suc d)) y (l.reached v y old is in_m)
    | inr new ↦ s.reached y (subst (λ zs. Contains zs y) (sym all) (subst (λ z. Contains (m z) y) (sym new) in_m))
  ];
  lowered = λ y. elim (s.lowered y) [
    | inl same ↦ elim (l.lowered y) [
      | inl first ↦ inl (same ∙ first)
      | inr (here, c, b, nearer) ↦ inr (same ∙ here, c, kept y b, nearer)
    ]
    | inr (here, c, b, nearer) ↦ inr (here, (x, at_first m f g d keys now l x at, subst (λ zs. Contains zs y) all c), b, nearer_at y nearer)
  ];
} where
  s : IsSpread g h (suc d) xs then
  s = subst (λ k. IsSpread g h k xs then) next of_e

  nearer_at : (y : K) → ((k : ℕ) → g y ≡ Some k → suc d < k) → (k : ℕ) → f y ≡ Some k → suc d < k
  nearer_at y nearer k is = elim (l.lowered y) [
    | inl first ↦ nearer k (first ∙ is)
    | inr (there, c, b, was) ↦ was k is
  ]

-- one key more has nothing to be followed
pub followed_skip : {K : Type 0} (m : K → List K) (f g : K → Option ℕ) (d : ℕ) (keys ys now : List K) (x : K) → IsFollowed m f g d keys now → ys ≡ keys ++ x ∷ [] → (g x ≡ Some d → m x ≡ []) → IsFollowed m f g d ys now
followed_skip {K} m f g d keys ys now x l more none = record {
  reached = λ v y c is in_m. elim (Contains-push_cases keys x v (subst (λ zs. Contains zs v) more c)) [
    | inl old ↦ l.reached v y old is in_m
    | inr new ↦ absurd (empty y (subst (λ zs. Contains zs y) (none (at_both m f g d keys now l x (subst (λ z. f z ≡ Some d) (sym new) is))) (subst (λ z. Contains (m z) y) (sym new) in_m)))
  ];
  lowered = l.lowered;
} where
  empty : (y : K) → Contains [] y → ⊥
  empty y (k, lt, c) = omega arith
