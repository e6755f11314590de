-- What keeps distances settled.
use Rattle.std.proofs.Common.{◌≡◌, ◌⊎◌, inl, inr, ℕ, zero, suc, List, Contains, Option, Some, ◌<◌, ◌≤◌, sym, ◌∙◌, subst, arith}
use Rattle.std.specs.Prelude.{◌↔◌}
use Rattle.cedar_gate_wanted.specs.Near.{IsNear, IsBelow}
use Rattle.cedar_gate_wanted.specs.Kept.{IsKept, IsSettling, IsLowered}

-- more roots and more mentions leave each chain
pub IsNear-more : {K : Type 0} (r s : List K) (m o : K → List K) → ((x : K) → Contains r x → Contains s x) → ((v x : K) → Contains (m v) x → Contains (o v) x) → (k : ℕ) (u : K) → IsNear r m k u → IsNear s o k u
IsNear-more r s m o h i zero u near = absurd near
IsNear-more r s m o h i (suc k) u (inl c) = inl (h u c)
IsNear-more r s m o h i (suc k) u (inr (v, near, c)) = inr (v, IsNear-more r s m o h i k v near, i v u c)

-- a chain of fewer steps
pub IsNear-longer : {K : Type 0} (r : List K) (m : K → List K) (j k : ℕ) (u : K) → j ≤ k → IsNear r m j u → IsNear r m k u
IsNear-longer r m zero k u le near = absurd near
IsNear-longer r m (suc j) zero u le near = absurd (omega arith)
IsNear-longer r m (suc j) (suc k) u le (inl c) = inl c
IsNear-longer r m (suc j) (suc k) u le (inr (v, near, c)) = inr (v, IsNear-longer r m j k v (omega arith) near, c)

IsBelow-more : {K : Type 0} (f : K → Option ℕ) (j k : ℕ) (u : K) → j ≤ k → IsBelow f j u → IsBelow f k u
IsBelow-more f j k u le (d, e, lt) = (d, e, omega arith)

-- with nothing to follow, all that is near is kept
all_kept : {K : Type 0} (r : List K) (m : K → List K) (n : ℕ) (f : K → Option ℕ) (P : K → Type 0) → IsSettling r m n f P → ((x : K) → P x → ⊥) → (k : ℕ) (u : K) → k ≤ n → IsNear r m k u → IsBelow f k u
all_kept r m n f P s none zero u le near = absurd near
all_kept r m n f P s none (suc k) u le (inl c) = IsBelow-more f 1 (suc k) u (omega arith) (s.rooted u c (omega arith))
all_kept {K} r m n f P s none (suc k) u le (inr (v, near, c)) =
    let (d, e, lt) = all_kept r m n f P s none k v (omega arith) near in
    elim (s.closed v u d e c (omega arith)) [
      | inl b ↦ IsBelow-more f (suc (suc d)) (suc k) u (omega arith) b
      | inr p ↦ absurd (none v p)
    ]

pub settled : {K : Type 0} (r : List K) (m : K → List K) (n : ℕ) (f : K → Option ℕ) (P : K → Type 0) → IsSettling r m n f P → ((x : K) → P x → ⊥) → IsKept r m n f
settled r m n f P s none = record {
  near = λ k u le. (all_kept r m n f P s none k u le, λ (d, e, lt). IsNear-longer r m (suc d) k u (omega arith) (s.sound u d e));
  below = s.below;
}

-- what is kept is settling, with nothing to follow
pub kept_settling : {K : Type 0} (r : List K) (m : K → List K) (n : ℕ) (f : K → Option ℕ) (P : K → Type 0) → IsKept r m n f → IsSettling r m n f P
kept_settling r m n f P s = record {
  below = s.below;
  sound = λ u d e. (s.near (suc d) u (let lt : d < n = s.below u d e in omega arith)).1 (d, e, omega arith);
  rooted = λ u c lt. (s.near 1 u (omega arith)).0 (inl c);
  closed = λ v u d e c lt. inl ((s.near (suc (suc d)) u (omega arith)).0 (inr (v, (s.near (suc d) v (omega arith)).1 (d, e, omega arith), c)));
}

-- a lowered key is below what it was below
pub IsBelow-lowered : {K : Type 0} (f g : K → Option ℕ) (u : K) (e : ℕ) → IsLowered f g u e → (k : ℕ) (x : K) → IsBelow f k x → IsBelow g k x
IsBelow-lowered f g u e l k x (d, is, lt) =
    elim (l.apart x) [
      | inl same ↦ (e, subst (λ y. g y ≡ Some e) (sym same) l.here, (let nearer : e < d = l.nearer d (subst (λ y. f y ≡ Some d) same is) in omega arith))
      | inr same ↦ (d, same ∙ is, lt)
    ]

-- a key is lowered to the end of a chain, and is to be followed
pub settling_lowered : {K : Type 0} (r : List K) (m : K → List K) (n : ℕ) (f g : K → Option ℕ) (P : K → Type 0) (u : K) (e : ℕ) → IsSettling r m n f P → IsLowered f g u e → e < n → IsNear r m (suc e) u → IsSettling r m n g (λ x. P x ⊎ (x ≡ u))
settling_lowered {K} r m n f g P u e s l lt near = record {
  below = λ x d is. elim (l.apart x) [ inl same ↦ (let h : d ≡ e = one x d is same in omega arith) | inr same ↦ s.below x d (sym same ∙ is) ];
  sound = λ x d is. elim (l.apart x) [
    | inl same ↦ subst (λ y. IsNear r m (suc d) y) (sym same) (subst (λ c. IsNear r m (suc c) u) (sym (one x d is same)) near)
    | inr same ↦ s.sound x d (sym same ∙ is)
  ];
  rooted = λ x c some. IsBelow-lowered f g u e l 1 x (s.rooted x c some);
  closed = λ v x d is c some. elim (l.apart v) [
    | inl same ↦ inr (inr same)
    | inr same ↦ elim (s.closed v x d (sym same ∙ is) c some) [ inl b ↦ inl (IsBelow-lowered f g u e l (suc (suc d)) x b) | inr p ↦ inr (inl p) ]
  ];
} where
  one : (x : K) (d : ℕ) → g x ≡ Some d → x ≡ u → d ≡ e
  one x d is same = let h : g u ≡ Some e = l.here in let i : g u ≡ Some d = subst (λ y. g y ≡ Some d) same is in cc

-- fewer are to be followed, where what the others mention is kept near enough
pub settling_followed : {K : Type 0} (r : List K) (m : K → List K) (n : ℕ) (f : K → Option ℕ) (P Q : K → Type 0) → IsSettling r m n f P → ((v : K) → P v → Q v ⊎ ((u : K) (d : ℕ) → f v ≡ Some d → Contains (m v) u → suc d < n → IsBelow f (suc (suc d)) u)) → IsSettling r m n f Q
settling_followed r m n f P Q s h = record {
  below = s.below;
  sound = s.sound;
  rooted = s.rooted;
  closed = λ v u d is c lt. elim (s.closed v u d is c lt) [ inl b ↦ inl b | inr p ↦ elim (h v p) [ inl q ↦ inr q | inr k ↦ inl (k u d is c lt) ] ];
}

-- more keys mention, and are to be followed where they are kept
pub settling_loaded : {K : Type 0} (r : List K) (m o : K → List K) (n : ℕ) (f : K → Option ℕ) (Q : K → Type 0) → IsKept r m n f → ((v x : K) → Contains (m v) x → Contains (o v) x) → ((v : K) (d : ℕ) → f v ≡ Some d → Q v ⊎ (o v ≡ m v)) → IsSettling r o n f Q
settling_loaded r m o n f Q kept more same = let s = kept_settling r m n f Q kept in record {
  below = s.below;
  sound = λ u d is. IsNear-more r r m o (λ x c. c) more (suc d) u (s.sound u d is);
  rooted = s.rooted;
  closed = λ v u d is c lt. elim (same v d is) [
    | inl q ↦ inr q
    | inr eq ↦ s.closed v u d is (subst (λ xs. Contains xs u) eq c) lt
  ];
}

-- at level 0 nothing is near
pub kept_at_zero : {K : Type 0} (r t : List K) (m o : K → List K) (n : ℕ) (f : K → Option ℕ) → n ≡ 0 → IsKept r m n f → IsKept t o n f
kept_at_zero {K} r t m o n f none s = record {
  near = λ k u le. near_at k u (omega arith);
  below = s.below;
} where
  near_at : (k : ℕ) (u : K) → k ≡ 0 → IsNear t o k u ↔ IsBelow f k u
  near_at zero u e = (λ near. absurd near, λ (d, is, lt). absurd (omega arith))
  near_at (suc k) u e = absurd (omega arith)
