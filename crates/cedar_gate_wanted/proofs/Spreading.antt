-- What following a key does.
use Rattle.std.proofs.Common.{◌≡◌, ◌⊎◌, inl, inr, ℕ, suc, List, Contains, Option, Some, ◌<◌, sym, ◌∙◌, subst, arith}
use Rattle.cedar_gate_wanted.specs.Near.{IsNear, IsBelow}
use Rattle.std.proofs.Common.{[], ◌∷◌, ◌++◌}
use Rattle.std.proofs.lemmas.List.Elements.{Contains-push, Contains-push_cases, Contains-append_left}
use Rattle.cedar_gate_wanted.proofs.Settling.{IsBelow-lowered}
use Rattle.cedar_gate_wanted.specs.Kept.{IsSettling, IsSpread, IsLowered}

pub IsBelow-spread : {K : Type 0} (f g : K → Option ℕ) (e : ℕ) (xs now : List K) → IsSpread f g e xs now → (k : ℕ) (x : K) → IsBelow f k x → IsBelow g k x
IsBelow-spread f g e xs now l k x (d, is, lt) =
    elim (l.lowered x) [
      | inl same ↦ (d, same ∙ is, lt)
      | inr (here, c, b, nearer) ↦ (e, here, (let h : e < d = nearer d is in omega arith))
    ]

some_one : (a b : ℕ) (o : Option ℕ) → o ≡ Some a → o ≡ Some b → a ≡ b
some_one a b o p q = cc

-- x was followed: what was to be followed and is not x still is where it was not lowered, and so are those that were
pub settling_spread : {K : Type 0} (r : List K) (m : K → List K) (n : ℕ) (f g : K → Option ℕ) (P Q : K → Type 0) (x : K) (d : ℕ) (xs now : List K) → IsSettling r m n f P → f x ≡ Some d → suc d < n → xs ≡ m x → IsSpread f g (suc d) xs now → ((v : K) → P v → g v ≡ f v → Q v ⊎ (v ≡ x)) → ((v : K) → g v ≡ Some (suc d) → Contains now v → Q v) → IsSettling r m n g Q
settling_spread {K} r m n f g P Q x d xs now s at lt all l old new = record {
  below = λ y e is. elim (l.lowered y) [
    | inl same ↦ s.below y e (sym same ∙ is)
    | inr (here, c, b, nearer) ↦ (let h : e ≡ suc d = some_one e (suc d) (g y) is here in omega arith)
  ];
  sound = λ y e is. elim (l.lowered y) [
    | inl same ↦ s.sound y e (sym same ∙ is)
    | inr (here, c, b, nearer) ↦ subst (λ k. IsNear r m (suc k) y) (some_one (suc d) e (g y) here is) (inr (x, s.sound x d at, subst (λ zs. Contains zs y) all c))
  ];
  rooted = λ y c some. IsBelow-spread f g (suc d) xs now l 1 y (s.rooted y c some);
  closed = λ v u e is c some. elim (l.lowered v) [
    | inr (here, k, b, nearer) ↦ inr (new v here b)
    | inl same ↦ elim (s.closed v u e (sym same ∙ is) c some) [
      | inl b ↦ inl (IsBelow-spread f g (suc d) xs now l (suc (suc e)) u b)
      | inr p ↦ elim (old v p same) [
        | inl q ↦ inr q
        | inr this ↦ inl (subst (λ k. IsBelow g (suc (suc k)) u) (some_one d e (f v) (subst (λ y. f y ≡ Some d) (sym this) at) (sym same ∙ is)) (l.reached u (subst (λ zs. Contains zs u) (sym all) (subst (λ y. Contains (m y) u) this c))))
      ]
    ]
  ];
}

-- one key more was lowered
pub spread_lowered : {K : Type 0} (f g h : K → Option ℕ) (e : ℕ) (xs ys now then : List K) (u : K) → IsSpread f g e xs now → ys ≡ xs ++ u ∷ [] → then ≡ now ++ u ∷ [] → IsLowered g h u e → IsSpread f h e ys then
spread_lowered {K} f g h e xs ys now then u s more pushed l = record {
  reached = λ y c. elim (Contains-push_cases xs u y (subst (λ zs. Contains zs y) more c)) [
    | inl old ↦ IsBelow-lowered g h u e l (suc e) y (s.reached y old)
    | inr new ↦ (e, subst (λ z. h z ≡ Some e) new l.here, omega arith)
  ];
  lowered = λ y. elim (l.apart y) [
    | inr same ↦ elim (s.lowered y) [
      | inl first ↦ inl (same ∙ first)
      | inr (here, c, b, nearer) ↦ inr (same ∙ here, subst (λ zs. Contains zs y) (sym more) (Contains-append_left xs (u ∷ []) y c), subst (λ zs. Contains zs y) (sym pushed) (Contains-append_left now (u ∷ []) y b), nearer)
    ]
    | inl this ↦ inr (subst (λ z. h z ≡ Some e) (sym this) l.here, subst (λ zs. Contains zs y) (sym more) (subst (λ z. Contains (xs ++ u ∷ []) z) (sym this) (Contains-push xs u)), subst (λ zs. Contains zs y) (sym pushed) (subst (λ z. Contains (now ++ u ∷ []) z) (sym this) (Contains-push now u)), nearer_at y this)
  ];
} where
  nearer_at : (y : K) → y ≡ u → (d : ℕ) → f y ≡ Some d → e < d
  nearer_at y this d is = elim (s.lowered y) [
    | inl first ↦ l.nearer d (subst (λ z. g z ≡ Some d) this (first ∙ is))
    | inr (here, c, b, nearer) ↦ nearer d is
  ]

-- one key more was near enough
pub spread_left : {K : Type 0} (f g h : K → Option ℕ) (e : ℕ) (xs ys now then : List K) (u : K) → IsSpread f g e xs now → ys ≡ xs ++ u ∷ [] → then ≡ now → ((x : K) → h x ≡ g x) → IsBelow h (suc e) u → IsSpread f h e ys then
spread_left {K} f g h e xs ys now then u s more kept same b = record {
  reached = λ y c. elim (Contains-push_cases xs u y (subst (λ zs. Contains zs y) more c)) [
    | inl old ↦ (let (d, is, lt) = s.reached y old in (d, same y ∙ is, lt))
    | inr new ↦ subst (λ z. IsBelow h (suc e) z) new b
  ];
  lowered = λ y. elim (s.lowered y) [
    | inl first ↦ inl (same y ∙ first)
    | inr (here, c, k, nearer) ↦ inr (same y ∙ here, subst (λ zs. Contains zs y) (sym more) (Contains-append_left xs (u ∷ []) y c), subst (λ zs. Contains zs y) (sym kept) k, nearer)
  ];
}
