-- Kept distances: what a map from keys to distances says.
use Rattle.std.specs.Prelude.{◌≡◌, ◌⊎◌, ℕ, suc, List, Contains, Option, Some, ◌<◌, ◌≤◌, ◌↔◌}
use Rattle.std.specs.Prelude.{[], ◌∷◌, ◌++◌, IsSome}
use Rattle.cedar_gate_wanted.specs.Near.{IsNear, IsBelow}

-- Up to n, the keys kept at distances below k are those that are near by chains of fewer than k steps, and nothing is kept at n or above.
pub record IsKept {K : Type 0} (roots : List K) (m : K → List K) (n : ℕ) (f : K → Option ℕ) : Type 0 where
  pub near : (k : ℕ) (u : K) → k ≤ n → IsNear roots m k u ↔ IsBelow f k u
  pub below : (u : K) (d : ℕ) → f u ≡ Some d → d < n

-- What is kept below n while the keys in P are yet to be followed: each key at no less than its distance, all roots, and what any key
-- outside P leads to.
pub record IsSettling {K : Type 0} (roots : List K) (m : K → List K) (n : ℕ) (f : K → Option ℕ) (P : K → Type 0) : Type 0 where
  pub below : (u : K) (d : ℕ) → f u ≡ Some d → d < n
  pub sound : (u : K) (d : ℕ) → f u ≡ Some d → IsNear roots m (suc d) u
  pub rooted : (u : K) → Contains roots u → 0 < n → IsBelow f 1 u
  pub closed : (v u : K) (d : ℕ) → f v ≡ Some d → Contains (m v) u → suc d < n → IsBelow f (suc (suc d)) u ⊎ P v

-- g is f with u lowered to e
pub record IsLowered {K : Type 0} (f g : K → Option ℕ) (u : K) (e : ℕ) : Type 0 where
  pub here : g u ≡ Some e
  pub nearer : (d : ℕ) → f u ≡ Some d → e < d
  pub apart : (x : K) → (x ≡ u) ⊎ (g x ≡ f x)

-- g is f with keys of xs lowered to e, so that each of them is at e or below; those that were lowered are in the list now.
pub record IsSpread {K : Type 0} (f g : K → Option ℕ) (e : ℕ) (xs now : List K) : Type 0 where
  pub reached : (y : K) → Contains xs y → IsBelow g (suc e) y
  pub lowered : (y : K) → (g y ≡ f y) ⊎ ((g y ≡ Some e) × Contains xs y × Contains now y × ((d : ℕ) → f y ≡ Some d → e < d))

-- g is f after a write at u, where o stood; a write leaves something where something stood
pub record IsWrite {K : Type 0} (u : K) (o : Option ℕ) (f g : K → Option ℕ) : Type 0 where
  pub before : f u ≡ o
  pub stays : IsSome o → IsSome (g u)
  pub apart : (q : K) → (q ≡ u) ⊎ (g q ≡ f q)

-- g is f after writes at the keys of the log, where each has what stood there
abbrev pub IsWritten : {K : Type 0} → List (K × Option ℕ) → (K → Option ℕ) → (K → Option ℕ) → Type 0
IsWritten {K} [] f g = (q : K) → g q ≡ f q
IsWritten {K} (w ∷ log) f g = (h : K → Option ℕ) × IsWrite w.0 w.1 f h × IsWritten log h g

-- g is f after the writes of the log
pub record IsUndo {K : Type 0} (log : List (K × Option ℕ)) (f g : K → Option ℕ) : Type 0 where
  pub written : IsWritten log f g

-- g is f with what the keys at d mention lowered to the next distance, so that all that they mention is there or below; those that
-- were lowered are in the list now.
pub record IsFollowed {K : Type 0} (m : K → List K) (f g : K → Option ℕ) (d : ℕ) (keys now : List K) : Type 0 where
  pub reached : (x y : K) → Contains keys x → f x ≡ Some d → Contains (m x) y → IsBelow g (suc (suc d)) y
  pub lowered : (y : K) → (g y ≡ f y) ⊎ ((g y ≡ Some (suc d)) × ((x : K) × (f x ≡ Some d) × Contains (m x) y) × Contains now y × ((e : ℕ) → f y ≡ Some e → suc d < e))

-- o mentions what m does, and what the loaded keys mention besides
pub record IsLoaded {K : Type 0} (m o : K → List K) (loaded : List K) : Type 0 where
  pub more : (v x : K) → Contains (m v) x → Contains (o v) x
  pub same : (v : K) → Contains loaded v ⊎ (o v ≡ m v)

-- Distances that are kept from some roots are kept from these besides; or by what the loaded keys mention now; or after what is yet to be
-- followed is settled.
abbrev pub AddsRoots : {K : Type 0} → List K → (K → List K) → ℕ → (K → Option ℕ) → (K → Option ℕ) → Type 0
AddsRoots {K} added m n f g = (roots : List K) → IsKept roots m n f → IsKept (roots ++ added) m n g

abbrev pub TakesLoaded : {K : Type 0} → List K → (K → List K) → ℕ → (K → Option ℕ) → (K → Option ℕ) → Type 0
TakesLoaded {K} loaded o n f g = (roots : List K) (m : K → List K) → IsLoaded m o loaded → IsKept roots m n f → IsKept roots o n g

abbrev pub Settles : {K : Type 0} → (K → List K) → ℕ → (K → Type 0) → (K → Option ℕ) → (K → Option ℕ) → Type 0
Settles {K} m n P f g = (roots : List K) → IsSettling roots m n f P → IsKept roots m n g

-- a log that undoes what led to g undoes what led to h, with what was added to it
abbrev pub KeepsUndo : {K : Type 0} → List (K × Option ℕ) → List (K × Option ℕ) → (K → Option ℕ) → (K → Option ℕ) → Type 0
KeepsUndo {K} old new g h = (f : K → Option ℕ) → IsUndo old f g → IsUndo new f h
