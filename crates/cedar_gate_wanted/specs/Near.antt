-- Which keys are few steps from some roots, where each key mentions others.
use Rattle.std.specs.Prelude.{◌≡◌, ◌⊎◌, ℕ, zero, suc, List, Contains, Option, Some, ◌<◌}

-- the end of a chain of fewer than n steps, each to what the key before it mentions
abbrev pub IsNear : {K : Type 0} → List K → (K → List K) → ℕ → K → Type 0
IsNear {K} roots m zero u = ⊥
IsNear {K} roots m (suc n) u = Contains roots u ⊎ ((v : K) × IsNear roots m n v × Contains (m v) u)

-- u is kept at a distance below k
abbrev pub IsBelow : {K : Type 0} → (K → Option ℕ) → ℕ → K → Type 0
IsBelow {K} f k u = (d : ℕ) × (f u ≡ Some d) × (d < k)
