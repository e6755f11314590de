-- Descent by direct parents.
-- Rule: descent (docs/RULES.md).
use Rattle.std.specs.Prelude.{◌≡◌, ℕ, List, [], map, length, get_or, Contains}
use Rattle.cedar_schema_model.specs.Descent.{Reaches}
use Rattle.cedar_schema_resolver.specs.Graphs.{Graph, HasEdge, IsWithin}
use Rattle.cedar_schema_resolver.specs.Numbers.{IsAt}

-- one has the other as a parent
abbrev pub HasParentIn : {S : Type 0} → List (S × List S) → S → S → Type 0
HasParentIn {S} ts m n = (t : S × List S) × Contains ts t × (m ≡ t.0) × Contains t.1 n

-- the nodes alone
abbrev pub nodes_in : {S : Type 0} → List (S × List S) → List S
nodes_in ts = map (λ t. t.0) ts

-- The graph of their numbers has an edge from each to its parents.
pub record IsGraphOf {S : Type 0} (ts : List (S × List S)) (g : Graph) : Type 0 where
  pub size : length g ≡ length ts
  pub within : IsWithin g
  pub only : (i j : ℕ) (m n : S) → HasEdge g i j → IsAt (nodes_in ts) i m → IsAt (nodes_in ts) j n → HasParentIn ts m n
  pub all : (i j : ℕ) (m n : S) → HasParentIn ts m n → IsAt (nodes_in ts) i m → IsAt (nodes_in ts) j n → HasEdge g i j

-- These are, for each node, those that descend from it.
pub record AreDescendants {S : Type 0} (ts : List (S × List S)) (sets : List (List S)) : Type 0 where
  pub size : length sets ≡ length ts
  pub only : (i : ℕ) (m n : S) → IsAt (nodes_in ts) i n → Contains (get_or sets i []) m → Contains (nodes_in ts) m × Reaches (HasParentIn ts) m n
  pub all : (i : ℕ) (m n : S) → IsAt (nodes_in ts) i n → Contains (nodes_in ts) m → Reaches (HasParentIn ts) m n → Contains (get_or sets i []) m
