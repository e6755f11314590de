-- Rows to which nodes are put.
-- Rule: descent (docs/RULES.md).
use Rattle.std.specs.Prelude.{◌≡◌, ◌⊎◌, ℕ, List, Contains}
use Rattle.cedar_schema_resolver.specs.Graphs.{Graph, HasEdge}

-- without a node
pub record HasEmptyRows (g : Graph) : Type 0 where
  pub none : (i j : ℕ) → HasEdge g i j → ⊥

-- in these rows there is a node more
pub record HasAdded (g h : Graph) (at : List ℕ) (n : ℕ) : Type 0 where
  pub kept : (i j : ℕ) → HasEdge g i j → HasEdge h i j
  pub added : (i : ℕ) → Contains at i → HasEdge h i n
  pub only : (i j : ℕ) → HasEdge h i j → HasEdge g i j ⊎ (Contains at i × (j ≡ n))
