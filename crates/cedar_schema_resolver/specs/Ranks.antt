-- Nodes by the number of those that they lead to.
-- Rule: descent (docs/RULES.md).
use Rattle.std.specs.Prelude.{◌≡◌, ℕ, suc, List, [], ◌∷◌, map, length}
use Rattle.std.specs.List.Sorted.{IsPermutation, IsNonDecreasingBy}
use Rattle.cedar_schema_resolver.specs.Graphs.{Graph, HasEdge}
use Rattle.cedar_schema_resolver.specs.declared.order.Rank.{Rank}

-- an edge leads from the node to itself
pub record LeadsToItself (c : Graph) (i : ℕ) : Type 0 where
  pub edge : HasEdge c i i

-- no edge does so
pub record LeadToOthers (c : Graph) : Type 0 where
  pub none : (i : ℕ) → HasEdge c i i → ⊥

-- nodes with the lengths of their rows, numbered from here on
abbrev pub ranks_from : Graph → ℕ → List Rank
ranks_from [] i = []
ranks_from (r ∷ rs) i = record { count = length r.items; node = i } ∷ ranks_from rs (suc i)

-- These are the nodes, those with shorter rows first.
pub record AreByRank (c : Graph) (ns : List ℕ) : Type 0 where
  pub ranks : List Rank
  pub same : IsPermutation (ranks_from c 0) ranks
  pub rise : IsNonDecreasingBy (λ (r : Rank). r.count) ranks
  pub are : ns ≡ map (λ (r : Rank). r.node) ranks
