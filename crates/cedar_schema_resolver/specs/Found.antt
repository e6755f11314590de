-- Nodes that are found, one after the other.
-- Rule: descent (docs/RULES.md).
use Rattle.std.specs.Prelude.{◌≡◌, ℕ, ◌<◌, List, [], ◌∷◌, ◌++◌, Bool, false, eqb, get_or, Contains, if◌then◌else◌}
use Rattle.std.specs.List.{list_any}

-- with one more, unless it is found already
abbrev pub with_node : ℕ → List ℕ → List ℕ
with_node n xs = if list_any (eqb n) xs then xs else xs ++ n ∷ []

-- with these, one after the other
abbrev pub with_nodes : List ℕ → List ℕ → List ℕ
with_nodes [] xs = xs
with_nodes (n ∷ ns) xs = with_nodes ns (with_node n xs)

-- the marks tell which nodes are found
pub record AreMarks (marks : List Bool) (found : List ℕ) : Type 0 where
  pub same : (n : ℕ) → get_or marks n false ≡ list_any (eqb n) found

-- each of these nodes has a number below
pub record AreBelow (size : ℕ) (ns : List ℕ) : Type 0 where
  pub each : (n : ℕ) → Contains ns n → n < size
