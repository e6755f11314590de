-- Nodes that stand with their parents, and their numbers.
-- Rule: descent; well-formed declarations (docs/RULES.md).
use Rattle.std.specs.Prelude.{◌≡◌, ◌⊎◌, ℕ, ◌<◌, List, [], ◌∷◌, Option, Some, map, length, take, get_or, Contains, slice_index_or}
use Rattle.std.specs.List.{filter_map}
use Rattle.std.specs.declared.alloc.Global.{Global}
use Rattle.std.specs.declared.vec.Vec.{Vec}
use Rattle.cedar_schema_model.specs.BagLaws.{HasTwice}
use Rattle.cedar_schema_resolver.specs.Graphs.{Graph, targets}
use Rattle.cedar_schema_resolver.specs.declared.hierarchy_err.RepeatedError.{RepeatedError}
use Rattle.cedar_schema_resolver.specs.declared.hierarchy_err.RepeatedError.TheVariants.{OutOfMemory, Repeated}

-- what nodes and their parents name
abbrev pub seen_nodes : {N S : Type 0} → (N → S) → List (N × Vec N Global) → List (S × List S)
seen_nodes seen ts = map (λ t. (seen t.0, map seen t.1.items)) ts

abbrev pub names_in : {N S : Type 0} → (N → S) → List (N × Vec N Global) → List S
names_in seen ts = map (λ t. seen t.0) ts

-- it is the name of this number
abbrev pub IsAt : {S : Type 0} → List S → ℕ → S → Type 0
IsAt names i s = (i < length names) × (slice_index_or names i s ≡ s)

-- A node has the number of its name, and one that isn't named has none.
pub record AreNumbers {N S : Type 0} (seen : N → S) (names : List S) (number : N → Option ℕ) : Type 0 where
  pub only : (q : N) (i : ℕ) → number q ≡ Some i → IsAt names i (seen q)
  pub all : (q : N) → Contains names (seen q) → (i : ℕ) × (number q ≡ Some i)

-- none is repeated
pub record AreOnce {S : Type 0} (names : List S) : Type 0 where
  pub none : HasTwice names → ⊥

-- it is repeated
abbrev pub StandsTwice : {S : Type 0} → List S → S → Type 0
StandsTwice [] s = ⊥
StandsTwice (x ∷ xs) s = ((x ≡ s) × Contains xs s) ⊎ StandsTwice xs s

-- the name of this number stands before that place too
abbrev pub StoodBefore : {S : Type 0} → List S → ℕ → Type 0
StoodBefore {S} names i = (s : S) × IsAt names i s × Contains (take i names) s

-- The error tells one that is repeated, by the number of a place at which it stood before. Out of memory tells none.
abbrev pub TellsRepeated : {S : Type 0} → List S → RepeatedError → Type 0
TellsRepeated names OutOfMemory = Unit {0}
TellsRepeated names (Repeated i) = StoodBefore names i

-- the numbers of the parents of each
abbrev pub rows_of : {N : Type 0} → (N → Option ℕ) → List (N × Vec N Global) → List (List ℕ)
rows_of number ts = map (λ t. filter_map number t.1.items) ts

-- these are the names of these numbers
pub record AreNamesAt {S : Type 0} (names : List S) (is : List ℕ) (ss : List S) : Type 0 where
  pub only : (s : S) → Contains ss s → (i : ℕ) × Contains is i × IsAt names i s
  pub all : (s : S) (i : ℕ) → Contains is i → IsAt names i s → Contains ss s

-- These sets are, row by row, the names of the numbers in the graph.
pub record AreSetsAt {S : Type 0} (names : List S) (g : Graph) (sets : List (List S)) : Type 0 where
  pub size : length sets ≡ length g
  pub each : (i : ℕ) → i < length g → AreNamesAt names (targets g i) (get_or sets i [])
