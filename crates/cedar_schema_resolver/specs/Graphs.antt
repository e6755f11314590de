-- Graphs of numbered nodes, and what each node leads to.
-- Rule: descent (docs/RULES.md).
use Rattle.std.specs.Prelude.{◌≡◌, ℕ, zero, suc, ◌<◌, List, [], ◌∷◌, eqb, length, get_or, take, Contains}
use Rattle.std.specs.List.{IsDistinct}
use Rattle.std.specs.declared.alloc.Global.{Global}
use Rattle.std.specs.declared.vec.Vec.{Vec}
use Rattle.cedar_schema_model.specs.Descent.{Reaches}
use Rattle.cedar_schema_resolver.specs.declared.closure_err.CycleError.{CycleError}
use Rattle.cedar_schema_resolver.specs.declared.closure_err.CycleError.TheVariants.{OutOfMemory, Cycle}

-- A graph: for each node, by its number, those that an edge leads to.
abbrev pub Graph : Type 0
Graph = List (Vec ℕ Global)

-- the nodes that an edge leads to from this one
abbrev pub targets : Graph → ℕ → List ℕ
targets [] i = []
targets (r ∷ rs) zero = r.items
targets (r ∷ rs) (suc i) = targets rs i

abbrev pub HasEdge : Graph → ℕ → ℕ → Type 0
HasEdge g i j = Contains (targets g i) j

-- each edge leads to a node of the graph
pub record IsWithin (g : Graph) : Type 0 where
  pub each : (i j : ℕ) → HasEdge g i j → j < length g

-- These are the nodes that one or more edges lead to, each once.
pub record AreReached (g : Graph) (i : ℕ) (js : List ℕ) : Type 0 where
  pub only : (j : ℕ) → Contains js j → Reaches (HasEdge g) i j
  pub all : (j : ℕ) → Reaches (HasEdge g) i j → Contains js j
  pub once : IsDistinct eqb js

-- a graph with an edge to each node that edges lead to
pub record IsClosure (g c : Graph) : Type 0 where
  pub size : length c ≡ length g
  pub each : (i : ℕ) → i < length g → AreReached g i (targets c i)

-- a graph with each edge turned round
pub record IsTurned (g h : Graph) : Type 0 where
  pub size : length h ≡ length g
  pub only : (i j : ℕ) → HasEdge h i j → HasEdge g j i
  pub all : (i j : ℕ) → HasEdge g i j → HasEdge h j i

-- All nodes, each once, and after those that one or more edges lead to from it. None leads to itself.
pub record IsOrder (g : Graph) (is : List ℕ) : Type 0 where
  pub all : (i : ℕ) → i < length g → Contains is i
  pub within : (i : ℕ) → Contains is i → i < length g
  pub once : IsDistinct eqb is
  pub after : (k j : ℕ) → k < length is → Reaches (HasEdge g) (get_or is k 0) j → Contains (take k is) j
  pub apart : (i : ℕ) → Reaches (HasEdge g) i i → ⊥

-- The error tells a node that leads to itself. Out of memory tells none.
abbrev pub TellsCycle : Graph → CycleError → Type 0
TellsCycle g OutOfMemory = Unit {0}
TellsCycle g (Cycle i) = Reaches (HasEdge g) i i
