-- Rows that are taken in: what each uid of a supply mentions; and which supplies are refused.
use Rattle.std.specs.Prelude.{◌≡◌, ◌⊎◌, ◌↔◌, ℕ, List, map, Contains, Option, Some, None, is_some, IsSome, true}
use Rattle.std.specs.declared.alloc.Global.{Global}
use Rattle.std.specs.declared.vec.Vec.{Vec}
use Rattle.cedar_expr_model.specs.Uid.{Uid, uid_eq}
use Rattle.cedar_expr_model.specs.Repeats.{repeated}
use Rattle.cedar_expr_names.specs.Views.{uid_of}
use Rattle.cedar_expr_names.specs.declared.entity.EntityUID.{EntityUID}
use Rattle.cedar_gate_wanted.specs.declared.supplied.Unfit.{Unfit}
use Rattle.cedar_gate_wanted.specs.declared.supplied.Unfit.TheVariants.{OutOfMemory, NotWanted, Lacking, Repeated}

-- uids with what stands at them
abbrev pub rows_of : List (EntityUID × Vec EntityUID Global) → List (Uid × Vec EntityUID Global)
rows_of ps = map (λ p. (uid_of p.0, p.1)) ps

abbrev pub keys_in : {X : Type 0} → List (EntityUID × X) → List Uid
keys_in ps = map (λ p. uid_of p.0) ps

-- g is f with these put in: at the uid of a pair stands what a pair of it has, and all else is as it was.
pub record IsFilled {X : Type 0} (ps : List (Uid × X)) (f g : Uid → Option X) : Type 0 where
  pub filled : (u : Uid) → ((r : X) × Contains ps (u, r) × (g u ≡ Some r)) ⊎ ((Contains (map (λ p. p.0) ps) u → ⊥) × (g u ≡ f u))

-- at the uid nothing stands any more if it is one of these, else what stood there
abbrev pub IsOut : {X : Type 0} → List Uid → (Uid → Option X) → (Uid → Option X) → Uid → Type 0
IsOut us f g u = (Contains us u × (g u ≡ None)) ⊎ ((Contains us u → ⊥) × (g u ≡ f u))

-- a uid is repeated; or none is, and something stands at exactly these uids
abbrev pub HasRepeated : List Uid → Type 0
HasRepeated us = is_some (repeated uid_eq us) ≡ true

abbrev pub HoldsEachOnce : {X : Type 0} → List Uid → (Uid → Option X) → Type 0
HoldsEachOnce us f = (repeated uid_eq us ≡ None) × ((u : Uid) → IsSome (f u) ↔ Contains us u)

-- the uids of a supply are those that are wanted, each once
pub record AreKeys (wanted keys : List Uid) : Type 0 where
  pub each : (u : Uid) → Contains keys u → Contains wanted u
  pub all : (u : Uid) → Contains wanted u → Contains keys u
  pub once : repeated uid_eq keys ≡ None

-- The fault is there, for a supply of these uids.
abbrev pub IsUnfit : List Uid → List Uid → Unfit → Type 0
IsUnfit wanted keys OutOfMemory = Unit {0}
IsUnfit wanted keys NotWanted = (u : Uid) × Contains keys u × (Contains wanted u → ⊥)
IsUnfit wanted keys Lacking = (u : Uid) × Contains wanted u × (Contains keys u → ⊥)
IsUnfit wanted keys Repeated = is_some (repeated uid_eq keys) ≡ true
