-- Sets of names, names that are repeated, and things that are made one of each.
-- Rule: descent; schemas (docs/RULES.md).
use Rattle.std.specs.Prelude.{List, map, Option, Some, None, Contains}
use Rattle.std.specs.BTreeSet.{BTreeSet}
use Rattle.cedar_schema_model.specs.BagLaws.{HasTwice}
use Rattle.cedar_schema_resolver.specs.Numbers.{StandsTwice}

-- The set has these and no other.
pub record IsSetOf {S : Type 0} (xs ks : List S) : Type 0 where
  pub only : (s : S) → Contains ks s → Contains xs s
  pub all : (s : S) → Contains xs s → Contains ks s

-- none is repeated
pub record StandOnce {S : Type 0} (xs : List S) : Type 0 where
  pub none : HasTwice xs → ⊥

-- what is found is repeated; where nothing is, none does
abbrev pub TellsRepeat : {S : Type 0} → List S → Option S → Type 0
TellsRepeat xs None = StandOnce xs
TellsRepeat xs (Some s) = StandsTwice xs s

-- the names in each of several sets
abbrev pub sets_seen : {N S : Type 0} → (N → S) → List (BTreeSet N) → List (List S)
sets_seen seen ss = map (λ s. map seen s.keys) ss
