-- Rows by key: under each key those above it, as they are gathered.
-- Rule: descent; action entities (docs/RULES.md).
use Rattle.std.specs.Prelude.{◌≡◌, ◌++◌, Bool, false, List, [], ◌∷◌, map, Option, if◌then◌else◌}
use Rattle.std.specs.List.{list_any, filter}
use Rattle.std.specs.Option.{option_map_or}
use Rattle.std.specs.Ordering.{eq_by_cmp}
use Rattle.std.specs.declared.cmp.Ordering.{Ordering}
use Rattle.std.specs.declared.alloc.Global.{Global}
use Rattle.std.specs.declared.vec.Vec.{Vec}

-- what stands under this key, nothing where there is no row
abbrev pub row_of : {K : Type 0} → (K → Option (Vec K Global)) → K → List K
row_of rows q = option_map_or (λ r. r.items) (rows q) []

-- with one more, if it is this one under which it is put
abbrev pub with_above : {S : Type 0} → (S → S → Bool) → S → S → S → List S → List S
with_above eq w v u above = if eq w u then above ++ v ∷ [] else above

module _ {K : Type 0} (cmp : K → K → Ordering) where
  -- nothing else is taken out than what is under this key
  pub record IsTaken (key : K) (old new : K → Option (Vec K Global)) : Type 0 where
    pub others : (q : K) → eq_by_cmp cmp q key ≡ false → row_of new q ≡ row_of old q

  -- under this key there is one more
  pub record IsAdded (key ancestor : K) (old new : K → Option (Vec K Global)) : Type 0 where
    pub each : (q : K) → row_of new q ≡ with_above (eq_by_cmp cmp) q ancestor key (row_of old q)

module _ {A S : Type 0} (eq : S → S → Bool) (name : A → S) (below : A → List S) where
  -- those of these that the one of this name descends from
  abbrev pub above_among : S → List A → List S
  above_among w as_ = map name (filter (λ a. list_any (eq w) (below a)) as_)

  module _ {K : Type 0} (seen : K → S) where
    -- under each of those that descend from this one it is one more
    pub record IsAddedBelow (a : A) (old new : K → Option (Vec K Global)) : Type 0 where
      pub each : (q : K) → map seen (row_of new q) ≡ (map seen (row_of old q) ++ above_among (seen q) (a ∷ []))

    -- under each key are those of these that it descends from
    pub record AreAbove (as_ : List A) (rows : K → Option (Vec K Global)) : Type 0 where
      pub each : (q : K) → map seen (row_of rows q) ≡ above_among (seen q) as_
