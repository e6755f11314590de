-- What may be asked: the uids fewer than n steps away from the request, less the declared actions.
-- Rule: mentions; the slice (docs/RULES.md).
use Rattle.std.specs.Prelude.{◌≡◌, ℕ, zero, suc, List, [], ◌∷◌, ◌++◌, not, false, Contains, option_to_list}
use Rattle.std.specs.List.{flat_map, filter}
use Rattle.std.proofs.Common.{◌⊎◌}
use Rattle.cedar_expr_model.specs.Name.{Text}
use Rattle.cedar_expr_model.specs.Uid.{Uid}
use Rattle.cedar_expr_model.specs.Value.{entity, V, prim, record_of, Fields, no_fields, field}
use Rattle.cedar_expr_model.specs.ValueParts.{Part, known_value}
use Rattle.cedar_store_model.specs.World.{World, Found, by_found}
use Rattle.cedar_schema_model.specs.Schema.{Schema, declares_action}
use Rattle.std.specs.Option.{option_map_or}

-- What a value mentions: the uid that it is, and of a record what its fields mention. Sets and extension values mention none.
abbrev mutual
  pub mentioned : V → List Uid
  mentioned (prim (entity u)) = u ∷ []
  mentioned (record_of fs) = mentioned_in_fields fs
  mentioned v = []

  pub mentioned_in_fields : Fields → List Uid
  mentioned_in_fields no_fields = []
  mentioned_in_fields (field a v fs) = mentioned v ++ mentioned_in_fields fs

-- what attributes or tags mention that are values
abbrev pub mentioned_by_parts : List (Text × Part V) → List Uid
mentioned_by_parts ps = flat_map (λ p. option_map_or mentioned (known_value p.1) []) ps

-- what an entity mentions that was looked up
abbrev pub mentioned_by_found : Found V → List Uid
mentioned_by_found found = by_found (λ e. mentioned_by_parts e.attributes ++ mentioned_by_parts e.tags) [] [] found

-- A chain begins at the principal, at the resource, or at what the context mentions, as far as these are known.
abbrev pub roots : World → List Uid
roots w = option_to_list w.principal ++ (option_to_list w.resource ++ option_map_or mentioned w.context [])

-- the end of a chain of fewer than n steps, each to what the entity before it mentions
abbrev pub IsNear : ℕ → World → Uid → Type 0
IsNear zero w u = ⊥
IsNear (suc n) w u = Contains (roots w) u ⊎ ((v : Uid) × IsNear n w v × Contains (mentioned_by_found (w.store v)) u)

-- the slice at level n
abbrev pub InSlice : Schema → ℕ → World → Uid → Type 0
InSlice s n w u = IsNear n w u × (declares_action s u ≡ false)

-- The ends of chains of fewer than n steps, and the slice at level n, as lists.
abbrev pub near : ℕ → World → List Uid
near zero w = []
near (suc n) w = roots w ++ flat_map (λ v. mentioned_by_found (w.store v)) (near n w)

abbrev pub slice : Schema → ℕ → World → List Uid
slice s n w = filter (λ u. not (declares_action s u)) (near n w)
