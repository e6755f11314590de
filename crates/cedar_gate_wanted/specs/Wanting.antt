-- What is loaded, as far as it leads to further uids, and what is wanted by it.
-- Rule: the slice; sessions (docs/RULES.md).
use Rattle.std.specs.Prelude.{◌≡◌, ◌⊎◌, ◌↔◌, ◌&&◌, ◌++◌, ℕ, List, map, not, true, false, Bool, Contains, Option, Some, IsSome, is_some, option_map}
use Rattle.cedar_expr_model.specs.UidOrder.{are_rising}
use Rattle.cedar_expr_model.specs.Uid.{Uid}
use Rattle.cedar_expr_names.specs.Views.{uid_of}
use Rattle.cedar_expr_names.specs.declared.entity.EntityUID.{EntityUID}
use Rattle.cedar_gate_wanted.specs.Kept.{IsKept}
use Rattle.cedar_gate_wanted.specs.Rows.{found_at, mentions_in, uids}
use Rattle.cedar_gate_wanted.specs.declared.loading.Loading.{Loading}
use Rattle.cedar_schema_model.specs.Schema.{Schema, declares_action}
use Rattle.std.specs.BTreeMap.{BTreeMap}
use Rattle.std.specs.declared.alloc.Global.{Global}
use Rattle.std.specs.declared.vec.Vec.{Vec}

-- the distance of a uid from the roots, where it is kept
abbrev pub near_in : Loading → Uid → Option ℕ
near_in l = found_at l.near

-- what stands at a uid that was asked for: the uids that it mentions
abbrev pub rows_in : Loading → Uid → Option (Vec EntityUID Global)
rows_in l = found_at l.rows

abbrev pub mentions_of : Loading → Uid → List Uid
mentions_of l = mentions_in l.rows

abbrev pub wanted_in : Loading → List Uid
wanted_in l = uids l.wanted.items

abbrev pub level_of : Loading → ℕ
level_of l = l.level

-- It is near, wasn't asked for, and is no declared action's.
abbrev pub is_open : Schema → Option ℕ → Option (Vec EntityUID Global) → Uid → Bool
is_open s d r u = is_some d && (not (is_some r) && not (declares_action s u))

-- whether a uid is that by these distances and rows
abbrev pub is_wanted_by : Schema → (Uid → Option ℕ) → (Uid → Option (Vec EntityUID Global)) → Uid → Bool
is_wanted_by s f a u = is_open s (f u) (a u) u

-- What is open is exactly what is wanted, by these distances and rows.
abbrev pub Exact : Schema → List Uid → (Uid → Option ℕ) → (Uid → Option (Vec EntityUID Global)) → Type 0
Exact s ws f a = (u : Uid) → Contains ws u ↔ (is_open s (f u) (a u) u ≡ true)

-- The list of what is wanted: it rises, and has what is near, wasn't asked for and is no declared action's. What was asked for is near.
pub record IsWanting (s : Schema) (l : Loading) : Type 0 where
  pub in_order : are_rising (uids l.wanted.items) ≡ true
  pub exact : (u : Uid) → Contains (uids l.wanted.items) u ↔ (is_open s (found_at l.near u) (found_at l.rows u) u ≡ true)
  pub kept : (u : Uid) → IsSome (found_at l.rows u) → IsSome (found_at l.near u)

-- all that these say is the same
pub record IsSameLoading (l m : Loading) : Type 0 where
  pub near : (u : Uid) → found_at m.near u ≡ found_at l.near u
  pub rows : (u : Uid) → found_at m.rows u ≡ found_at l.rows u
  pub wanted : uids m.wanted.items ≡ uids l.wanted.items
  pub level : m.level ≡ l.level

-- the distances are kept from these roots
abbrev pub IsKeptFrom : List Uid → Loading → Type 0
IsKeptFrom roots l = IsKept roots (mentions_of l) (level_of l) (near_in l)

-- the distances are kept from the roots from which they were kept before, or from these besides
abbrev pub RootsAreKept : Loading → Loading → Type 0
RootsAreKept l m = (roots : List Uid) → IsKeptFrom roots l → IsKeptFrom roots m

abbrev pub RootsAreAdded : Loading → Loading → List Uid → Type 0
RootsAreAdded l m added = (roots : List Uid) → IsKeptFrom roots l → IsKeptFrom (roots ++ added) m
