-- Maps of the code whose rows are followed, and what is wanted by them.
use Rattle.std.specs.Prelude.{◌≡◌, ◌⊎◌, ◌↔◌, ℕ, List, Contains, Option, true}
use Rattle.std.specs.BTreeMap.{BTreeMap, get}
use Rattle.std.specs.Ordering.{nat_cmp}
use Rattle.std.specs.declared.alloc.Global.{Global}
use Rattle.std.specs.declared.vec.Vec.{Vec}
use Rattle.cedar_expr_model.specs.Uid.{Uid}
use Rattle.cedar_expr_names.specs.declared.entity.EntityUID.{EntityUID}
use Rattle.cedar_schema_model.specs.Schema.{Schema}
use Rattle.cedar_gate_wanted.specs.Kept.{IsFollowed, IsKept, Settles}
use Rattle.cedar_gate_wanted.specs.Rows.{IsPending, found_at, mentions_in, row_of, uids}
use Rattle.cedar_gate_wanted.specs.Supplying.{keys_in, AreKeys}
use Rattle.cedar_gate_wanted.specs.Wanting.{Exact, is_open}

-- What these uids, which are kept at a distance, mention is lowered to the next one; those that were lowered are in the list.
abbrev pub FollowsRow : BTreeMap EntityUID (Vec EntityUID Global) → BTreeMap EntityUID ℕ → BTreeMap EntityUID ℕ → ℕ → List EntityUID → List Uid → Type 0
FollowsRow loaded before after d keys now = IsFollowed (mentions_in loaded) (found_at before) (found_at after) d (uids keys) now

-- distances are kept once what is pending is settled
abbrev pub SettlesRows : BTreeMap EntityUID (Vec EntityUID Global) → ℕ → BTreeMap ℕ (Vec EntityUID Global) → BTreeMap EntityUID ℕ → BTreeMap EntityUID ℕ → Type 0
SettlesRows loaded level pending before after = Settles (mentions_in loaded) level (IsPending (row_of (get nat_cmp pending)) (found_at before)) (found_at before) (found_at after)

-- these uids are others, and those of the written ones that are wanted by the distances and the rows
abbrev pub AreWantedAfter : Schema → BTreeMap EntityUID ℕ → BTreeMap EntityUID (Vec EntityUID Global) → List EntityUID → List (EntityUID × Option ℕ) → List EntityUID → Type 0
AreWantedAfter s near rows others log us = (u : Uid) → Contains (uids us) u ↔ (Contains (uids others) u ⊎ (Contains (keys_in log) u × (is_open s (found_at near u) (found_at rows u) u ≡ true)))

-- these uids are what is wanted by the distances and the rows
abbrev pub IsExact : Schema → List EntityUID → BTreeMap EntityUID ℕ → BTreeMap EntityUID (Vec EntityUID Global) → Type 0
IsExact s wanted near rows = Exact s (uids wanted) (found_at near) (found_at rows)

-- where these uids are what is wanted, and the supply is of each of them once
abbrev pub WhereSupplied : Schema → List EntityUID → BTreeMap EntityUID ℕ → BTreeMap EntityUID (Vec EntityUID Global) → List (EntityUID × Vec EntityUID Global) → Type 0 → Type 0
WhereSupplied s wanted near rows supplied holds = IsExact s wanted near rows → AreKeys (uids wanted) (keys_in supplied) → holds

-- distances are kept from the same roots by other rows
abbrev pub KeepsRoots : ℕ → BTreeMap EntityUID (Vec EntityUID Global) → BTreeMap EntityUID (Vec EntityUID Global) → BTreeMap EntityUID ℕ → BTreeMap EntityUID ℕ → Type 0
KeepsRoots level rows now near after = (roots : List Uid) → IsKept roots (mentions_in rows) level (found_at near) → IsKept roots (mentions_in now) level (found_at after)
