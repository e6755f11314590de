-- Places of uids among others.
-- Rule: the store (docs/RULES.md).
use Rattle.std.specs.Prelude.{◌≡◌, ℕ, suc, List, [], ◌∷◌, map, Bool, true, Option, Some, None, is_none, option_map, if◌then◌else◌}
use Rattle.std.specs.Map.{lookup}
use Rattle.cedar_expr_names.specs.Views.{uid_of}
use Rattle.cedar_expr_names.specs.declared.entity.EntityUID.{EntityUID}
use Rattle.cedar_expr_model.specs.Uid.{Uid, uid_eq}
use Rattle.cedar_expr_model.specs.Repeats.{repeated}

-- the first place of the uid
abbrev pub place_in : List Uid → Uid → Option ℕ
place_in [] u = None
place_in (v ∷ vs) u = if uid_eq u v then Some 0 else option_map suc (place_in vs u)

-- what stands under the uid
abbrev pub found_at : {A : Type 0} → List (EntityUID × A) → Uid → Option A
found_at es u = lookup (λ k. uid_eq u (uid_of k)) es

-- under each uid stands its place
abbrev pub Leads : List (EntityUID × ℕ) → List EntityUID → Type 0
Leads es us = (u : EntityUID) → found_at es (uid_of u) ≡ place_in (map uid_of us) (uid_of u)

-- no uid is repeated
abbrev pub are_apart : List Uid → Bool
are_apart us = is_none (repeated uid_eq us)

abbrev pub AreApart : List EntityUID → Type 0
AreApart us = are_apart (map uid_of us) ≡ true
