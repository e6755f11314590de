-- Recorded ancestors, each once, in the order in which they were recorded, and which of them are parents.
-- Rule: the store (docs/RULES.md).
use Rattle.std.specs.Prelude.{List, [], ◌∷◌, ◌++◌, map, Bool, true, false, not, if◌then◌else◌}
use Rattle.std.specs.List.{list_any}
use Rattle.std.specs.Map.{lookup}
use Rattle.std.specs.Option.{option_map_or}
use Rattle.cedar_expr_model.specs.Uid.{Uid, uid_eq}

-- one more, unless it is recorded
abbrev pub recorded : List Uid → Uid → List Uid
recorded us u = if list_any (uid_eq u) us then us else us ++ u ∷ []

-- each of these
abbrev pub all_recorded : List Uid → List Uid → List Uid
all_recorded us [] = us
all_recorded us (v ∷ vs) = all_recorded (recorded us v) vs

-- recorded ancestors, each with whether it is a parent
abbrev pub Kin : Type 0
Kin = List (Uid × Bool)

abbrev pub uids_of_kin : Kin → List Uid
uids_of_kin ks = map (λ k. k.0) ks

-- one more as a parent; what is recorded keeps its place
abbrev pub with_parent : Kin → Uid → Kin
with_parent [] u = (u, true) ∷ []
with_parent (k ∷ ks) u = if uid_eq u k.0 then (k.0, true) ∷ ks else k ∷ with_parent ks u

-- one more that is no parent, unless it is recorded
abbrev pub with_indirect : Kin → Uid → Kin
with_indirect ks u = if list_any (uid_eq u) (uids_of_kin ks) then ks else ks ++ (u, false) ∷ []

-- each of these
abbrev pub with_parents : Kin → List Uid → Kin
with_parents ks [] = ks
with_parents ks (v ∷ vs) = with_parents (with_parent ks v) vs

abbrev pub with_indirects : Kin → List Uid → Kin
with_indirects ks [] = ks
with_indirects ks (v ∷ vs) = with_indirects (with_indirect ks v) vs

-- whether the uid is recorded as a parent, and as no parent
abbrev pub is_parent : Kin → Uid → Bool
is_parent ks u = option_map_or (λ b. b) (lookup (uid_eq u) ks) false

abbrev pub is_indirect : Kin → Uid → Bool
is_indirect ks u = option_map_or not (lookup (uid_eq u) ks) false
