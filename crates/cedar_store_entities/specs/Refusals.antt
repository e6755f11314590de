-- What the refusals of entities and of absences say.
-- Rule: the store (docs/RULES.md).
use Rattle.std.specs.Prelude.{◌≡◌, ℕ, List, map, Bool, true, false, Some}
use Rattle.std.specs.List.{list_any}
use Rattle.cedar_expr_names.specs.Views.{uid_of}
use Rattle.cedar_expr_model.specs.Uid.{Uid, uid_eq}
use Rattle.cedar_expr_model.specs.Repeats.{repeated}
use Rattle.cedar_store_model.specs.Store.{Store}
use Rattle.cedar_store_entities.specs.declared.err.EntitiesError.{EntitiesError}
use Rattle.cedar_store_entities.specs.declared.err.EntitiesError.TheVariants.{OutOfMemory, Duplicate}
use Rattle.cedar_store_entities.specs.declared.err.AbsenceError.{AbsenceError}
use Rattle.cedar_store_entities.specs.declared.err.AbsenceError.TheVariants as absence

-- the numbers of the refusals
abbrev pub error_number : EntitiesError → ℕ
error_number OutOfMemory = 0
error_number (Duplicate u) = 1

-- The fault is there where an entity of this uid is put beside those of these. Out of memory says nothing.
abbrev pub RefusesUid : List Uid → Uid → EntitiesError → Type 0
RefusesUid us u OutOfMemory = Unit {0}
RefusesUid us u (Duplicate v) = (list_any (uid_eq u) us ≡ true) × (uid_of v ≡ u)

-- The fault is there in entities of these uids: the uid is the first that is repeated. Out of memory says nothing.
abbrev pub RefusesUids : List Uid → EntitiesError → Type 0
RefusesUids us OutOfMemory = Unit {0}
RefusesUids us (Duplicate u) = repeated uid_eq us ≡ Some (uid_of u)

abbrev pub absence_number : AbsenceError → ℕ
absence_number absence.OutOfMemory = 0
absence_number (absence.Absent u) = 1
absence_number (absence.Present u) = 2

-- the absence of the uid is recorded; an entity of the uid is there
abbrev pub is_absent : Store → Uid → Bool
is_absent s u = list_any (uid_eq u) s.absent

abbrev pub is_present : Store → Uid → Bool
is_present s u = list_any (uid_eq u) (map (λ e. e.0) s.entities)

-- Neither is so, and an absence may be recorded.
abbrev pub MayBeAbsent : Store → Uid → Type 0
MayBeAbsent s u = (is_absent s u ≡ false) × (is_present s u ≡ false)

-- The fault is there where an absence of this uid is recorded. Out of memory says nothing.
abbrev pub RefusesAbsence : Store → Uid → AbsenceError → Type 0
RefusesAbsence s u absence.OutOfMemory = Unit {0}
RefusesAbsence s u (absence.Absent v) = (is_absent s u ≡ true) × (uid_of v ≡ u)
RefusesAbsence s u (absence.Present v) = (is_present s u ≡ true) × (uid_of v ≡ u)
