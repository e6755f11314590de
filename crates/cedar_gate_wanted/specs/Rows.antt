-- Maps with uids as keys, as functions of the uids that they hold; rows of uids, and logs of writes.
use Rattle.std.specs.Prelude.{◌≡◌, ℕ, List, [], map, Contains, Option, Some, is_some, false}
use Rattle.std.specs.Map.{lookup}
use Rattle.std.specs.Option.{option_map_or}
use Rattle.std.specs.BTreeMap.{BTreeMap}
use Rattle.std.specs.declared.alloc.Global.{Global}
use Rattle.std.specs.declared.vec.Vec.{Vec}
use Rattle.cedar_expr_model.specs.Uid.{Uid, uid_eq}
use Rattle.cedar_expr_names.specs.Views.{uid_of}
use Rattle.cedar_expr_names.specs.declared.entity.EntityUID.{EntityUID}

-- what stands at this uid
abbrev pub found_at : {X : Type 0} → BTreeMap EntityUID X → Uid → Option X
found_at m u = lookup (λ k. uid_eq u (uid_of k)) m.entries

-- nothing stands at these uids
abbrev pub NothingStandsAt : {X : Type 0} → List Uid → (Uid → Option X) → Type 0
NothingStandsAt us f = (u : Uid) → Contains us u → is_some (f u) ≡ false

-- the uids of a list
abbrev pub uids : List EntityUID → List Uid
uids us = map uid_of us

-- the uids that stand under this key, none where there is no row
abbrev pub row_of : {A : Type 0} → (A → Option (Vec EntityUID Global)) → A → List Uid
row_of rows q = option_map_or (λ r. uids r.items) (rows q) []

-- what each uid mentions, by what is loaded
abbrev pub mentions_in : BTreeMap EntityUID (Vec EntityUID Global) → Uid → List Uid
mentions_in loaded = row_of (found_at loaded)

-- it stands in the row of its distance
abbrev pub IsPending : (ℕ → List Uid) → (Uid → Option ℕ) → Uid → Type 0
IsPending rows f x = (d : ℕ) × (f x ≡ Some d) × Contains (rows d) x

-- the writes of a log: at which uid, and what stood there
abbrev pub writes : List (EntityUID × Option ℕ) → List (Uid × Option ℕ)
writes log = map (λ w. (uid_of w.0, w.1)) log

-- a list of uids keeps its members, and so does the row of each distance
abbrev pub KeepsMembers : List Uid → List Uid → Type 0
KeepsMembers before after = (x : Uid) → Contains before x → Contains after x

abbrev pub KeepsRows : (ℕ → List Uid) → (ℕ → List Uid) → Type 0
KeepsRows before after = (d : ℕ) (x : Uid) → Contains (before d) x → Contains (after d) x

-- each of these uids that has a distance stands in the row of its distance
abbrev pub AreInRows : List Uid → (Uid → Option ℕ) → (ℕ → List Uid) → Type 0
AreInRows us f rows = (x : Uid) (d : ℕ) → Contains us x → f x ≡ Some d → Contains (rows d) x
