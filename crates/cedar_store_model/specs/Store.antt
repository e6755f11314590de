-- Stores as finite maps of entities, whole or partial, and the worlds of requests over them.
-- Rule: the store (docs/RULES.md).
use Rattle.std.specs.List.{list_any}
use Rattle.std.specs.Prelude.{List, [], ◌∷◌, ◌++◌, map, Bool, Option, Some, None, is_none, if◌then◌else◌}
use Rattle.std.specs.Map.{lookup}
use Rattle.cedar_expr_model.specs.Name.{Text}
use Rattle.cedar_expr_model.specs.Uid.{Uid, uid_eq, uid_text}
use Rattle.cedar_expr_model.specs.Value.{V, record_of}
use Rattle.cedar_expr_model.specs.Tree.{Tree, unknown, entity_core}
use Rattle.cedar_expr_model.specs.Repeats.{repeated}
use Rattle.cedar_expr_model.specs.Uids.{is_uid}
use Rattle.cedar_expr_model.specs.Table.{Table}
use Rattle.cedar_store_model.specs.World.{World, Request, Entity, Found, held, missing, not_loaded}

-- entities by their uids
abbrev pub Entities : Type 0
Entities = List (Uid × Entity V)

-- whether a store has each entity that there is, or only some of them
pub data Extent : Type 0 where
  whole partial : Extent

-- The entities of a store, and the uids of which it is recorded that they are absent.
pub record Store : Type 0 where
  pub extent : Extent
  pub entities : Entities
  pub absent : List Uid

-- all entities that there are; and some of them, with absences
abbrev pub all_of : Entities → Store
all_of es = record { extent = whole; entities = es; absent = [] }

abbrev pub some_of : Entities → List Uid → Store
some_of es us = record { extent = partial; entities = es; absent = us }

-- An entity that isn't in a whole store is missing; in a partial one it isn't loaded.
abbrev pub found_as : Extent → Option (Entity V) → Found V
found_as x (Some e) = held e
found_as whole None = missing
found_as partial None = not_loaded

-- what is no uid is in no store
abbrev pub if_uid : {A : Type 0} → Uid → Found A → Found A
if_uid u found = if is_uid u then found else missing

-- nothing is known of a uid; what is no uid is missing all the same
abbrev pub unloaded : {A : Type 0} → Uid → Found A
unloaded u = if_uid u not_loaded

-- of a recorded absence a partial store answers as a whole one
abbrev pub extent_for : Store → Uid → Extent
extent_for s u = if list_any (uid_eq u) s.absent then whole else s.extent

abbrev pub look_up : Store → Uid → Found V
look_up s u = if_uid u (found_as (extent_for s u) (lookup (uid_eq u) s.entities))

-- what stands for an entity that isn't loaded: the unknown named by the text of its uid, annotated with its type
abbrev pub stand_in : Uid → Tree
stand_in u = unknown (uid_text u) (Some (entity_core u.kind))

-- the store with one more absence recorded
abbrev pub with_absence : Store → Uid → Store
with_absence s u = record s { absent = s.absent ++ u ∷ [] }

-- no uid is repeated
abbrev pub are_distinct : Entities → Bool
are_distinct es = is_none (repeated uid_eq (map (λ e. e.0) es))

-- the store of these entities, where no uid is repeated
abbrev pub store_of : Extent → Entities → Option Store
store_of x es = if are_distinct es then Some (record { extent = x; entities = es; absent = [] }) else None

-- an entity with one recorded ancestor more
abbrev pub with_ancestor : Uid → Entity V → Entity V
with_ancestor u e = record e { ancestors = e.ancestors ++ u ∷ [] }

-- A request of which parts may be open.
pub record OpenRequest : Type 0 where
  pub principal : Option Uid
  pub action : Option Uid
  pub resource : Option Uid
  pub context : Option V

-- a request with nothing open
abbrev pub as_open : Request → OpenRequest
as_open r = record { principal = Some r.principal; action = Some r.action; resource = Some r.resource; context = Some (record_of r.context) }

-- The world of a request over a store. A policy brings its own slots.
abbrev pub world_of : Table → (Text → Option V) → OpenRequest → Store → World
world_of table unknowns r s =
    record { principal = r.principal; action = r.action; resource = r.resource; context = r.context; slots = λ s. None; unknowns = unknowns; table = table; store = look_up s }
