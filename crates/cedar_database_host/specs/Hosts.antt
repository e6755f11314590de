-- What a host over a database holds, what it was asked, and how often it failed; when it is honest, and for which uids it answers.
use Rattle.std.specs.Prelude.{ℕ, List, IsTrue, map, Option, Some, None}
use Rattle.cedar_expr_names.specs.Views.{uid_of}
use Rattle.cedar_expr_names.specs.declared.entity.EntityUID.{EntityUID}
use Rattle.cedar_expr_model.specs.Uid.{Uid}
use Rattle.cedar_evaluator_model.specs.Functions.{Functions}
use Rattle.cedar_gate_runs.specs.Hosts.{Answers}
use Rattle.cedar_store_entities.specs.Views.{entity_uid}
use Rattle.cedar_store_entities.specs.declared.entity.Entity.{Entity}
use Rattle.sqlite.specs.Store.{Ghosts}
use Rattle.sqlite.specs.Held.{Held, state}
use Rattle.sqlite.specs.State.{State, HasCleanDisk}
use Rattle.cedar_database_host.specs.Lookup.{IsLookup}
use Rattle.cedar_database_host.specs.Table.{entities_of}
use Rattle.cedar_database_host.specs.declared.host.DatabaseHost.{DatabaseHost}

abbrev pub asked_of : {S T : Type 0} → DatabaseHost S T → List (List Uid)
asked_of h = map (λ uids. map uid_of uids.items) h.asked.items

abbrev pub faults_of : {S T : Type 0} → DatabaseHost S T → ℕ
faults_of h = h.failures

-- what its database shows
abbrev pub database_of : {S T : Type 0} → Ghosts S → DatabaseHost S T → State
database_of g h = state g h.connection

-- what reads the entities of its rows
abbrev pub reader_of : {S T : Type 0} → DatabaseHost S T → T
reader_of h = h.reader.now

-- the entities that its rows are
unfoldable pub store_of : {S T : Type 0} → Ghosts S → (T → Functions) → DatabaseHost S T → Answers
store_of g functions h = entities_of (functions (reader_of h)) (database_of g h).now

-- The database is open, shows a clean disk, and its table is looked up as a table.
pub record IsSound {S : Type 0} (g : Ghosts S) (c : Held S) : Type 0 where
  pub clean : HasCleanDisk (state g c)
  pub is_open : IsTrue (state g c).is_open
  pub table : IsLookup (state g c).now

-- So it is, and the reader has the functions that it is said to have.
abbrev pub IsHonest : {S T : Type 0} → Ghosts S → (T → Type 0) → DatabaseHost S T → Type 0
IsHonest g Agrees h = Agrees (reader_of h) × IsSound g h.connection

-- the uid of an answer; and the uid of its entity, where there is one
abbrev pub answered_uid : EntityUID × Option Entity → Uid
answered_uid a = uid_of a.0

abbrev pub entity_of_answer : EntityUID × Option Entity → Uid
entity_of_answer (u, Some e) = entity_uid e
entity_of_answer (u, None) = uid_of u
