-- What hosts answer.
use Rattle.std.specs.Prelude.{◌≡◌, ◌++◌, ◌∷◌, [], ℕ, ◌+◌, List, map, Option, option_map, Result, Ok, Err, is_ok, if◌then◌else◌}
use Rattle.std.specs.Map.{lookup}
use Rattle.cedar_expr_names.specs.Views.{uid_of}
use Rattle.cedar_expr_names.specs.declared.entity.EntityUID.{EntityUID}
use Rattle.cedar_expr_model.specs.Uid.{Uid, uid_eq}
use Rattle.cedar_expr_model.specs.Made.{Made}
use Rattle.cedar_store_model.specs.World as world
use Rattle.cedar_store_entities.specs.Views.{Kept, entity_uid, entity_seen}
use Rattle.cedar_store_entities.specs.declared.entity.Entity.{Entity}
use Rattle.cedar_gate_runs.specs.declared.host.HostFault.{HostFault}
use Rattle.cedar_gate_runs.specs.declared.host.HostFault.TheVariants.{Memory, Device}

-- a store that answers for uids: the entity of a uid, its values as they were made, where there is one
abbrev pub Answers : Type 0
Answers = Uid → Option (world.Entity Made)

-- an answer: the uid that was asked for, and the entity with its own uid, where there is one
abbrev pub answered_of : EntityUID × Option Entity → Uid × Option (Uid × world.Entity Made)
answered_of a = (uid_of a.0, option_map (λ e. (entity_uid e, entity_seen e)) a.1)

-- the answer of a store
abbrev pub answer_from : Answers → Uid → Uid × Option (Uid × world.Entity Made)
answer_from store u = (u, option_map (λ e. (u, e)) (store u))

-- these are the answers of a store to uids, in their order
abbrev pub AreAnswersFrom : Answers → List Uid → List (EntityUID × Option Entity) → Type 0
AreAnswersFrom store uids answers = map answered_of answers ≡ map (answer_from store) uids

-- the store of these entities
abbrev pub stored : List (Uid × Kept) → Answers
stored es u = option_map (λ k. k.0) (lookup (uid_eq u) es)

-- the count of failures after an answer
abbrev pub failures_after : {A : Type 0} → Result A HostFault → ℕ → ℕ
failures_after (Ok a) n = n
failures_after (Err Memory) n = n
failures_after (Err Device) n = n + 1

-- the lists that were asked for after a call for these uids: they are among them if they were answered
abbrev pub asked_after : {A E : Type 0} → Result A E → List (List Uid) → List Uid → List (List Uid)
asked_after r asked uids = if is_ok r then asked ++ uids ∷ [] else asked
