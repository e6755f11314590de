-- What a session of the code stands at.
-- Rule: sessions; refusals of a session (docs/RULES.md).
use Rattle.std.specs.Prelude.{◌≡◌, Bool, true, List, [], Contains, map, Option, Some, IfSome, is_some, if◌then◌else◌}
use Rattle.std.specs.List.{list_any}
use Rattle.std.specs.Map.{lookup}
use Rattle.cedar_expr_model.specs.Name.{Text}
use Rattle.cedar_expr_model.specs.Uid.{Uid, uid_eq}
use Rattle.cedar_expr_model.specs.Made.{Made}
use Rattle.cedar_expr_model.specs.OfLaws.Represented.{IsRepresented}
use Rattle.cedar_expr_model.specs.Value.{V}
use Rattle.cedar_expr_names.specs.declared.entity.EntityUID.{EntityUID}
use Rattle.cedar_store_entities.specs.Stores.{entities_kept, store_seen}
use Rattle.cedar_store_entities.specs.Views.{entity_pair, entity_seen, kept_pair}
use Rattle.cedar_store_entities.specs.declared.entity.Entity.{Entity}
use Rattle.cedar_store_model.specs.Policy.{Policy}
use Rattle.cedar_store_model.specs.Store.{Extent, are_distinct, if_uid, some_of, whole, partial}
use Rattle.cedar_store_model.specs.World as world
use Rattle.cedar_store_model.specs.World.{Found}
use Rattle.cedar_schema_model.specs.Conforming.{EntityConforms, request_conforms}
use Rattle.cedar_schema_model.specs.Schema.{Schema}
use Rattle.cedar_evaluator_model.specs.Response.{PartialRequest}
use Rattle.cedar_evaluator_model.specs.OfLaws.WellMade.{IsFoundMadeWell, IsContextRepresented, IsEntityRepresented}
use Rattle.cedar_evaluator_reads.specs.Scopes.{found_kept}
use Rattle.cedar_evaluator_requests.specs.Views.{request_of}
use Rattle.cedar_evaluator_requests.specs.declared.request.Request.{Request}
use Rattle.cedar_gate_openings.specs.Names.{bound_in}
use Rattle.cedar_gate_model.specs.Runs.{supplied_by, with_asked}
use Rattle.cedar_gate_model.specs.RunsAnswer.{IsOpened}
use Rattle.cedar_gate_model.specs.RunsAsk.{IsMadeContext}
use Rattle.cedar_gate_model.specs.Session.{Setup, State, value_of, with_bound, ContextFails}
use Rattle.cedar_gate_wanted.specs.Laws.{IsLoadedAt}
use Rattle.cedar_gate_wanted.specs.Wanting.{IsWanting, IsSameLoading, level_of, rows_in, wanted_in}
use Rattle.cedar_gate_openings.specs.Requests.{request_at, AreValuesOf}
use Rattle.cedar_gate_sessions.specs.Requests.{known_request}
use Rattle.cedar_gate_sessions.specs.Entities.{IsSameStore, RecordsAbsences, supplied_of, supplied_uids}
use Rattle.cedar_gate_sessions.specs.Loaded.{AreActions, loaded_at}
use Rattle.cedar_gate_sessions.specs.declared.session.SessionAt.{SessionAt}

-- What is supplied is what the store answers, and the extension values in it are what the calls of the table give.
pub record AreFromStore (x : Setup) (ps : List (EntityUID × Option Entity)) : Type 0 where
  pub answered : supplied_of ps ≡ supplied_by x (supplied_uids ps)
  pub represented : (p : EntityUID × Option Entity) → Contains ps p → IfSome p.1 (λ e. IsEntityRepresented x.functions.table (entity_seen e))

-- The setup is one of the gate with this request, and the extension values in its context are what the calls of the table give.
pub record IsSetup {G : Type 0} (suits : G → Setup → Type 0) (x : Setup) (g : G) (q : Request) : Type 0 where
  pub gate : suits g x
  pub start : request_of q ≡ x.start
  pub represented : IsContextRepresented x.functions.table x.start.context

-- the gate of a session, the uids that are wanted, and the policies
abbrev pub gate_of : {G : Type 0} → SessionAt G → G
gate_of e = e.gate.now

abbrev pub wanted_of : {G : Type 0} → SessionAt G → List Uid
wanted_of e = wanted_in e.loading

abbrev pub policies_in : {G : Type 0} → (G → List Policy) → SessionAt G → List Policy
policies_in accepted e = accepted (gate_of e)

-- of what was asked for all is known, and of the rest nothing
abbrev pub extent_at : Bool → Extent
extent_at asked = if asked then whole else partial

-- the store of the entities that are loaded, as they were made: what was asked for and isn't there is missing
abbrev pub stored_in : (Uid → Bool) → List Entity → Uid → Found Made
stored_in asked es u = if_uid u (found_kept (extent_at (asked u)) (lookup (uid_eq u) (map kept_pair es)))

-- whether a uid was asked for, the entities that are loaded, and the store of them
abbrev pub was_asked : {G : Type 0} → SessionAt G → Uid → Bool
was_asked e u = is_some (rows_in e.loading u)

abbrev pub loaded_in : {G : Type 0} → SessionAt G → List Entity
loaded_in e = entities_kept e.loaded

abbrev pub store_in : {G : Type 0} → SessionAt G → Uid → Found Made
store_in e = stored_in (was_asked e) (loaded_in e)

-- They stand in some of a store, which records that there is none of each other uid that was asked for.
abbrev pub IsRecorded : {G : Type 0} → SessionAt G → Type 0
IsRecorded e = RecordsAbsences (was_asked e) (some_of (map entity_pair (loaded_in e)) []) (store_seen e.loaded)

-- These entities are loaded: the declared actions and what the store answered, each once, with values as they are written; what was
-- answered conforms.
pub record AreLoaded (x : Setup) (s : State) (es : List Entity) : Type 0 where
  pub acts : Uid → world.Entity V
  pub same : AreActions x.schema acts
  pub each : (u : Uid) → lookup (uid_eq u) (map entity_pair es) ≡ loaded_at acts x s u
  pub distinct : are_distinct (map entity_pair es) ≡ true
  pub written : (u : Uid) → IsFoundMadeWell x.functions.table (stored_in (λ v. list_any (uid_eq v) s.asked) es u)
  pub conform : (u : Uid) (e : world.Entity V) → Contains s.asked u → x.store u ≡ Some e → EntityConforms x.schema u e

-- The session is at this state, at its gate.
pub record IsAt {G : Type 0} (suits : G → Setup → Type 0) (x : Setup) (s : State) (e : SessionAt G) : Type 0 where
  pub setup : IsSetup suits x (gate_of e) e.start
  pub context : IsMadeContext x.start.context
  pub opened : IsOpened x s
  pub bound : (n : Text) → bound_in e.bound n ≡ value_of s n
  pub now : request_of e.now ≡ request_at x.functions s x.start
  pub level : level_of e.loading ≡ x.level
  pub wanting : IsWanting x.schema e.loading
  pub near : IsLoadedAt x s e.loading
  pub loaded : AreLoaded x s (loaded_in e)
  pub recorded : IsRecorded e

-- at each state that the session is at
abbrev pub AtEachState : {G : Type 0} → (G → Setup → Type 0) → SessionAt G → (Setup → State → Type 0) → Type 0
AtEachState suits e holds = (x : Setup) (s : State) → IsAt suits x s e → holds x s

-- The second session is where a supply of all that is wanted leads from the first, if the supply is from the store.
abbrev pub IsAfterSupply : {G : Type 0} → (G → Setup → Type 0) → SessionAt G → SessionAt G → List (EntityUID × Option Entity) → Type 0
IsAfterSupply suits d e ps = AtEachState suits d (λ x s. AreFromStore x ps → IsAt suits x (with_asked s (wanted_of d)) e)

-- The second session is where a binding leads from the first, if the extension values in it are what the calls of the table give.
abbrev pub IsAfterBinding : {G : Type 0} → (G → Setup → Type 0) → SessionAt G → SessionAt G → Text → Made → Type 0
IsAfterBinding suits d e n m = AtEachState suits d (λ x s. IsRepresented x.functions.table m → IsAt suits x (with_bound s n m) e)

-- what is bound in a session, and the request that it was opened with
abbrev pub bound_by : {G : Type 0} → SessionAt G → Text → Option Made
bound_by e = bound_in e.bound

abbrev pub start_of : {G : Type 0} → SessionAt G → PartialRequest
start_of e = request_of e.start

-- whether the request that is known by now conforms
abbrev pub conforms_now : {G : Type 0} → (G → Schema) → SessionAt G → Bool
conforms_now schema e = request_conforms (schema (gate_of e)) (known_request (request_of e.now))

-- The context of a session fails to evaluate with one more binding: by the functions of each setup of its gate.
abbrev pub FailsWith : {G : Type 0} → (G → Setup → Type 0) → SessionAt G → Text → Made → Type 0
FailsWith suits e n m = (x : Setup) → suits (gate_of e) x → (s : State) → AreValuesOf s (bound_by e) → ContextFails x.functions (with_bound s n m) (start_of e).context

abbrev pub EvaluatesWith : {G : Type 0} → (G → Setup → Type 0) → SessionAt G → Text → Made → Type 0
EvaluatesWith suits e n m = (x : Setup) → suits (gate_of e) x → (s : State) → AreValuesOf s (bound_by e) → ContextFails x.functions (with_bound s n m) (start_of e).context → ⊥

-- a session says the same as another
pub record IsSameSession {G : Type 0} (d e : SessionAt G) : Type 0 where
  pub gate : e.gate ≡ d.gate
  pub start : e.start ≡ d.start
  pub now : e.now ≡ d.now
  pub bound : (n : Text) → bound_by e n ≡ bound_by d n
  pub loading : IsSameLoading d.loading e.loading
  pub loaded : IsSameStore d.loaded e.loaded
