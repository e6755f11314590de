-- Requests that may be partly open, the worlds that complete them, and what is known at a moment of a run.
-- Rule: completions; moments (docs/RULES.md).
use Rattle.std.specs.Prelude.{◌≡◌, ◌||◌, ℕ, List, [], Bool, true, false, Option, Some, codes, if◌then◌else◌, IfSome}
use Rattle.std.specs.List.{list_all, list_any}
use Rattle.std.specs.Str.{bytes_eq}
use Rattle.cedar_expr_model.specs.Name.{Text}
use Rattle.cedar_expr_model.specs.Uid.{Uid, uid_eq}
use Rattle.cedar_expr_model.specs.Uids.{is_uid}
use Rattle.cedar_expr_model.specs.Value.{V, record_of, Fields}
use Rattle.cedar_expr_model.specs.Tree.{record_literal}
use Rattle.cedar_expr_model.specs.Made.{bare_fields}
use Rattle.cedar_expr_model.specs.Parts.{unknowns}
use Rattle.cedar_expr_model.specs.Table.{Table}
use Rattle.cedar_store_model.specs.World.{World, Entity, held, missing}
use Rattle.cedar_store_model.specs.Knowledge.{IsWhole}
use Rattle.cedar_schema_model.specs.Schema.{Schema, declares_action}
use Rattle.cedar_schema_model.specs.ActionEntities.{as_entity}
use Rattle.cedar_schema_model.specs.Conforming.{EntityConforms, RequestConforms}
use Rattle.cedar_evaluator_model.specs.Scope.{Entry, uid, unknown_uid, Context, closed, residual_fields, unknown_context}
use Rattle.cedar_typechecker_model.specs.Slice.{InSlice}
use Rattle.cedar_evaluator_model.specs.Response.{PartialRequest}
use Rattle.cedar_evaluator_model.specs.Completion.{PartIs}
use Rattle.cedar_store_model.specs.Store.{OpenRequest, unloaded}
use Rattle.cedar_expr_model.specs.Lists.{when}

-- the uid that completes an entry: the one given, or any of its type
abbrev pub EntryCompleted : Entry → Option Uid → Type 0
EntryCompleted (uid u) found = found ≡ Some u
EntryCompleted (unknown_uid k) found = (u : Uid) × (found ≡ Some u) × IfSome k (λ n. u.kind ≡ n)

-- the context is the one given; or what its fields mean, each unknown in them having a value of its type; or any record
abbrev pub ContextCompleted : World → Context → Type 0
ContextCompleted w (closed fs) = w.context ≡ Some (record_of (bare_fields fs))
ContextCompleted w (residual_fields fs) = (v : V) × (w.context ≡ Some v) × PartIs w (record_literal fs) v
ContextCompleted w unknown_context = (fs : Fields) × (w.context ≡ Some (record_of fs))

-- the request that is asked in a world
abbrev pub request_of : World → OpenRequest
request_of w = record { principal = w.principal; action = w.action; resource = w.resource; context = w.context }

-- A whole world that completes a request, for a schema and a level: the request conforms, the declared actions stand in the store as
-- they are declared, nothing else that is no uid stands in it, and the entities of the slice conform; those outside it may be as they
-- are.
pub record Completes (s : Schema) (x : Table) (n : ℕ) (start : PartialRequest) (w : World) : Type 0 where
  pub whole : IsWhole w
  pub principal : EntryCompleted start.principal w.principal
  pub action : EntryCompleted start.action w.action
  pub resource : EntryCompleted start.resource w.resource
  pub context : ContextCompleted w start.context
  pub table : w.table ≡ x
  pub request : RequestConforms s (request_of w)
  pub actions : (u : Uid) → declares_action s u ≡ true → w.store u ≡ held (as_entity s u)
  pub uids : (u : Uid) → declares_action s u ≡ false → is_uid u ≡ false → w.store u ≡ missing
  pub slice : (u : Uid) (e : Entity V) → InSlice s n w u → w.store u ≡ held e → EntityConforms s u e

-- What was done by a moment: the names that were bound, and the uids that were asked for.
pub record Moment : Type 0 where
  pub bound : List Text
  pub asked : List Uid

abbrev pub at_first : Moment
at_first = record { bound = []; asked = [] }

abbrev pub is_bound : Moment → Text → Bool
is_bound m n = list_any (bytes_eq n) m.bound

-- an entry is known from the start, or once its variable is bound
abbrev pub entry_known : Moment → Text → Entry → Bool
entry_known m name (uid u) = true
entry_known m name (unknown_uid k) = is_bound m name

-- a context is known once each of its unknowns is bound
abbrev pub context_known : Moment → Context → Bool
context_known m (closed fs) = true
context_known m (residual_fields fs) = list_all (λ u. is_bound m u.name) (unknowns (record_literal fs))
context_known m unknown_context = is_bound m (codes "context")

-- What is known of a world at a moment: what was given or bound, and the declared actions and the answers. An answer that there is no
-- entity is known too: the uid is missing from then on.
abbrev pub known_at : Schema → PartialRequest → World → Moment → World
known_at s start w m = record w {
  principal = when (entry_known m (codes "principal") start.principal) w.principal;
  action = when (entry_known m (codes "action") start.action) w.action;
  resource = when (entry_known m (codes "resource") start.resource) w.resource;
  context = when (context_known m start.context) w.context;
  unknowns = λ n. when (is_bound m n) (w.unknowns n);
  store = λ u. if declares_action s u || list_any (uid_eq u) m.asked then w.store u else unloaded u;
}
