-- Sessions: what was bound and asked so far, what is known by it, and what each call refuses.
-- Rule: sessions; refusals of a session (docs/RULES.md).
use Rattle.std.specs.Prelude.{◌≡◌, ◌↔◌, ◌&&◌, ◌||◌, ℕ, List, [], ◌∷◌, Contains, Bool, true, false, not, is_some, Option, Some, None, codes, if◌then◌else◌, option_and_then, unwrap_or, IsSome}
use Rattle.std.specs.List.{list_any}
use Rattle.std.specs.Str.{bytes_eq}
use Rattle.std.proofs.Common.{◌⊎◌}
use Rattle.cedar_expr_model.specs.Name.{Text, name_eq}
use Rattle.cedar_expr_model.specs.Uid.{Uid, uid_eq}
use Rattle.cedar_expr_model.specs.UidOrder.{are_rising}
use Rattle.cedar_expr_model.specs.Value.{entity, V}
use Rattle.cedar_expr_model.specs.Tree.{record_literal, TreeFields}
use Rattle.cedar_expr_model.specs.Made.{Made, made_prim, made_record, bare}
use Rattle.cedar_expr_model.specs.Substitution.{fits_annotation, substituted}
use Rattle.cedar_expr_model.specs.Parts.{Unknown, unknowns}
use Rattle.cedar_expr_model.specs.Repeats as repeats
use Rattle.cedar_store_model.specs.World.{World, Entity, Found, held}
use Rattle.cedar_store_model.specs.Policy.{Policy}
use Rattle.cedar_store_model.specs.Store.{found_as, if_uid, unloaded, whole}
use Rattle.cedar_schema_model.specs.Schema.{Schema, declares_action}
use Rattle.cedar_schema_model.specs.ActionEntities.{as_entity}
use Rattle.cedar_schema_model.specs.Conforming.{EntityConforms, RequestConforms}
use Rattle.cedar_evaluator_model.specs.Scope.{Scope, Entry, uid, unknown_uid, Context, closed, residual_fields, unknown_context, Left, value_left, stopped, Stop}
use Rattle.cedar_evaluator_model.specs.Known.{known_found, known_world}
use Rattle.cedar_evaluator_model.specs.Response.{response_of, PartialRequest}
use Rattle.cedar_evaluator_model.specs.Members.{met_limit}
use Rattle.cedar_evaluator_model.specs.Functions.{Functions, with_functions, left_of_restricted}
use Rattle.cedar_typechecker_model.specs.Slice.{InSlice}
use Rattle.cedar_evaluator_model.specs.Reauthorize.{context_from}
use Rattle.cedar_gate_model.specs.Moment.{Completes, request_of}
use Rattle.std.specs.Map.{lookup, keys_of}
use Rattle.std.specs.Option.{option_map_or}
use Rattle.cedar_store_model.specs.Reads.{uid_of}

-- What a session stands on: schema, level, the limit on nesting, functions, the request that it was opened with, and the store
-- that answers.
pub record Setup : Type 0 where
  pub schema : Schema
  pub level : ℕ
  pub limit : ℕ
  pub functions : Functions
  pub start : PartialRequest
  pub store : Uid → Option (Entity V)

-- What was done by now: the names that were bound, with their values, and the uids that were asked for.
pub record State : Type 0 where
  pub bound : List (Text × Made)
  pub asked : List Uid

abbrev pub at_start : State
at_start = record { bound = []; asked = [] }

abbrev pub value_of : State → Text → Option Made
value_of s n = lookup (bytes_eq n) s.bound

-- the fields of a context with the bound values in the place of its unknowns, evaluated
abbrev pub context_left : Functions → State → TreeFields → Left
context_left f s fs = left_of_restricted f (substituted (value_of s) (record_literal fs))

-- the uid that a value is
abbrev pub uid_in : Option Made → Option Uid
uid_in found = option_and_then (λ m. uid_of (bare m)) found

-- an entry and a context as they are now, with what was bound in its place
abbrev pub entry_now : State → Text → Entry → Entry
entry_now s name (uid u) = uid u
entry_now s name (unknown_uid k) = option_map_or uid (uid_in (value_of s name)) (unknown_uid k)

abbrev pub context_now : Functions → State → Context → Context
context_now f s (closed fs) = closed fs
context_now f s (residual_fields fs) = unwrap_or (context_from (context_left f s fs)) unknown_context
context_now f s unknown_context = unwrap_or (option_and_then (λ m. context_from (value_left m)) (value_of s (codes "context"))) unknown_context

-- what an evaluation knows now, over a store with the calls that make its values
abbrev pub scope_now : Setup → State → (Uid → Found Made) → Scope
scope_now x s store = record (with_functions x.functions) {
  principal = entry_now s (codes "principal") x.start.principal;
  action = entry_now s (codes "action") x.start.action;
  resource = entry_now s (codes "resource") x.start.resource;
  context = context_now x.functions s x.start.context;
  values = value_of s;
  store = store;
}

-- What the whole store answers: at declared actions these stand, whatever is said of them, and what else is no uid is missing.
abbrev pub whole_store : Setup → Uid → Found V
whole_store x u = if declares_action x.schema u then held (as_entity x.schema u) else if_uid u (found_as whole (x.store u))

-- What is known by now: of the store the declared actions, the entities that were answered, and which of the uids that were asked for
-- have none.
abbrev pub known_now : Setup → State → World
known_now x s = record (known_world (scope_now x s (λ u. unloaded u))) {
  store = λ u. if declares_action x.schema u || list_any (uid_eq u) s.asked then whole_store x u else unloaded u;
}

-- what is known by now, over the whole store, which the answer stands on
abbrev pub world_now : Setup → State → World
world_now x s = record (known_now x s) { store = whole_store x }

-- what may be asked now: the slice of what is known, less what was asked
abbrev pub IsWantedNow : Setup → State → Uid → Type 0
IsWantedNow x s u = InSlice x.schema x.level (known_now x s) u × (Contains s.asked u → ⊥)

abbrev pub NothingIsWanted : Setup → State → Type 0
NothingIsWanted x s = (u : Uid) → IsWantedNow x s u → ⊥

-- the list of what is wanted, in the order of uids
pub record IsWantedList (x : Setup) (s : State) (uids : List Uid) : Type 0 where
  pub in_order : are_rising uids ≡ true
  pub exact : (u : Uid) → Contains uids u ↔ IsWantedNow x s u

-- Some policy is evaluated to the limit on nesting now: such a policy counts as open, and no decision is owed.
abbrev pub MeetsLimit : Setup → List Policy → State → Type 0
MeetsLimit x ps s = (store : Uid → Found Made) × ((u : Uid) → known_found (store u) ≡ (known_now x s).store u) × (met_limit (response_of (scope_now x s store) x.limit ps) ≡ true)

-- the names of the variables of a request
abbrev pub variable_names : List Text
variable_names = codes "principal" ∷ codes "action" ∷ codes "resource" ∷ codes "context" ∷ []

-- the unknowns of the context that a session is opened with
abbrev pub context_unknowns : Context → List Unknown
context_unknowns (residual_fields fs) = unknowns (record_literal fs)
context_unknowns c = []

-- Refusals of opening: an unknown of the context has a double quote in its name, or is named as a variable.
pub data OpenRefusal : Type 0 where
  quote_in_name name_of_variable : OpenRefusal

abbrev pub open_number : OpenRefusal → ℕ
open_number quote_in_name = 1
open_number name_of_variable = 2

abbrev pub OpenFault : PartialRequest → OpenRefusal → Type 0
OpenFault r quote_in_name = (u : Unknown) × Contains (context_unknowns r.context) u × Contains u.name 34
OpenFault r name_of_variable = (u : Unknown) × Contains (context_unknowns r.context) u × Contains variable_names u.name

-- the entry of a variable, where the name is that of one
abbrev pub entry_named : PartialRequest → Text → Option Entry
entry_named r n = lookup (bytes_eq n) ((codes "principal", r.principal) ∷ (codes "action", r.action) ∷ (codes "resource", r.resource) ∷ [])

abbrev pub is_open_entry : Option Entry → Bool
is_open_entry (Some (unknown_uid k)) = true
is_open_entry e = false

abbrev pub is_open_context : Context → Text → Bool
is_open_context (closed fs) n = false
is_open_context (residual_fields fs) n = list_any (λ u. bytes_eq n u.name) (unknowns (record_literal fs))
is_open_context unknown_context n = bytes_eq n (codes "context")

-- the name was open at the start, and is not bound yet
abbrev pub is_open_name : PartialRequest → State → Text → Bool
is_open_name r s n = not (is_some (value_of s n)) && (is_open_entry (entry_named r n) || is_open_context r.context n)

-- something is not bound yet
abbrev pub HasOpenName : PartialRequest → State → Type 0
HasOpenName r s = (n : Text) × (is_open_name r s n ≡ true)

-- an entity of another type than the unknown entry has
abbrev pub IsOtherKind : Option Entry → Made → Type 0
IsOtherKind (Some (unknown_uid (Some k))) (made_prim (entity u)) = name_eq u.kind k ≡ false
IsOtherKind e m = ⊥

abbrev pub IsNoRecord : Made → Type 0
IsNoRecord (made_record fs) = ⊥
IsNoRecord m = Unit {0}

-- the state with one more binding
abbrev pub with_bound : State → Text → Made → State
with_bound s n m = record s { bound = (n, m) ∷ s.bound }

-- the context fails to evaluate
abbrev pub ContextFails : Functions → State → Context → Type 0
ContextFails f s (residual_fields fs) = (why : Stop) × (context_left f s fs ≡ stopped why)
ContextFails f s c = ⊥

-- Refusals of a binding: the name isn't open; the value isn't of the type that is annotated; a variable gets no entity or the context
-- no record; the context fails to evaluate with it.
pub data BindRefusal : Type 0 where
  not_open against_annotation no_entity_or_record context_fails : BindRefusal

abbrev pub bind_number : BindRefusal → ℕ
bind_number not_open = 1
bind_number against_annotation = 2
bind_number no_entity_or_record = 3
bind_number context_fails = 4

abbrev pub BindFault : Setup → State → Text → Made → BindRefusal → Type 0
BindFault x s n m not_open = is_open_name x.start s n ≡ false
BindFault x s n m against_annotation = IsOtherKind (entry_named x.start n) m
    ⊎ ((u : Unknown) × Contains (context_unknowns x.start.context) u × (u.name ≡ n) × (fits_annotation u.annotation (bare m) ≡ false))
BindFault x s n m no_entity_or_record = (IsSome (entry_named x.start n) × (uid_of (bare m) ≡ None)) ⊎ ((n ≡ codes "context") × IsNoRecord m)
BindFault x s n m context_fails = ContextFails x.functions (with_bound s n m) x.start.context

-- what was supplied for a uid
abbrev pub Supplied : Type 0
Supplied = List (Uid × Option (Uid × Entity V))

-- an entity under another uid than its own, or one that doesn't conform
abbrev pub IsWrong : Schema → Uid × Option (Uid × Entity V) → Type 0
IsWrong s (u, None) = ⊥
IsWrong s (u, Some e) = (uid_eq u e.0 ≡ false) ⊎ (EntityConforms s e.0 e.1 → ⊥)

-- Refusals of a supply: a uid that isn't wanted; one that is wanted lacks; one stands twice; an entity is wrong.
pub data SupplyRefusal : Type 0 where
  not_wanted lacking repeated wrong_entity : SupplyRefusal

abbrev pub supply_number : SupplyRefusal → ℕ
supply_number not_wanted = 1
supply_number lacking = 2
supply_number repeated = 3
supply_number wrong_entity = 4

abbrev pub SupplyFault : Setup → State → Supplied → SupplyRefusal → Type 0
SupplyFault x s ps not_wanted = (u : Uid) × Contains (keys_of ps) u × (IsWantedNow x s u → ⊥)
SupplyFault x s ps lacking = (u : Uid) × IsWantedNow x s u × (Contains (keys_of ps) u → ⊥)
SupplyFault x s ps repeated = is_some (repeats.repeated uid_eq (keys_of ps)) ≡ true
SupplyFault x s ps wrong_entity = (p : Uid × Option (Uid × Entity V)) × Contains ps p × IsWrong x.schema p

-- Refusals of the answer: something isn't bound; something is wanted; all is bound and the request doesn't conform.
pub data AnswerRefusal : Type 0 where
  not_bound still_wanted not_conforming : AnswerRefusal

abbrev pub answer_number : AnswerRefusal → ℕ
answer_number not_bound = 1
answer_number still_wanted = 2
answer_number not_conforming = 3

abbrev pub AnswerFault : Setup → State → AnswerRefusal → Type 0
AnswerFault x s not_bound = HasOpenName x.start s
AnswerFault x s still_wanted = (u : Uid) × IsWantedNow x s u
AnswerFault x s not_conforming = (HasOpenName x.start s → ⊥) × (RequestConforms x.schema (request_of (world_now x s)) → ⊥)

-- A bound name means its value in a world: a variable of the request its uid, the context its record, an unknown itself.
abbrev pub MeansBound : World → Text × Made → Type 0
MeansBound w b = (w.unknowns b.0 ≡ Some (bare b.1)) × ((b.0 ≡ codes "principal" → w.principal ≡ uid_of (bare b.1)) × (b.0 ≡ codes "action" → w.action ≡ uid_of (bare b.1))
    × (b.0 ≡ codes "resource" → w.resource ≡ uid_of (bare b.1)) × (b.0 ≡ codes "context" → w.context ≡ Some (bare b.1)))

-- A whole world that completes a state: it completes the request, each bound name means its value, and each uid that was asked for is
-- in it as the store answered.
pub record CompletesNow (x : Setup) (s : State) (w : World) : Type 0 where
  pub request : Completes x.schema x.functions.table x.level x.start w
  pub bound : (b : Text × Made) → Contains s.bound b → MeansBound w b
  pub asked : (u : Uid) → Contains s.asked u → w.store u ≡ whole_store x u
