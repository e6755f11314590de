-- What the code's requests and parts of entities are where conformance asks.
-- Rule: conforming entities; conforming requests (docs/RULES.md).
use Rattle.std.specs.Prelude.{List, map, Option, option_map, option_and_then, Bool, true, false, ◌||◌}
use Rattle.std.specs.Borrow.{Bor}
use Rattle.std.specs.Option.{option_map_or}
use Rattle.cedar_expr_model.specs.Name.{Text, Name}
use Rattle.cedar_expr_model.specs.Made.{Made}
use Rattle.cedar_expr_model.specs.Value.{V}
use Rattle.cedar_expr_model.specs.ValueParts.{Part}
use Rattle.cedar_store_model.specs.Store.{OpenRequest}
use Rattle.cedar_store_entities.specs.Views.{bare_part, entity_uid, entity_of}
use Rattle.cedar_store_entities.specs.declared.entity.Entity.{Entity}
use Rattle.cedar_schema_model.specs.Schema.{EntityKind, standard, enumerated, external}
use Rattle.cedar_schema_model.specs.Types.{Ty}
use Rattle.cedar_schema_types.specs.Types.{type_of}
use Rattle.cedar_schema_types.specs.declared.types.Type.{«Type» as CodeType}
use Rattle.cedar_schema_model.specs.Kept.{KeptAction, Kept, kept_action, kept_type}
use Rattle.cedar_evaluator_model.specs.Known.{known_entry, known_context}
use Rattle.cedar_evaluator_model.specs.Response.{PartialRequest}
use Rattle.cedar_evaluator_requests.specs.Views.{request_of, context_or_unknown}
use Rattle.cedar_evaluator_requests.specs.declared.context.Context.{Context}
use Rattle.cedar_evaluator_requests.specs.declared.request.Request.{Request}
use Rattle.cedar_gate_model.specs.Asked.{kept_fault_at, is_no_kept_member}
use Rattle.cedar_schema_entries.specs.Views.{entity_type_seen}
use Rattle.cedar_schema_entries.specs.declared.entity_type.ValidatorEntityType.{ValidatorEntityType}
use Rattle.cedar_schema_model.specs.Conforming.{Place, of_kind, nowhere, ConformFault}

-- attributes or tags, without the calls that make their values
abbrev pub bare_parts : List (Text × Part Made) → List (Text × Part V)
bare_parts ps = map (λ p. (p.0, bare_part p.1)) ps

-- the request, of which what isn't a value is unknown
abbrev pub open_request : PartialRequest → OpenRequest
open_request r = record { principal = known_entry r.principal; action = known_entry r.action; resource = known_entry r.resource; context = known_context r.context }

abbrev pub request_seen : Request → OpenRequest
request_seen q = open_request (request_of q)

-- a context, where it is there and a value
abbrev pub context_seen : Option (Bor Context) → Option V
context_seen c = known_context (context_or_unknown (option_map (λ c. c.now) c))

-- a type, where there is one
abbrev pub type_seen : Option (Bor CodeType) → Option Ty
type_seen t = option_map (λ t. type_of t.now) t

-- the action that is asked for, where it is known and kept
abbrev pub action_asked : Kept → OpenRequest → Option KeptAction
action_asked k r = option_and_then (kept_action k) r.action

-- the entity type is enumerated
abbrev pub is_enumerated : EntityKind → Bool
is_enumerated (standard as_ t) = false
is_enumerated (enumerated ids) = true
is_enumerated external = false

-- what is kept of the entity type of this name
abbrev pub place_of_type : Kept → Name → Place
place_of_type k n = option_map_or (λ t. of_kind t.kind) (kept_type k n) nowhere

-- the faults of an entity of a type that is kept, and of one of this type
abbrev pub typed_fault : Kept → Entity → ConformFault → Bool
typed_fault k e = kept_fault_at k (entity_uid e) (entity_of e) (place_of_type k (entity_uid e).kind)

abbrev pub fault_of_type : Kept → Entity → ValidatorEntityType → ConformFault → Bool
fault_of_type k e t = kept_fault_at k (entity_uid e) (entity_of e) (of_kind (entity_type_seen t).kind)

-- the principal or the resource is of an enumerated type, and no member
abbrev pub names_no_kept_member : Kept → OpenRequest → Bool
names_no_kept_member k r = is_no_kept_member k r.principal || is_no_kept_member k r.resource
