-- The faults of entities and requests by what a built schema keeps.
-- Rule: conforming entities; conforming requests; descent (docs/RULES.md).
use Rattle.std.specs.Prelude.{◌&&◌, ◌||◌, List, Bool, true, false, not, Option, is_some, is_none, if◌then◌else◌}
use Rattle.std.specs.List.{list_any}
use Rattle.std.specs.Map.{lookup}
use Rattle.std.specs.Option.{option_map_or}
use Rattle.std.specs.Str.{bytes_eq}
use Rattle.cedar_expr_model.specs.Name.{Text}
use Rattle.cedar_expr_model.specs.Uid.{Uid, uid_eq}
use Rattle.cedar_expr_model.specs.Value.{V}
use Rattle.cedar_expr_model.specs.ValueParts.{Part}
use Rattle.cedar_store_model.specs.Knowledge.{holds_values}
use Rattle.cedar_store_model.specs.Store.{OpenRequest}
use Rattle.cedar_store_model.specs.World.{Entity}
use Rattle.cedar_schema_model.specs.Conforming.{ConformFault, undeclared, not_listed, no_member, lacks_attribute, undeclared_attribute, attribute_value, tag, ancestor, context_value, open_part, Place, among_actions, of_kind, nowhere, attributes_at, tags_at, attribute_list, type_at, is_no_member, is_refused, where_known, is_not_listed}
use Rattle.cedar_schema_model.specs.HasType.{has_type}
use Rattle.cedar_schema_model.specs.Schema.{enumerated}
use Rattle.cedar_schema_model.specs.Types.{Ty, Attributes, attribute_named}
use Rattle.cedar_schema_model.specs.Kept.{KeptAction, Kept, kept_type, kept_action}
use Rattle.cedar_typechecker_model.specs.Asked.{type_is_below, action_is_below}

-- attributes, or tags
abbrev pub Parts : Type 0
Parts = List (Text × Part V)

-- where what is kept speaks of a uid
abbrev pub kept_place : Kept → Uid → Place
kept_place k u = if is_some (kept_action k u) then among_actions else option_map_or (λ t. of_kind t.kind) (kept_type k u.kind) nowhere

abbrev pub is_nowhere : Place → Bool
is_nowhere nowhere = true
is_nowhere p = false

-- a required attribute lacks, or one isn't declared; a value isn't of the type of its attribute, or of that of tags
abbrev pub lacks_required : Attributes → Parts → Bool
lacks_required as_ ps = list_any (λ d. d.1.is_required && is_none (lookup (bytes_eq d.0) ps)) (attribute_list as_)

abbrev pub has_undeclared : Attributes → Parts → Bool
has_undeclared as_ ps = list_any (λ x. is_none (attribute_named x.0 as_)) ps

abbrev pub has_wrong_value : Attributes → Parts → Bool
has_wrong_value as_ ps = list_any (λ x. is_refused (type_at as_ x.0) x.1) ps

abbrev pub has_wrong_tag : Option Ty → Parts → Bool
has_wrong_tag t ps = list_any (λ x. is_none t || is_refused t x.1) ps

-- what may be an ancestor by what is kept
abbrev pub may_be_below : Kept → Uid → Place → Uid → Bool
may_be_below k u among_actions v = action_is_below k u v
may_be_below k u (of_kind (enumerated ids)) v = false
may_be_below k u p v = type_is_below k u.kind v.kind

abbrev pub has_wrong_ancestor : Kept → Uid → Place → List Uid → Bool
has_wrong_ancestor k u p vs = list_any (λ v. not (may_be_below k u p v)) vs

-- an ancestor of an action lacks
abbrev pub is_lacking : Uid → List Uid → KeptAction → Bool
is_lacking u vs a = list_any (uid_eq u) a.descendants && not (list_any (uid_eq a.uid) vs)

abbrev pub lacks_above : Kept → Uid → Place → List Uid → Bool
lacks_above k u among_actions vs = list_any (is_lacking u vs) k.actions
lacks_above k u p vs = false

-- the faults of an entity
abbrev pub kept_fault_at : Kept → Uid → Entity V → Place → ConformFault → Bool
kept_fault_at k u e p undeclared = is_nowhere p
kept_fault_at k u e p no_member = is_no_member p u.id
kept_fault_at k u e p lacks_attribute = lacks_required (attributes_at p) e.attributes
kept_fault_at k u e p undeclared_attribute = has_undeclared (attributes_at p) e.attributes
kept_fault_at k u e p attribute_value = has_wrong_value (attributes_at p) e.attributes
kept_fault_at k u e p tag = has_wrong_tag (tags_at p) e.tags
kept_fault_at k u e p ancestor = has_wrong_ancestor k u p e.ancestors || lacks_above k u p e.ancestors
kept_fault_at k u e p open_part = not (holds_values e)
kept_fault_at k u e p f = false

abbrev pub kept_entity_fault : Kept → Uid → Entity V → ConformFault → Bool
kept_entity_fault k u e f = kept_fault_at k u e (kept_place k u) f

-- this holds of the action of a request, where it is known and kept
abbrev pub of_kept_action : Kept → OpenRequest → (KeptAction → Bool) → Bool
of_kept_action k r test = where_known r.action (λ u. where_known (kept_action k u) test)

abbrev pub is_unlisted : OpenRequest → KeptAction → Bool
is_unlisted r a = is_not_listed a.applied.principals r.principal || is_not_listed a.applied.resources r.resource

-- the context is known, and isn't of its type
abbrev pub has_wrong_context : OpenRequest → KeptAction → Bool
has_wrong_context r a = where_known r.context (λ v. not (has_type v a.context))

abbrev pub is_no_kept_member : Kept → Option Uid → Bool
is_no_kept_member k o = where_known o (λ u. is_no_member (kept_place k u) u.id)

abbrev pub has_open_part : OpenRequest → Bool
has_open_part r = (is_none r.principal || is_none r.action) || (is_none r.resource || is_none r.context)

-- the faults of a request
abbrev pub kept_request_fault : Kept → OpenRequest → ConformFault → Bool
kept_request_fault k r undeclared = where_known r.action (λ u. is_none (kept_action k u))
kept_request_fault k r not_listed = of_kept_action k r (is_unlisted r)
kept_request_fault k r no_member = is_no_kept_member k r.principal || is_no_kept_member k r.resource
kept_request_fault k r context_value = of_kept_action k r (has_wrong_context r)
kept_request_fault k r open_part = has_open_part r
kept_request_fault k r f = false
