-- Which entities and requests conform to a schema. A fault says what is wrong; what has none conforms.
-- Rule: conforming entities; conforming requests (docs/RULES.md).
use Rattle.std.specs.Prelude.{◌≡◌, ◌&&◌, ◌||◌, ℕ, List, [], ◌∷◌, Bool, false, not, Option, Some, None, is_none, option_map, if◌then◌else◌, map}
use Rattle.std.specs.Option.{option_map_or}
use Rattle.std.specs.List.{list_any, list_all}
use Rattle.std.specs.Map.{lookup}
use Rattle.std.specs.Str.{bytes_eq}
use Rattle.cedar_expr_model.specs.Name.{Text, Name, name_eq}
use Rattle.cedar_expr_model.specs.Uid.{Uid, uid_eq}
use Rattle.cedar_expr_model.specs.Value.{V}
use Rattle.cedar_expr_model.specs.ValueParts.{Part, known}
use Rattle.cedar_store_model.specs.World.{Entity}
use Rattle.cedar_store_model.specs.Knowledge.{holds_values}
use Rattle.cedar_store_model.specs.Store.{OpenRequest}
use Rattle.cedar_schema_model.specs.Types.{Ty, record_type, is_closed, Attributes, no_attributes, attribute, Declared, attribute_named}
use Rattle.cedar_schema_model.specs.Schema.{EntityKind, standard, enumerated, Action, Schema, type_named, action_with, declares_type, declares_action}
use Rattle.cedar_schema_model.specs.Descent.{descends, action_descends, is_action_ancestor, action_uids}
use Rattle.cedar_schema_model.specs.HasType.{has_type}

-- The faults of an entity or a request.
pub data ConformFault : Type 0 where
  undeclared not_listed no_member lacks_attribute undeclared_attribute attribute_value tag ancestor context_value open_part : ConformFault

-- The faults, each with its number.
abbrev pub numbered_faults : List (ℕ × ConformFault)
numbered_faults = (1, undeclared) ∷ (2, not_listed) ∷ (3, no_member) ∷ (4, lacks_attribute) ∷ (5, undeclared_attribute) ∷ (6, attribute_value)
    ∷ (7, tag) ∷ (8, ancestor) ∷ (9, context_value) ∷ (10, open_part) ∷ []

abbrev pub conform_faults : List ConformFault
conform_faults = map (λ n. n.1) numbered_faults

-- Where a schema speaks of a uid: among its actions, else by the kind of its entity type, else nowhere.
pub data Place : Type 0 where
  among_actions nowhere : Place
  of_kind : EntityKind → Place

abbrev pub place_of : Schema → Uid → Place
place_of s u = if declares_action s u then among_actions else option_map_or (λ t. of_kind t.kind) (type_named s u.kind) nowhere

-- the attributes and the type of the tags that are declared there
abbrev pub attributes_at : Place → Attributes
attributes_at (of_kind (standard as_ t)) = as_
attributes_at p = no_attributes

abbrev pub tags_at : Place → Option Ty
tags_at (of_kind (standard as_ t)) = t
tags_at p = None

-- the attributes as a list, and the type of one of them
abbrev pub attribute_list : Attributes → List (Text × Declared)
attribute_list no_attributes = []
attribute_list (attribute a t r as_) = (a, record { type = t; is_required = r }) ∷ attribute_list as_

abbrev pub type_at : Attributes → Text → Option Ty
type_at as_ a = option_map (λ d. d.type) (attribute_named a as_)

-- an enumerated type doesn't have this member
abbrev pub is_no_member : Place → Text → Bool
is_no_member (of_kind (enumerated ids)) id = not (list_any (bytes_eq id) ids)
is_no_member p id = false

-- a value that isn't of the type
abbrev pub is_refused : Option Ty → Part V → Bool
is_refused (Some t) (known v) = not (has_type v t)
is_refused t x = false

-- What may be an ancestor: of an action its declared ancestors; of an enumerated member nothing; else what has a type that its
-- type descends from.
abbrev pub may_descend : Schema → Uid → Place → Uid → Bool
may_descend s u among_actions v = is_action_ancestor s u v
may_descend s u (of_kind (enumerated ids)) v = false
may_descend s u p v = descends s u.kind v.kind

-- an ancestor that has to be there lacks: one of the declared ancestors of an action
abbrev pub lacks_ancestor : Schema → Uid → Place → List Uid → Bool
lacks_ancestor s u among_actions vs = list_any (λ v. action_descends s u v && not (list_any (uid_eq v) vs)) (action_uids s)
lacks_ancestor s u p vs = false

-- The fault is there, in an entity: a required attribute lacks, or an attribute isn't declared; a value isn't of its type, or
-- there is a tag where none may be; an ancestor is wrong or lacks; a part isn't a value yet.
abbrev pub entity_fault_at : Schema → Uid → Entity V → Place → ConformFault → Bool
entity_fault_at s u e p undeclared = not (declares_action s u || declares_type s u.kind)
entity_fault_at s u e p no_member = is_no_member p u.id
entity_fault_at s u e p lacks_attribute = list_any (λ d. d.1.is_required && is_none (lookup (bytes_eq d.0) e.attributes)) (attribute_list (attributes_at p))
entity_fault_at s u e p undeclared_attribute = list_any (λ x. is_none (attribute_named x.0 (attributes_at p))) e.attributes
entity_fault_at s u e p attribute_value = list_any (λ x. is_refused (type_at (attributes_at p) x.0) x.1) e.attributes
entity_fault_at s u e p tag = list_any (λ x. is_none (tags_at p) || is_refused (tags_at p) x.1) e.tags
entity_fault_at s u e p ancestor = list_any (λ v. not (may_descend s u p v)) e.ancestors || lacks_ancestor s u p e.ancestors
entity_fault_at s u e p open_part = not (holds_values e)
entity_fault_at s u e p f = false

abbrev pub has_entity_fault : Schema → Uid → Entity V → ConformFault → Bool
has_entity_fault s u e f = entity_fault_at s u e (place_of s u) f

-- An entity conforms where no fault is there.
abbrev pub EntityConforms : Schema → Uid → Entity V → Type 0
EntityConforms s u e = (f : ConformFault) → has_entity_fault s u e f ≡ false

abbrev pub entity_conforms : Schema → Uid → Entity V → Bool
entity_conforms s u e = list_all (λ f. not (has_entity_fault s u e f)) conform_faults

-- this holds of what is known
abbrev pub where_known : {A : Type 0} → Option A → (A → Bool) → Bool
where_known a test = option_map_or test a false

-- this holds of the action of a request, where it is known and declared
abbrev pub of_action : Schema → OpenRequest → (Action → Bool) → Bool
of_action s r test = where_known r.action (λ u. where_known (action_with s u) test)

-- the type isn't among those listed
abbrev pub is_not_listed : List Name → Option Uid → Bool
is_not_listed ns u = where_known u (λ v. not (list_any (name_eq v.kind) ns))

-- The fault is there, in a request.
abbrev pub has_request_fault : Schema → OpenRequest → ConformFault → Bool
has_request_fault s r undeclared = where_known r.action (λ u. not (declares_action s u))
has_request_fault s r not_listed = of_action s r (λ a. is_not_listed a.principals r.principal || is_not_listed a.resources r.resource)
has_request_fault s r no_member = where_known r.principal (λ u. is_no_member (place_of s u) u.id) || where_known r.resource (λ u. is_no_member (place_of s u) u.id)
has_request_fault s r context_value = of_action s r (λ a. where_known r.context (λ v. not (has_type v (record_type a.context is_closed))))
has_request_fault s r open_part = (is_none r.principal || is_none r.action) || (is_none r.resource || is_none r.context)
has_request_fault s r f = false

-- A request conforms where no fault is there.
abbrev pub RequestConforms : Schema → OpenRequest → Type 0
RequestConforms s r = (f : ConformFault) → has_request_fault s r f ≡ false

abbrev pub request_conforms : Schema → OpenRequest → Bool
request_conforms s r = list_all (λ f. not (has_request_fault s r f)) conform_faults
