-- What is wrong with a built schema, as a search for the first fault.
-- Rule: schemas; descent; well-formed declarations (docs/RULES.md).
use Rattle.std.specs.Prelude.{◌&&◌, List, Bool, not, Option, Some, None, is_none, is_some, if◌then◌else◌}
use Rattle.std.specs.Option.{option_or, option_map_or}
use Rattle.std.specs.List.{list_any, list_all}
use Rattle.std.specs.Str.{bytes_eq}
use Rattle.cedar_expr_model.specs.Name.{Name, name_eq, is_reserved}
use Rattle.cedar_expr_model.specs.Uid.{Uid, uid_eq}
use Rattle.cedar_expr_model.specs.Lists.{first_found}
use Rattle.cedar_schema_model.specs.Types.{Ty, entity_types, set_type, record_type, extension_type, is_closed, Attributes, no_attributes, attribute}
use Rattle.cedar_schema_model.specs.Schema.{EntityKind, standard, enumerated, external}
use Rattle.cedar_schema_model.specs.Reference.{action_word}
use Rattle.cedar_schema_model.specs.Kept.{KeptType, KeptAction, Kept, kept_type, kept_action}

-- What may be wrong: an entity type, an extension type or an action that is referred to and isn't there; an entity type with the last
-- name of types of actions, or an action whose type has another; a context that isn't a closed record; an action that descends from
-- itself; what descends from a descendant and isn't one.
pub data Unsound : Type 0 where
  undeclared_type unknown_extension type_as_action : Name → Unsound
  undeclared_action action_of_other_type open_context action_below_itself : Uid → Unsound
  type_left_out : Name → Name → Unsound
  action_left_out : Uid → Uid → Unsound

-- the fault, where the test fails
abbrev pub unless : Bool → Unsound → Option Unsound
unless test f = if test then None else Some f

-- an entity type that is referred to, and an extension type
abbrev pub type_fault : Kept → Name → Option Unsound
type_fault k n = unless (is_some (kept_type k n)) (undeclared_type n)

abbrev pub extension_fault : List Name → Name → Option Unsound
extension_fault x n = unless (list_any (name_eq n) x) (unknown_extension n)

-- a type, and attributes in the order of their names
abbrev mutual
  pub known_fault : List Name → Kept → Ty → Option Unsound
  known_fault x k (entity_types ns) = first_found (type_fault k) ns
  known_fault x k (set_type t) = known_fault x k t
  known_fault x k (record_type as_ o) = attributes_fault x k as_
  known_fault x k (extension_type n) = extension_fault x n
  known_fault x k t = None

  pub attributes_fault : List Name → Kept → Attributes → Option Unsound
  attributes_fault x k no_attributes = None
  attributes_fault x k (attribute a t r as_) = option_or (known_fault x k t) (attributes_fault x k as_)

abbrev pub tag_fault : List Name → Kept → Option Ty → Option Unsound
tag_fault x k t = option_map_or (known_fault x k) t None

abbrev pub kind_fault : List Name → Kept → EntityKind → Option Unsound
kind_fault x k (standard as_ t) = option_or (attributes_fault x k as_) (tag_fault x k t)
kind_fault x k (enumerated ids) = None
kind_fault x k external = None

-- a descendant of an entity type: it is declared, and its own are among those of the entity type
abbrev pub type_among : KeptType → Name → Option Unsound
type_among t m = unless (list_any (name_eq m) t.descendants) (type_left_out t.name m)

abbrev pub type_below_fault : Kept → KeptType → Name → Option Unsound
type_below_fault k t n = option_map_or (λ u. first_found (type_among t) u.descendants) (kept_type k n) (Some (undeclared_type n))

-- an entity type: its name, its kind, its descendants
abbrev pub entity_type_fault : List Name → Kept → KeptType → Option Unsound
entity_type_fault x k t = option_or (unless (not (bytes_eq action_word t.name.base)) (type_as_action t.name)) (option_or (kind_fault x k t.kind) (first_found (type_below_fault k t) t.descendants))

-- the context of an action
abbrev pub context_fault : List Name → Kept → Uid → Ty → Option Unsound
context_fault x k u (record_type as_ is_closed) = attributes_fault x k as_
context_fault x k u t = Some (open_context u)

-- a descendant of an action: it is declared, and its own are among those of the action
abbrev pub action_among : KeptAction → Uid → Option Unsound
action_among a v = unless (list_any (uid_eq v) a.descendants) (action_left_out a.uid v)

abbrev pub action_below_fault : Kept → KeptAction → Uid → Option Unsound
action_below_fault k a u = option_map_or (λ b. first_found (action_among a) b.descendants) (kept_action k u) (Some (undeclared_action u))

abbrev pub descendants_fault : Kept → KeptAction → Option Unsound
descendants_fault k a = option_or (unless (not (list_any (uid_eq a.uid) a.descendants)) (action_below_itself a.uid)) (first_found (action_below_fault k a) a.descendants)

-- what an action applies to
abbrev pub applied_fault : Kept → KeptAction → Option Unsound
applied_fault k a = option_or (first_found (type_fault k) a.applied.principals) (first_found (type_fault k) a.applied.resources)

-- an action: its type, what it applies to, its context, its descendants
abbrev pub action_fault : List Name → Kept → KeptAction → Option Unsound
action_fault x k a = option_or (unless (bytes_eq action_word a.uid.kind.base) (action_of_other_type a.uid)) (option_or (applied_fault k a) (option_or (context_fault x k a.uid a.context) (descendants_fault k a)))

-- The first fault: entity types in their order, and then actions in theirs.
abbrev pub first_fault : List Name → Kept → Option Unsound
first_fault x k = option_or (first_found (entity_type_fault x k) k.types) (first_found (action_fault x k) k.actions)

-- No name is reserved, of entity types and of types of actions.
abbrev pub names_are_free : Kept → Bool
names_are_free k = list_all (λ t. not (is_reserved t.name)) k.types && list_all (λ a. not (is_reserved a.uid.kind)) k.actions

-- Nothing is wrong.
abbrev pub is_sound : List Name → Kept → Bool
is_sound x k = names_are_free k && is_none (first_fault x k)
