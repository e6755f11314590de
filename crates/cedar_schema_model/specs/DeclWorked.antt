-- The values of the worked examples on declarations, entities and requests.
-- Rule: references; declarations; well-formed declarations; schemas; conforming entities; conforming requests (docs/RULES.md).
use Rattle.std.specs.Prelude.{List, [], ◌∷◌, codes, pos, true, false, Option, Some, None}
use Rattle.cedar_expr_model.specs.Name.{Text, Name}
use Rattle.cedar_expr_model.specs.Uid.{Uid}
use Rattle.cedar_expr_model.specs.Value.{V, prim, truth, long, entity, no_fields}
use Rattle.cedar_expr_model.specs.Tree.{lit}
use Rattle.cedar_expr_model.specs.ValueParts.{Part, known, left}
use Rattle.cedar_store_model.specs.World.{Entity, Request}
use Rattle.cedar_schema_model.specs.Types.{bool_type, any_bool, string_type, long_type, entity_type, Attributes, no_attributes, attribute}
use Rattle.cedar_schema_model.specs.Schema.{standard, enumerated, external, EntityType, Action, Schema}
use Rattle.cedar_schema_model.specs.Environment.{Environment}
use Rattle.cedar_schema_model.specs.Reference.{Namespace, name_in, action_in, ReferenceKind, to_entity, to_common, to_either, Reference}
use Rattle.cedar_schema_model.specs.Declarations.{TypeExpr, bool_expr, long_expr, string_expr, set_expr, record_expr, reference, extension_expr, no_field_exprs, field_expr, CommonDeclaration, standard_expr, enumerated_expr, external_expr, EntityDeclaration, ActionDeclaration, Declarations}

-- names of the empty namespace, and the namespace `N`
abbrev pub user : Name
user = name_in [] (codes "User")

abbrev pub doc : Name
doc = name_in [] (codes "Doc")

abbrev pub group : Name
group = name_in [] (codes "Group")

abbrev pub color : Name
color = name_in [] (codes "Color")

abbrev pub ghost_type : Name
ghost_type = name_in [] (codes "Ghost")

abbrev pub rank : Name
rank = name_in [] (codes "rank")

abbrev pub n : Namespace
n = codes "N" ∷ []

-- uids
abbrev pub user_a : Uid
user_a = record { kind = user; id = codes "a" }

abbrev pub doc_d : Uid
doc_d = record { kind = doc; id = codes "d" }

abbrev pub view : Uid
view = action_in [] (codes "view")

abbrev pub edit : Uid
edit = action_in [] (codes "edit")

abbrev pub read : Uid
read = action_in [] (codes "read")

abbrev pub all_actions : Uid
all_actions = action_in [] (codes "all")

-- declarations of entity types: without parents, attributes and tags; with parents alone; of an enumerated and an external one
abbrev pub plain : Namespace → Text → EntityDeclaration
plain ns w = record { namespace = ns; word = w; parents = []; kind = standard_expr no_field_exprs None }

abbrev pub child : Text → List Name → EntityDeclaration
child w ps = record { namespace = []; word = w; parents = ps; kind = standard_expr no_field_exprs None }

abbrev pub color_declared : EntityDeclaration
color_declared = record { namespace = []; word = codes "Color"; parents = []; kind = enumerated_expr (codes "red" ∷ []) }

abbrev pub external_x : EntityDeclaration
external_x = record { namespace = []; word = codes "X"; parents = []; kind = external_expr }

abbrev pub common : Namespace → Text → TypeExpr → CommonDeclaration
common ns w t = record { namespace = ns; word = w; definition = t }

-- an action with its parents, on nothing; and one on users and documents
abbrev pub act : Namespace → Text → List Uid → ActionDeclaration
act ns id ps = record { namespace = ns; id = id; parents = ps; principals = []; resources = []; context = record_expr no_field_exprs; is_external = false }

abbrev pub on_docs : TypeExpr → ActionDeclaration
on_docs t = record { namespace = []; id = codes "view"; parents = []; principals = user ∷ []; resources = doc ∷ []; context = t; is_external = false }

-- Users have a boss, a flag and maybe a nickname; documents have an owner; users view documents.
abbrev pub user_declared : EntityDeclaration
user_declared = record {
  namespace = [];
  word = codes "User";
  parents = [];
  kind = standard_expr (field_expr (codes "boss") (reference to_either user) true (field_expr (codes "ok") bool_expr true (field_expr (codes "nick") string_expr false no_field_exprs))) None;
}

abbrev pub doc_declared : EntityDeclaration
doc_declared = record { namespace = []; word = codes "Doc"; parents = []; kind = standard_expr (field_expr (codes "owner") (reference to_entity user) true no_field_exprs) None }

abbrev pub view_declared : ActionDeclaration
view_declared = on_docs (record_expr no_field_exprs)

abbrev pub m : Declarations
m = record { commons = []; entities = user_declared ∷ doc_declared ∷ []; actions = view_declared ∷ [] }

abbrev pub user_fragment : Declarations
user_fragment = record { commons = []; entities = user_declared ∷ []; actions = [] }

abbrev pub doc_fragment : Declarations
doc_fragment = record { commons = []; entities = doc_declared ∷ []; actions = view_declared ∷ [] }

-- the declarations `m` with one entity type or action more, with these common types, or with another context as well
abbrev pub with_type : EntityDeclaration → Declarations
with_type t = record m { entities = t ∷ m.entities }

abbrev pub with_action : ActionDeclaration → Declarations
with_action a = record m { actions = a ∷ m.actions }

abbrev pub with_commons : List CommonDeclaration → Declarations
with_commons cs = record m { commons = cs }

abbrev pub with_context : List CommonDeclaration → TypeExpr → Declarations
with_context cs t = record { commons = cs; entities = m.entities; actions = on_docs t ∷ [] }

-- its schema, written out
abbrev pub user_attributes : Attributes
user_attributes = attribute (codes "boss") (entity_type user) true (attribute (codes "nick") string_type false (attribute (codes "ok") (bool_type any_bool) true no_attributes))

abbrev pub user_type : EntityType
user_type = record { name = user; parents = []; kind = standard user_attributes None }

abbrev pub doc_type : EntityType
doc_type = record { name = doc; parents = []; kind = standard (attribute (codes "owner") (entity_type user) true no_attributes) None }

abbrev pub view_action : Action
view_action = record { uid = view; parents = []; principals = user ∷ []; resources = doc ∷ []; context = no_attributes; is_external = false }

abbrev pub m_schema : Schema
m_schema = record { types = user_type ∷ doc_type ∷ []; actions = view_action ∷ [] }

-- the schema `m_schema` with an enumerated type `Color` of `red`
abbrev pub color_schema : Schema
color_schema = record m_schema { types = record { name = color; parents = []; kind = enumerated (codes "red" ∷ []) } ∷ m_schema.types }

-- a group, and the schema `m_schema` with tags that are numbers, and with the group above users and documents
abbrev pub group_type : EntityType
group_type = record { name = group; parents = group ∷ []; kind = standard no_attributes None }

abbrev pub tagged_schema : Schema
tagged_schema = record m_schema { types = record { name = user; parents = group ∷ []; kind = standard user_attributes (Some long_type) } ∷ record doc_type { parents = user ∷ [] } ∷ group_type ∷ [] }

-- view in read, read in all
abbrev pub bare_action : Uid → List Uid → Action
bare_action u ps = record { uid = u; parents = ps; principals = []; resources = []; context = no_attributes; is_external = false }

abbrev pub readers : Schema
readers = record { types = []; actions = bare_action view (read ∷ []) ∷ bare_action read (all_actions ∷ []) ∷ bare_action all_actions [] ∷ [] }

-- `N::Action::"view"` in `Action::"read"`
abbrev pub crossed : Schema
crossed = record { types = []; actions = bare_action (action_in n (codes "view")) (read ∷ []) ∷ bare_action read [] ∷ [] }

-- users and documents view users and documents
abbrev pub squared : Schema
squared = record m_schema { actions = record view_action { principals = user ∷ doc ∷ []; resources = user ∷ doc ∷ [] } ∷ [] }

-- parts of entities
abbrev pub boss_a : Text × Part V
boss_a = (codes "boss", known (prim (entity user_a)))

abbrev pub is_ok : Text × Part V
is_ok = (codes "ok", known (prim (truth true)))

abbrev pub ok_seven : Text × Part V
ok_seven = (codes "ok", known (prim (long (pos 7))))

abbrev pub age_one : Text × Part V
age_one = (codes "age", known (prim (long (pos 1))))

abbrev pub ok_left : Text × Part V
ok_left = (codes "ok", left (lit (truth true)))

abbrev pub one : V
one = prim (long (pos 1))

-- an entity of these attributes, tags and ancestors
abbrev pub made : List (Text × Part V) → List (Text × Part V) → List Uid → Entity V
made as_ ts us = record { attributes = as_; tags = ts; ancestors = us }

abbrev pub good_user : Entity V
good_user = made (boss_a ∷ is_ok ∷ []) [] []

-- `User::"a"` views `Doc::"d"`
abbrev pub request : Request
request = record { principal = user_a; action = view; resource = doc_d; context = no_fields }

-- the environment of viewing, by these types
abbrev pub at : Name → Name → Option Name → Option Name → Environment
at p r x y = record { principal = p; action = view; resource = r; context = no_attributes; principal_slot = x; resource_slot = y }

-- a reference, as it is written in a namespace
abbrev pub at_place : Namespace → ReferenceKind → Name → Reference
at_place ns k x = record { namespace = ns; kind = k; name = x }

-- `User` in the empty namespace and in `N`; and common types beside them
abbrev pub two_users : Declarations
two_users = record { commons = []; entities = plain [] (codes "User") ∷ plain n (codes "User") ∷ []; actions = [] }

abbrev pub own_first : Declarations
own_first = record { commons = common [] (codes "User") bool_expr ∷ []; entities = plain n (codes "User") ∷ []; actions = [] }

abbrev pub common_first : Declarations
common_first = record { commons = common n (codes "User") bool_expr ∷ []; entities = plain n (codes "User") ∷ plain [] (codes "User") ∷ []; actions = [] }

-- `N::User` and `M::N::User`
abbrev pub nested_users : Declarations
nested_users = record { commons = []; entities = plain n (codes "User") ∷ plain (codes "M" ∷ n) (codes "User") ∷ []; actions = [] }

abbrev pub deep_users : Declarations
deep_users = record { commons = []; entities = plain (codes "M" ∷ n) (codes "User") ∷ []; actions = [] }

-- reading is declared in the empty namespace, and in both
abbrev pub read_above : Declarations
read_above = record { commons = []; entities = []; actions = act n (codes "view") (read ∷ []) ∷ act [] (codes "read") [] ∷ [] }

abbrev pub read_beside : Declarations
read_beside = record { commons = []; entities = []; actions = act n (codes "read") [] ∷ act [] (codes "read") [] ∷ [] }

-- T is U and U is T
abbrev pub common_named : Text → TypeExpr
common_named w = reference to_common (name_in [] w)

abbrev pub common_cycle : List CommonDeclaration
common_cycle = common [] (codes "T") (common_named (codes "U")) ∷ common [] (codes "U") (common_named (codes "T")) ∷ []

-- T is a set of U, and U is the record of a number
abbrev pub number_record : TypeExpr
number_record = record_expr (field_expr (codes "a") long_expr true no_field_exprs)

abbrev pub common_chain : List CommonDeclaration
common_chain = common [] (codes "T") (set_expr (common_named (codes "U"))) ∷ common [] (codes "U") number_record ∷ []

-- T is U, and U is that record
abbrev pub common_alias : List CommonDeclaration
common_alias = common [] (codes "T") (common_named (codes "U")) ∷ common [] (codes "U") number_record ∷ []

-- a in b, and b in a
abbrev pub action_cycle : Declarations
action_cycle = record m { actions = act [] (codes "a") (action_in [] (codes "b") ∷ []) ∷ act [] (codes "b") (action_in [] (codes "a") ∷ []) ∷ [] }

-- a user with an attribute of the extension type `rank`
abbrev pub ranked : Declarations
ranked = record m { entities = record { namespace = []; word = codes "Soldier"; parents = []; kind = standard_expr (field_expr (codes "r") (extension_expr rank) true no_field_exprs) None } ∷ m.entities }

-- a type of entities with tags of this type
abbrev pub tagged_by : TypeExpr → EntityDeclaration
tagged_by t = record { namespace = []; word = codes "Tagged"; parents = []; kind = standard_expr no_field_exprs (Some t) }

-- a group below itself
abbrev pub grouped : Declarations
grouped = with_type (child (codes "Group") (group ∷ []))

-- in the namespace `N`: members of a group of the empty namespace, who list; and there an enumerated and an external type
abbrev pub member_declared : EntityDeclaration
member_declared = record { namespace = n; word = codes "Member"; parents = group ∷ []; kind = standard_expr no_field_exprs (Some long_expr) }

abbrev pub listing : ActionDeclaration
listing = record (act n (codes "list") (read ∷ [])) { principals = name_in [] (codes "Member") ∷ []; resources = group ∷ []; context = common_named (codes "U") }

abbrev pub mixed : Declarations
mixed = record {
  commons = common_chain;
  entities = member_declared ∷ child (codes "Group") (group ∷ []) ∷ color_declared ∷ external_x ∷ [];
  actions = listing ∷ act [] (codes "read") [] ∷ [];
}

abbrev pub member_name : Name
member_name = name_in n (codes "Member")

abbrev pub member_type : EntityType
member_type = record { name = member_name; parents = group ∷ []; kind = standard no_attributes (Some long_type) }

abbrev pub listing_action : Action
listing_action = record { uid = action_in n (codes "list"); parents = read ∷ []; principals = member_name ∷ []; resources = group ∷ []; context = attribute (codes "a") long_type true no_attributes; is_external = false }

abbrev pub mixed_schema : Schema
mixed_schema = record {
  types = member_type ∷ group_type ∷ record { name = color; parents = []; kind = enumerated (codes "red" ∷ []) } ∷ record { name = name_in [] (codes "X"); parents = []; kind = external } ∷ [];
  actions = listing_action ∷ bare_action read [] ∷ [];
}

-- an extension type, and an action's parent, under the reserved part
abbrev pub reserved_rank : Name
reserved_rank = name_in (codes "__cedar" ∷ []) (codes "rank")

abbrev pub reserved_ranked : Declarations
reserved_ranked = with_commons (common [] (codes "R") (extension_expr reserved_rank) ∷ [])
