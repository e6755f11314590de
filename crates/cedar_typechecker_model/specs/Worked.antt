-- The values of the worked examples.
-- Rule: typing; levels; the scope rules (docs/RULES.md).
use Rattle.std.specs.Prelude.{ℕ, List, [], ◌∷◌, codes, Bool, true, false, Option, Some, None}
use Rattle.cedar_expr_model.specs.Name.{Text, Name}
use Rattle.cedar_expr_model.specs.Uid.{Uid}
use Rattle.cedar_expr_model.specs.Value.{truth, text, entity}
use Rattle.cedar_expr_model.specs.Tree.{principal, resource, Tree, lit, var, both, binary, equal, less, call, get_attr, has_attr, choice, CoreType, string_core, set_core, extension_core, no_trees, tree, record_literal, no_tree_fields, tree_field}
use Rattle.cedar_expr_model.specs.Table.{CallStyle, function_style, method_style, Signature, Table, fails}
use Rattle.cedar_store_model.specs.Policy.{Policy, permit, Scope, any, inside, own_slot, ActionScope, any_action, inside_actions, SlotBindings, no_bindings}
use Rattle.cedar_schema_model.specs.Types.{any_bool, is_closed, Ty, bool_type, long_type, string_type, entity_type, record_type, extension_type, no_attributes, attribute, permissive}
use Rattle.cedar_schema_model.specs.Schema.{standard, enumerated, EntityType, Action, Schema}
use Rattle.cedar_schema_model.specs.Environment.{Environment}
use Rattle.cedar_typechecker_model.specs.Rules.{Setting}
use Rattle.cedar_typechecker_model.specs.Levels.{Violation}
use Rattle.cedar_typechecker_model.specs.Verdicts.{in_mode, strictly, RequestType}

abbrev pub plain_name : Text → Name
plain_name base = record { path = []; base = base }

abbrev pub uid_of : Name → Text → Uid
uid_of n id = record { kind = n; id = id }

abbrev pub user : Name
user = plain_name (codes "User")

abbrev pub doc : Name
doc = plain_name (codes "Doc")

abbrev pub acting : Name
acting = plain_name (codes "Action")

abbrev pub phantom : Name
phantom = plain_name (codes "Phantom")

abbrev pub user_a : Uid
user_a = uid_of user (codes "a")

abbrev pub doc_d : Uid
doc_d = uid_of doc (codes "d")

abbrev pub phantom_g : Uid
phantom_g = uid_of phantom (codes "g")

abbrev pub view : Uid
view = uid_of acting (codes "view")

abbrev pub edit : Uid
edit = uid_of acting (codes "edit")

-- the attributes
abbrev pub boss : Text
boss = codes "boss"

abbrev pub ok : Text
ok = codes "ok"

abbrev pub nick : Text
nick = codes "nick"

abbrev pub owner : Text
owner = codes "owner"

-- A user has a boss, may be ok or not, and may have a nick; a document has an owner; a user views a document.
abbrev pub user_type : EntityType
user_type = record { name = user; parents = []; kind = standard (attribute boss (entity_type user) true (attribute nick string_type false (attribute ok (bool_type any_bool) true no_attributes))) None }

abbrev pub doc_type : EntityType
doc_type = record { name = doc; parents = []; kind = standard (attribute owner (entity_type user) true no_attributes) None }

abbrev pub view_action : Action
view_action = record { uid = view; parents = []; principals = user ∷ []; resources = doc ∷ []; context = no_attributes; is_external = false }

abbrev pub small : Schema
small = record { types = user_type ∷ doc_type ∷ []; actions = view_action ∷ [] }

-- the schema that declares nothing
abbrev pub nothing : Schema
nothing = record { types = []; actions = [] }

-- no functions
abbrev pub no_table : Table
no_table = record { functions = []; ordered = []; answers = λ f vs. fails f }

-- a user views a document
abbrev pub viewing : Environment
viewing = record { principal = user; action = view; resource = doc; context = no_attributes; principal_slot = None; resource_slot = None }

abbrev pub here : Setting
here = strictly small no_table viewing

-- the setting in which a user views a document, in Permissive
abbrev pub loosely : Setting
loosely = in_mode permissive small no_table viewing

abbrev pub viewing_types : RequestType
viewing_types = record { principal = user; action = view; resource = doc }

-- the policy that permits with this scope and body
abbrev pub permits : Scope → ActionScope → Tree → SlotBindings → Policy
permits p a t b = record { id = codes "p"; effect = permit; annotations = []; principal = p; action = a; resource = any; body = Some t; bindings = b }

abbrev pub permits_when : Tree → Policy
permits_when t = permits any any_action t no_bindings

-- `principal.ok`, `principal.boss`, `principal has nick` and `principal.nick == "x"`
abbrev pub is_ok : Tree
is_ok = get_attr (var principal) ok

abbrev pub the_boss : Tree
the_boss = get_attr (var principal) boss

abbrev pub has_nick : Tree
has_nick = has_attr (var principal) nick

abbrev pub nick_is_x : Tree
nick_is_x = binary equal (get_attr (var principal) nick) (lit (text (codes "x")))

abbrev pub true_ : Tree
true_ = lit (truth true)

abbrev pub false_ : Tree
false_ = lit (truth false)

-- `resource.owner.boss == principal`
abbrev pub owned_by_staff : Tree
owned_by_staff = binary equal (get_attr (get_attr (var resource) owner) boss) (var principal)

-- `(if principal.ok then principal.boss else resource.owner.boss).ok`
abbrev pub chosen_ok : Tree
chosen_ok = get_attr (choice is_ok the_boss (get_attr (get_attr (var resource) owner) boss)) ok

-- `{foo: User::"alice", bar: User::"bob"}.foo.ok`
abbrev pub alice : Uid
alice = uid_of user (codes "alice")

abbrev pub alice_ok : Tree
alice_ok = get_attr (get_attr (record_literal (tree_field (codes "bar") (lit (entity (uid_of user (codes "bob")))) (tree_field (codes "foo") (lit (entity alice)) no_tree_fields))) (codes "foo")) ok

-- `{foo: principal}.foo`
abbrev pub wrapped : Tree
wrapped = get_attr (record_literal (tree_field (codes "foo") (var principal) no_tree_fields)) (codes "foo")

-- `false && Phantom::"g" == principal`
abbrev pub haunted : Tree
haunted = both false_ (binary equal (lit (entity phantom_g)) (var principal))

-- a violation that names the level it needs
abbrev pub needs : Tree → ℕ → Violation
needs e n = record { at = e; required = Some n }

-- one of a literal or a slot
abbrev pub stands : Tree → Violation
stands e = record { at = e; required = None }

-- `permit(principal, action in [Action::"view"], resource)`
abbrev pub in_views : Policy
in_views = permits any (inside_actions (view ∷ [])) true_ no_bindings

-- `permit(principal in ?principal, action, resource)`, with this binding
abbrev pub in_slot_of : Option Uid → Policy
in_slot_of u = permits (inside own_slot) any_action true_ (record { principal = u; resource = None })

-- The larger schema: groups, of which users may be members; tags; an enumerated type; a group of actions; a context.
abbrev pub group : Name
group = plain_name (codes "Group")

abbrev pub color : Name
color = plain_name (codes "Color")

abbrev pub rank : Name
rank = plain_name (codes "rank")

abbrev pub read : Uid
read = uid_of acting (codes "read")

abbrev pub info : Text
info = codes "info"

abbrev pub level : Text
level = codes "r"

abbrev pub size : Text
size = codes "size"

abbrev pub group_g : Uid
group_g = uid_of group (codes "g")

abbrev pub red : Uid
red = uid_of color (codes "red")

abbrev pub blue : Uid
blue = uid_of color (codes "blue")

abbrev pub info_type : Ty
info_type = record_type (attribute owner (entity_type user) true (attribute size long_type false no_attributes)) is_closed

abbrev pub member_type : EntityType
member_type = record { name = user; parents = group ∷ []; kind = standard (attribute boss (entity_type user) false (attribute info info_type true (attribute level (extension_type rank) true no_attributes))) (Some string_type) }

abbrev pub group_type : EntityType
group_type = record { name = group; parents = []; kind = standard no_attributes None }

abbrev pub color_type : EntityType
color_type = record { name = color; parents = []; kind = enumerated (codes "red" ∷ []) }

abbrev pub read_action : Action
read_action = record { uid = read; parents = []; principals = []; resources = []; context = no_attributes; is_external = false }

abbrev pub view_in_read : Action
view_in_read = record { uid = view; parents = read ∷ []; principals = user ∷ []; resources = group ∷ []; context = attribute owner (entity_type user) true no_attributes; is_external = false }

abbrev pub large : Schema
large = record { types = member_type ∷ group_type ∷ color_type ∷ []; actions = read_action ∷ view_in_read ∷ [] }

-- `rank("..")` makes a rank, and ranks are ordered; `x.below("..", ..)` takes one text or more; `all([..])` takes a set.
abbrev pub function : Text → CallStyle → List CoreType → Bool → Option CoreType → Signature
function n style ps more r = record { name = plain_name n; style = style; parameters = ps; is_variadic = more; result = r }

abbrev pub ranks : Table
ranks = record {
  functions = function (codes "rank") function_style (string_core ∷ []) false (Some (extension_core rank))
      ∷ function (codes "below") method_style (extension_core rank ∷ string_core ∷ []) true (Some string_core)
      ∷ function (codes "all") function_style (set_core ∷ []) false (Some string_core) ∷ [];
  ordered = rank ∷ [];
  answers = λ f vs. fails f;
}

abbrev pub joining : Environment
joining = record { principal = user; action = view; resource = group; context = attribute owner (entity_type user) true no_attributes; principal_slot = Some group; resource_slot = None }

abbrev pub there : Setting
there = strictly large ranks joining

abbrev pub rank_of : Text → Tree
rank_of s = call rank (tree (lit (text s)) no_trees)

-- `principal.r < rank("10")`
abbrev pub ranked : Tree
ranked = binary less (get_attr (var principal) level) (rank_of (codes "10"))
