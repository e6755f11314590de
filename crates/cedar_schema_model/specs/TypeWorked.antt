-- The types, values and schema of the worked examples on types.
-- Rule: subtypes; values of a type; joins; attributes of a type (docs/RULES.md).
use Rattle.std.specs.Prelude.{pos, [], ◌∷◌, codes, Bool, true, false, None}
use Rattle.cedar_expr_model.specs.Name.{Text, Name}
use Rattle.cedar_expr_model.specs.Value.{truth, long, text, entity, V, prim, set_of, record_of, no_values, value, no_fields, field}
use Rattle.cedar_schema_model.specs.Types.{only_true, only_false, any_bool, is_open, is_closed, Ty, bool_type, long_type, string_type, entity_types, record_type, Attributes, no_attributes, attribute, entity_type}
use Rattle.cedar_schema_model.specs.Schema.{EntityType, standard, enumerated, external, Schema}

-- `Doc`, `Group`, `User`, `Color` and `Decimal`
abbrev pub plain_name : Text → Name
plain_name t = record { path = []; base = t }

abbrev pub color : Name
color = plain_name (codes "Color")

abbrev pub doc : Name
doc = plain_name (codes "Doc")

abbrev pub group : Name
group = plain_name (codes "Group")

abbrev pub user : Name
user = plain_name (codes "User")

abbrev pub decimal : Name
decimal = plain_name (codes "decimal")

abbrev pub ip : Name
ip = plain_name (codes "ipaddr")

-- types
abbrev pub bool : Ty
bool = bool_type any_bool

abbrev pub always : Ty
always = bool_type only_true

abbrev pub at_no_time : Ty
at_no_time = bool_type only_false

abbrev pub docs : Ty
docs = entity_type doc

abbrev pub users : Ty
users = entity_type user

abbrev pub docs_or_users : Ty
docs_or_users = entity_types (doc ∷ user ∷ [])

abbrev pub groups_or_users : Ty
groups_or_users = entity_types (group ∷ user ∷ [])

abbrev pub all_three : Ty
all_three = entity_types (doc ∷ group ∷ user ∷ [])

-- one attribute, `a`
abbrev pub with_a : Ty → Bool → Attributes
with_a t r = attribute (codes "a") t r no_attributes

-- two attributes, `a` and `b`, both required
abbrev pub with_both : Ty → Ty → Attributes
with_both t u = attribute (codes "a") t true (attribute (codes "b") u true no_attributes)

abbrev pub closed : Attributes → Ty
closed as_ = record_type as_ is_closed

abbrev pub opened : Attributes → Ty
opened as_ = record_type as_ is_open

-- values
abbrev pub one : V
one = prim (long (pos 1))

abbrev pub yes_value : V
yes_value = prim (truth true)

abbrev pub no_value : V
no_value = prim (truth false)

abbrev pub word : V
word = prim (text (codes "w"))

abbrev pub user_a : V
user_a = prim (entity (record { kind = user; id = codes "a" }))

abbrev pub doc_d : V
doc_d = prim (entity (record { kind = doc; id = codes "d" }))

abbrev pub set_one : V → V
set_one v = set_of (value v no_values)

abbrev pub set_two : V → V → V
set_two v w = set_of (value v (value w no_values))

abbrev pub nothing : V
nothing = set_of no_values

abbrev pub empty : V
empty = record_of no_fields

abbrev pub just_a : V → V
just_a v = record_of (field (codes "a") v no_fields)

abbrev pub a_and_b : V → V → V
a_and_b v w = record_of (field (codes "a") v (field (codes "b") w no_fields))

-- Users have a flag, which is true, a name, and may have a rank. Documents have a flag, which is false, an owner and a rank
-- that is a text, and may have a name. Colours are enumerated, groups are declared elsewhere.
abbrev pub user_type : EntityType
user_type = record {
  name = user;
  parents = group ∷ [];
  kind = standard (attribute (codes "flag") always true (attribute (codes "name") string_type true (attribute (codes "rank") long_type false no_attributes))) None;
}

abbrev pub doc_type : EntityType
doc_type = record {
  name = doc;
  parents = [];
  kind = standard (attribute (codes "flag") at_no_time true (attribute (codes "name") string_type false (attribute (codes "owner") users true (attribute (codes "rank") string_type true no_attributes)))) None;
}

abbrev pub color_type : EntityType
color_type = record { name = color; parents = []; kind = enumerated (codes "red" ∷ []) }

abbrev pub group_type : EntityType
group_type = record { name = group; parents = []; kind = external }

abbrev pub schema : Schema
schema = record { types = user_type ∷ doc_type ∷ color_type ∷ group_type ∷ []; actions = [] }
