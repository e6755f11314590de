-- The texts of types.
-- Rule: texts of types (docs/RULES.md).
use Rattle.std.specs.Prelude.{List, [], ◌∷◌, ◌++◌, Bool, true, false, codes, if◌then◌else◌}
use Rattle.cedar_expr_model.specs.Name.{Text, Name, name_text}
use Rattle.cedar_expr_model.specs.Uid.{quoted}
use Rattle.cedar_schema_model.specs.Types.{BoolType, any_bool, only_true, only_false, Openness, is_open, is_closed, Ty, never, bool_type, long_type, string_type, any_entity, entity_types, any_set, set_type, record_type, extension_type, Attributes, no_attributes, attribute}

abbrev pub bool_text : BoolType → Text
bool_text any_bool = codes "Bool"
bool_text only_true = codes "__cedar::internal::True"
bool_text only_false = codes "__cedar::internal::False"

-- what stands before an item of a list: nothing before the first, a comma and a space before each other one
abbrev pub between : Bool → Text
between true = []
between false = codes ", "

-- names one after the other
abbrev pub names_text : Bool → List Name → Text
names_text first [] = []
names_text first (n ∷ ns) = between first ++ (name_text n ++ names_text false ns)

-- A union of one entity type is its name.
abbrev pub union_text : List Name → Text
union_text (n ∷ []) = name_text n
union_text ns = codes "__cedar::internal::Union<" ++ (names_text true ns ++ codes ">")

abbrev pub openness_text : Openness → Text
openness_text is_open = codes "__cedar::internal::OpenRecord"
openness_text is_closed = []

-- what stands after the name of an attribute
abbrev pub required_text : Bool → Text
required_text true = codes ": "
required_text false = codes "?: "

-- an attribute: its name in quotes, a `?` where it isn't required, and the text of its type
abbrev pub attribute_text : Text → Bool → Text → Text
attribute_text n r t = quoted n ++ (required_text r ++ t)

-- Types that can't be written in a schema have names in the namespace `__cedar::internal`.
abbrev mutual
  pub type_text : Ty → Text
  type_text never = codes "__cedar::internal::Never"
  type_text (bool_type b) = bool_text b
  type_text long_type = codes "Long"
  type_text string_type = codes "String"
  type_text any_entity = codes "__cedar::internal::AnyEntity"
  type_text (entity_types ns) = union_text ns
  type_text any_set = codes "Set<__cedar::internal::Any>"
  type_text (set_type t) = codes "Set<" ++ (type_text t ++ codes ">")
  type_text (record_type as_ o) = openness_text o ++ (codes "{" ++ (attributes_text true as_ ++ codes "}"))
  type_text (extension_type n) = name_text n

  -- attributes one after the other
  pub attributes_text : Bool → Attributes → Text
  attributes_text first no_attributes = []
  attributes_text first (attribute n t r as_) = between first ++ (attribute_text n r (type_text t) ++ attributes_text false as_)
