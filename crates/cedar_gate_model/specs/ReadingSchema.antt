-- Reading declarations. Among them a reserved name reads: it is refused later.
-- Rule: what a bundle reads as; declarations (docs/RULES.md).
use Rattle.std.specs.Prelude.{◌++◌, List, [], ◌∷◌, true, false, codes, Option, Some, None, option_map, not}
use Rattle.std.specs.Str.{bytes_eq}
use Rattle.serde_json.specs.Data.{Data, string, object, Members, no_members, member}
use Rattle.cedar_expr_model.specs.Name.{Text, Name, name_read, is_identifier}
use Rattle.cedar_schema_model.specs.Reference.{Namespace, to_entity, to_common}
use Rattle.cedar_schema_model.specs.Declarations.{TypeExpr, bool_expr, long_expr, string_expr, set_expr, record_expr, reference, extension_expr, FieldExprs, no_field_exprs, field_expr, CommonDeclaration, KindExpr, standard_expr, enumerated_expr, external_expr, EntityDeclaration, ActionDeclaration, Declarations, bag}
use Rattle.cedar_gate_model.specs.Reading.{given, optional, has_only, list_of, members_of}
use Rattle.cedar_gate_model.specs.ReadingForms.{first_form, alone, if_passing, read_as}
use Rattle.cedar_gate_model.specs.ReadingName.{any_name_read, declared_uid_read}
use Rattle.std.specs.Option.{option_or}
use Rattle.std.specs.Map.{lookup}
use Rattle.cedar_expr_model.specs.Lists.{when, is_nil}
use Rattle.serde_json.specs.Find.{as_str}

-- The one value in an object: its JSON; the type that it is read as, if it is one; and, if it is an object of types, its fields.
pub record TypePart : Type 0 where
  pub json : Data
  pub type : Option TypeExpr
  pub fields : Option FieldExprs

-- The keys that such an object may have, and what each reads.
abbrev pub type_forms : List (Text × (TypePart → Option TypeExpr))
type_forms = (codes "set", λ x. option_map set_expr x.type) ∷ (codes "record", λ x. option_map record_expr x.fields)
    ∷ (codes "entity", λ x. option_map (reference to_entity) (any_name_read x.json))
    ∷ (codes "common", λ x. option_map (reference to_common) (any_name_read x.json))
    ∷ (codes "ext", λ x. option_map extension_expr (any_name_read x.json)) ∷ []

-- A type: a word, or an object with one key.
abbrev mutual
  pub type_read : Data → Option TypeExpr
  type_read (string s) = lookup (bytes_eq s) ((codes "Bool", bool_expr) ∷ (codes "Long", long_expr) ∷ (codes "String", string_expr) ∷ [])
  type_read (object ms) = type_in ms
  type_read d = None

  pub type_in : Members → Option TypeExpr
  type_in (member k d no_members) = given (lookup (bytes_eq k) type_forms) (λ form. form (record { json = d; type = type_read d; fields = attributes_read d }))
  type_in ms = None

  -- an object of types, each alone, which is required, or marked as optional
  pub attributes_read : Data → Option FieldExprs
  attributes_read (object ms) = attributes_in ms
  attributes_read d = None

  pub attributes_in : Members → Option FieldExprs
  attributes_in no_members = Some no_field_exprs
  attributes_in (member k d ms) =
      given (option_or (option_map (λ t. field_expr k t true) (type_read d)) (option_map (λ t. field_expr k t false) (marked_read d))) (λ f. option_map f (attributes_in ms))

  -- a type that is marked as optional
  pub marked_read : Data → Option TypeExpr
  marked_read (object ms) = marked_in ms
  marked_read d = None

  pub marked_in : Members → Option TypeExpr
  marked_in (member k d no_members) = when (bytes_eq k (codes "optional")) (type_read d)
  marked_in ms = None

-- a common type, whose key is one identifier
abbrev pub common_read : Namespace → Text → Data → Option CommonDeclaration
common_read ns word d = when (is_identifier word) (option_map (λ t. record { namespace = ns; word = word; definition = t }) (type_read d))

-- An entity type without its name: parents, and the kind.
abbrev pub standard_read : Data → Option (List Name × KindExpr)
standard_read d =
    when (has_only (codes "parents" ∷ codes "attrs" ∷ codes "tags" ∷ []) d)
    (given (optional (codes "parents") (list_of any_name_read) [] d) (λ parents.
    given (optional (codes "attrs") attributes_read no_field_exprs d) (λ attributes.
    option_map (λ tags. (parents, standard_expr attributes tags)) (optional (codes "tags") (read_as Some type_read) None d))))

-- one id or more, which may be repeated
abbrev pub enumerated_read : Data → Option (List Name × KindExpr)
enumerated_read d = option_map (λ ids. ([], enumerated_expr ids)) (alone (codes "enum") (λ e. given (list_of as_str e) (if_passing (λ ids. not (is_nil ids)))) d)

abbrev pub kind_read : Data → Option (List Name × KindExpr)
kind_read d = first_form (standard_read ∷ enumerated_read ∷ alone (codes "external") (read_as (λ parents. (parents, external_expr)) (list_of any_name_read)) ∷ []) d

-- an entity type, whose key is one identifier
abbrev pub entity_type_read : Namespace → Text → Data → Option EntityDeclaration
entity_type_read ns word d = when (is_identifier word) (option_map (λ k. record { namespace = ns; word = word; parents = k.0; kind = k.1 }) (kind_read d))

-- an action, whose id is any text
abbrev pub action_read : Namespace → Text → Data → Option ActionDeclaration
action_read ns id d =
    when (has_only (codes "in" ∷ codes "principals" ∷ codes "resources" ∷ codes "context" ∷ []) d)
    (given (optional (codes "in") (list_of declared_uid_read) [] d) (λ parents.
    given (optional (codes "principals") (list_of any_name_read) [] d) (λ principals.
    given (optional (codes "resources") (list_of any_name_read) [] d) (λ resources.
    option_map (λ context. record { namespace = ns; id = id; parents = parents; principals = principals; resources = resources; context = context; is_external = false })
    (optional (codes "context") type_read (record_expr no_field_exprs) d)))))

-- the namespace that a key names; the empty text names the empty one
abbrev pub namespace_named : Text → Option Namespace
namespace_named [] = Some []
namespace_named (b ∷ bs) = option_map (λ n. n.path ++ n.base ∷ []) (name_read (b ∷ bs))

-- what is declared in a namespace
abbrev pub declared_in : Data → Namespace → Option Declarations
declared_in d ns =
    given (optional (codes "commonTypes") (members_of (common_read ns)) [] d) (λ commons.
    given (optional (codes "entityTypes") (members_of (entity_type_read ns)) [] d) (λ entities.
    option_map (λ actions. record { commons = commons; entities = entities; actions = actions })
    (optional (codes "actions") (members_of (action_read ns)) [] d)))

abbrev pub namespace_read : Text → Data → Option Declarations
namespace_read key d = when (has_only (codes "commonTypes" ∷ codes "entityTypes" ∷ codes "actions" ∷ []) d) (given (namespace_named key) (declared_in d))

-- a fragment, which is an object of namespaces
abbrev pub fragment_read : Data → Option Declarations
fragment_read d = option_map bag (members_of namespace_read d)

-- a schema, which is a list of fragments
abbrev pub schema_read : Data → Option Declarations
schema_read d = option_map bag (list_of fragment_read d)
