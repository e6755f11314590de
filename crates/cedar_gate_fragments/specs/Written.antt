-- What the code's declarations are as the model's; and what is read in a namespace, apart from its name.
-- Rule: what a bundle reads as; declarations (docs/RULES.md).
use Rattle.std.specs.Prelude.{◌≡◌, List, [], ◌∷◌, ◌++◌, map, not, Bool, false, codes, Option, Some, option_map}
use Rattle.std.specs.List.{flat_map}
use Rattle.std.specs.Rc.{rc_str_bytes}
use Rattle.std.specs.declared.alloc.Global.{Global}
use Rattle.std.specs.declared.rc.RcStr.{RcStr}
use Rattle.serde_json.specs.Data.{Data}
use Rattle.serde_json.specs.Find.{as_str}
use Rattle.cedar_expr_leaves.specs.declared.non_empty.NonEmpty.{NonEmpty}
use Rattle.cedar_expr_model.specs.Name.{Text, Name}
use Rattle.cedar_expr_model.specs.Uid.{Uid}
use Rattle.cedar_expr_model.specs.Lists.{when, is_nil}
use Rattle.cedar_expr_names.specs.Views.{name_of}
use Rattle.cedar_expr_names.specs.declared.internal_name.InternalName.{InternalName}
use Rattle.cedar_expr_leaves.specs.Views.{raw_name_of}
use Rattle.cedar_expr_leaves.specs.declared.raw_name.RawName.{RawName}
use Rattle.cedar_schema_model.specs.Reference.{Namespace}
use Rattle.cedar_schema_model.specs.Declarations.{TypeExpr, record_expr, no_field_exprs, KindExpr, CommonDeclaration, EntityDeclaration, ActionDeclaration, Declarations}
use Rattle.cedar_schema_decl.specs.Laws.{as_expr, namespace_parts}
use Rattle.cedar_schema_decl.specs.declared.json_schema.ActionEntityUID.{ActionEntityUID}
use Rattle.cedar_schema_decl.specs.declared.json_schema.ActionType.{ActionType}
use Rattle.cedar_schema_decl.specs.declared.json_schema.EntityTypeKind.{EntityTypeKind}
use Rattle.cedar_schema_decl.specs.declared.json_schema.Fragment.{Fragment}
use Rattle.cedar_schema_decl.specs.declared.json_schema.NamespaceDefinition.{NamespaceDefinition}
use Rattle.cedar_schema_fragments.specs.Actions.{parent_form}
use Rattle.cedar_schema_fragments.specs.Written.{kind_form, principals_written, resources_written, context_written, is_written_elsewhere, written_fragment}
use Rattle.cedar_schema_fragments.specs.WrittenDeclarations.{parents_written, kind_written, as_uid, declarations_of}
use Rattle.cedar_gate_model.specs.Reading.{given, optional, has_only, list_of, members_of}
use Rattle.cedar_gate_model.specs.ReadingForms.{if_passing}
use Rattle.cedar_gate_model.specs.ReadingName.{any_name_read, declared_uid_read}
use Rattle.cedar_gate_model.specs.ReadingSchema.{type_read, kind_read}
use Rattle.cedar_gate_expressions.specs.Maps.{under_text, under_word, texts_seen, words_seen}
use Rattle.cedar_gate_fragments.specs.Types.{type_seen}

-- an entity type: its parents, and its kind
abbrev pub kind_seen : EntityTypeKind RawName → List Name × KindExpr
kind_seen k = (parents_written (kind_form raw_name_of k), kind_written (kind_form raw_name_of k))

-- the ids of an enumerated type, one or more
abbrev pub ids_read : Data → Option (List Text)
ids_read e = given (list_of as_str e) (if_passing (λ ids. not (is_nil ids)))

abbrev pub ids_seen : NonEmpty (RcStr Global) → List Text
ids_seen ids = rc_str_bytes ids.head ∷ map rc_str_bytes ids.tail.items

-- an action, apart from its namespace and its id
pub record ActionBody : Type 0 where
  pub parents : List Uid
  pub principals : List Name
  pub resources : List Name
  pub context : TypeExpr
  pub is_external : Bool

abbrev pub action_body_read : Data → Option ActionBody
action_body_read d =
    when (has_only (codes "in" ∷ codes "principals" ∷ codes "resources" ∷ codes "context" ∷ []) d)
    (given (optional (codes "in") (list_of declared_uid_read) [] d) (λ parents.
    given (optional (codes "principals") (list_of any_name_read) [] d) (λ principals.
    given (optional (codes "resources") (list_of any_name_read) [] d) (λ resources.
    option_map (λ context. record { parents = parents; principals = principals; resources = resources; context = context; is_external = false })
    (optional (codes "context") type_read (record_expr no_field_exprs) d)))))

abbrev pub parent_seen : ActionEntityUID RawName → Uid
parent_seen p = as_uid (parent_form raw_name_of p)

abbrev pub action_seen : ActionType RawName → ActionBody
action_seen a = record {
  parents = map parent_seen a.member_of.items;
  principals = principals_written raw_name_of a.kind;
  resources = resources_written raw_name_of a.kind;
  context = as_expr (context_written raw_name_of a.kind);
  is_external = is_written_elsewhere a.kind;
}

-- what is declared in a namespace, apart from its name
pub record Definition : Type 0 where
  pub commons : List (Text × TypeExpr)
  pub entities : List (Text × (List Name × KindExpr))
  pub actions : List (Text × ActionBody)

abbrev pub definition_read : Data → Option Definition
definition_read d =
    given (optional (codes "commonTypes") (members_of (under_word type_read)) [] d) (λ commons.
    given (optional (codes "entityTypes") (members_of (under_word kind_read)) [] d) (λ entities.
    option_map (λ actions. record { commons = commons; entities = entities; actions = actions })
    (optional (codes "actions") (members_of (under_text action_body_read)) [] d)))

abbrev pub definition_seen : NamespaceDefinition RawName → Definition
definition_seen n = record {
  commons = words_seen (λ c. type_seen c.ty) n.common_types.entries;
  entities = words_seen (λ t. kind_seen t.kind) n.entity_types.entries;
  actions = texts_seen action_seen n.actions.entries;
}

-- the name of a namespace
abbrev pub space_seen : Option InternalName → Namespace
space_seen n = namespace_parts (option_map name_of n)

-- a common type, an entity type and an action as they are declared in a namespace
abbrev pub common_at : Namespace → Text × TypeExpr → CommonDeclaration
common_at ns c = record { namespace = ns; word = c.0; definition = c.1 }

abbrev pub entity_at : Namespace → Text × (List Name × KindExpr) → EntityDeclaration
entity_at ns t = record { namespace = ns; word = t.0; parents = t.1.0; kind = t.1.1 }

abbrev pub action_at : Namespace → Text × ActionBody → ActionDeclaration
action_at ns a = record { namespace = ns; id = a.0; parents = a.1.parents; principals = a.1.principals; resources = a.1.resources; context = a.1.context; is_external = a.1.is_external }

abbrev pub declared_at : Namespace → Definition → Declarations
declared_at ns n = record { commons = map (common_at ns) n.commons; entities = map (entity_at ns) n.entities; actions = map (action_at ns) n.actions }

-- what a fragment declares, and what several do
abbrev pub declared_in_fragment : Fragment RawName → Declarations
declared_in_fragment f = declarations_of (written_fragment f)

abbrev pub declared_by : List (Fragment RawName) → Declarations
declared_by fs = declarations_of (flat_map written_fragment fs)

-- two of them together
abbrev pub joined : Declarations → Declarations → Declarations
joined a b = record { commons = a.commons ++ b.commons; entities = a.entities ++ b.entities; actions = a.actions ++ b.actions }

-- To what the fragments declare this is joined, if it is read.
abbrev pub AddsDeclared : List (Fragment RawName) → List (Fragment RawName) → Option Declarations → Type 0
AddsDeclared old new d = option_map (joined (declared_by old)) d ≡ Some (declared_by new)
