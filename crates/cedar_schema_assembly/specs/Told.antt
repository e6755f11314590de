-- The entity types and actions that declarations tell once their names are resolved.
-- Rule: schemas (docs/RULES.md).
use Rattle.std.specs.Prelude.{List, [], ◌∷◌, map, option_map, option_to_list}
use Rattle.cedar_expr_model.specs.Name.{Text, Name}
use Rattle.cedar_expr_model.specs.Uid.{Uid}
use Rattle.cedar_schema_model.specs.Resolved.{attributes_of_record}
use Rattle.cedar_schema_model.specs.Schema.{EntityKind, standard, enumerated, external, EntityType, Action, Schema}
use Rattle.cedar_schema_decl.specs.Forms.{TypeForm, record_form, EntityForm, standard_form, enumerated_form, external_form, ActionForm}
use Rattle.cedar_schema_fragments.specs.WrittenDeclarations.{parents_written, as_uid}
use Rattle.cedar_schema_resolver.specs.Meanings.{Setting, told, told_fields}

-- the kind of an entity type
abbrev pub kind_told : Setting → EntityForm Name → EntityKind
kind_told s (standard_form ps fs t) = standard (told_fields s fs) (option_map (told s) t)
kind_told s (enumerated_form ids) = enumerated ids
kind_told s (external_form ps) = external

-- an entity type under its name
abbrev pub entity_told : Setting → Name × EntityForm Name → EntityType
entity_told s e = record { name = e.0; parents = parents_written e.1; kind = kind_told s e.1 }

-- an action under its uid
abbrev pub action_told : Setting → Uid × ActionForm Name (Name × Text) → Action
action_told s a = record {
  uid = a.0;
  parents = map as_uid a.1.parents;
  principals = a.1.principals;
  resources = a.1.resources;
  context = attributes_of_record (told s a.1.context);
  is_external = a.1.is_external;
}

-- The schema that these tell.
abbrev pub schema_told : Setting → List (Name × EntityForm Name) → List (Uid × ActionForm Name (Name × Text)) → Schema
schema_told s es as_ = record { types = map (entity_told s) es; actions = map (action_told s) as_ }

-- the types that stand in an entity type: its attributes as a record, and that of its tags
abbrev pub types_in : EntityForm Name → List (TypeForm Name)
types_in (standard_form ps fs t) = record_form fs ∷ option_to_list t
types_in (enumerated_form ids) = []
types_in (external_form ps) = []
