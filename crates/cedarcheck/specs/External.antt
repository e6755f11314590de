-- Which declarations are external, as they are written.
-- Rule: external declarations (docs/RULES.md).
use Rattle.std.specs.Prelude.{◌||◌, Bool}
use Rattle.std.specs.BTreeMap.{values}
use Rattle.std.specs.List.{list_any}
use Rattle.cedar_expr_leaves.specs.Views.{raw_name_of}
use Rattle.cedar_expr_leaves.specs.declared.raw_name.RawName.{RawName}
use Rattle.cedar_schema_decl.specs.declared.json_schema.ActionType.{ActionType}
use Rattle.cedar_schema_decl.specs.declared.json_schema.EntityType.{EntityType}
use Rattle.cedar_schema_decl.specs.declared.json_schema.Fragment.{Fragment}
use Rattle.cedar_schema_decl.specs.declared.json_schema.NamespaceDefinition.{NamespaceDefinition}
use Rattle.cedar_schema_fragments.specs.Written.{kind_form, is_written_elsewhere}
use Rattle.cedar_schema_fragments.specs.WrittenDeclarations.{kind_written}
use Rattle.cedar_schema_model.specs.WellFormed.{is_external_kind}

abbrev pub is_external_type : EntityType RawName → Bool
is_external_type t = is_external_kind (kind_written (kind_form raw_name_of t.kind))

abbrev pub is_external_action : ActionType RawName → Bool
is_external_action a = is_written_elsewhere a.kind

-- something in a namespace is external, and in a fragment
abbrev pub has_external : NamespaceDefinition RawName → Bool
has_external n = list_any is_external_type (values n.entity_types) || list_any is_external_action (values n.actions)

abbrev pub has_external_in : Fragment RawName → Bool
has_external_in f = list_any has_external (values f.0)
