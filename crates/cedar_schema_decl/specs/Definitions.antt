-- What declarations that stand under their full names write, over what is seen of their names.
-- Rule: declarations (docs/RULES.md).
use Rattle.std.specs.Prelude.{List, ◌∷◌, Option, map, option_map}
use Rattle.std.specs.Rc.{rc_str_bytes}
use Rattle.cedar_expr_model.specs.Name.{Text, Name}
use Rattle.cedar_expr_names.specs.Views.{name_of}
use Rattle.cedar_schema_decl.specs.Forms.{TypeForm, EntityForm, standard_form, enumerated_form, external_form}
use Rattle.cedar_schema_decl.specs.Trees.{type_form, record_fields}
use Rattle.cedar_schema_decl.specs.declared.json_schema.CommonType.{CommonType}
use Rattle.cedar_schema_decl.specs.declared.json_schema.RecordType.{RecordType}
use Rattle.cedar_schema_decl.specs.declared.json_schema.Type.{«Type» as Written}
use Rattle.cedar_schema_decl.specs.declared.definitions.CommonTypeDefs.{CommonTypeDefs}
use Rattle.cedar_schema_decl.specs.declared.definitions.EntityTypesDef.{EntityTypesDef}
use Rattle.cedar_schema_decl.specs.declared.definitions.EntityTypeFragment.{EntityTypeFragment}
use Rattle.cedar_schema_decl.specs.declared.definitions.EntityTypeFragment.TheVariants.{Standard, Enum, External}

-- a common type, and those that stand under names
abbrev pub common_form : {N A : Type 0} → (N → A) → CommonType N → TypeForm A
common_form f c = type_form f c.ty

abbrev pub commons_form : {N A : Type 0} → (N → A) → CommonTypeDefs N → List (Name × TypeForm A)
commons_form f d = map (λ e. (name_of e.0, common_form f e.1)) d.defs.items

-- a standard entity type of these parents, attributes and tags
abbrev pub standard_written : {N A : Type 0} → (N → A) → List N → RecordType N → Option (Written N) → EntityForm A
standard_written f ps fs t = standard_form (map f ps) (record_fields f fs) (option_map (type_form f) t)

-- an entity type, and those that stand under names
abbrev pub entity_form : {N A : Type 0} → (N → A) → EntityTypeFragment N → EntityForm A
entity_form f (Standard fs ps t) = standard_written f ps.items fs t
entity_form f (Enum ids) = enumerated_form (rc_str_bytes ids.head ∷ map rc_str_bytes ids.tail.items)
entity_form f (External ps) = external_form (map f ps.items)

abbrev pub entities_form : {N A : Type 0} → (N → A) → EntityTypesDef N → List (Name × EntityForm A)
entities_form f d = map (λ e. (name_of e.0, entity_form f e.1)) d.defs.items
