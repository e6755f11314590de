-- What the code's types write, over what is seen of their names.
-- Rule: declarations (docs/RULES.md).
use Rattle.std.specs.Prelude.{List, [], ◌∷◌, Bool, map}
use Rattle.std.specs.declared.alloc.Global.{Global}
use Rattle.std.specs.declared.rc.RcStr.{RcStr}
use Rattle.cedar_expr_model.specs.Name.{Text}
use Rattle.cedar_expr_names.specs.Views.{name_of}
use Rattle.cedar_expr_values.specs.Fields.{by_text}
use Rattle.cedar_schema_model.specs.Reference.{to_entity, to_common, to_either}
use Rattle.cedar_schema_decl.specs.Forms.{TypeForm, bool_form, long_form, string_form, set_form, record_form, reference_form, extension_form, FieldForms, no_field_forms, field_form}
use Rattle.cedar_schema_decl.specs.declared.json_schema.Type.{«Type» as Written, Type-F, fold-Type}
use Rattle.cedar_schema_decl.specs.declared.json_schema.TypeVariant.{TypeVariant, TypeVariant-F, fold-TypeVariant}
use Rattle.cedar_schema_decl.specs.declared.json_schema.RecordType.{RecordType, RecordType-F, fold-RecordType}
use Rattle.cedar_schema_decl.specs.declared.json_schema.TypeOfAttribute.{TypeOfAttribute, TypeOfAttribute-F, fold-TypeOfAttribute}

-- attributes, each with its type and whether it is required
abbrev pub Rows : Type 0 → Type 0
Rows A = List (Text × (TypeForm A × Bool))

-- these attributes in a row
abbrev pub in_a_row : {A : Type 0} → Rows A → FieldForms A
in_a_row [] = no_field_forms
in_a_row (p ∷ ps) = field_form p.0 p.1.0 p.1.1 (in_a_row ps)

-- one level, with what stands inside already seen
abbrev pub variant_step : {N A : Type 0} → (N → A) → TypeVariant-F N (TypeForm A) (Rows A) (TypeForm A) (TypeForm A × Bool) → TypeForm A
variant_step f TypeVariant-F.String = string_form
variant_step f TypeVariant-F.Long = long_form
variant_step f TypeVariant-F.Boolean = bool_form
variant_step f (TypeVariant-F.Set t) = set_form t.value
variant_step f (TypeVariant-F.Record rows) = record_form (in_a_row rows)
variant_step f (TypeVariant-F.Entity n) = reference_form to_entity (f n)
variant_step f (TypeVariant-F.EntityOrCommon n) = reference_form to_either (f n)
variant_step f (TypeVariant-F.CommonTypeRef n) = reference_form to_common (f n)
variant_step f (TypeVariant-F.Extension n) = extension_form (name_of n)

abbrev pub record_step : {N A : Type 0} → RecordType-F N (TypeForm A) (Rows A) (TypeForm A) (TypeForm A × Bool) → Rows A
record_step r = map by_text r.attributes.entries

abbrev pub type_step : {N A : Type 0} → Type-F N (TypeForm A) (Rows A) (TypeForm A) (TypeForm A × Bool) → TypeForm A
type_step t = t.ty

abbrev pub attribute_step : {N A : Type 0} → TypeOfAttribute-F N (TypeForm A) (Rows A) (TypeForm A) (TypeForm A × Bool) → TypeForm A × Bool
attribute_step a = (a.ty, a.required)

-- What is written where a type is due; the attributes of a record; a type; and an attribute, with whether it is required.
abbrev pub variant_form : {N A : Type 0} → (N → A) → TypeVariant N → TypeForm A
variant_form {N} {A} f = fold-TypeVariant N (TypeForm A) (Rows A) (TypeForm A) (TypeForm A × Bool) (variant_step f) record_step type_step attribute_step

abbrev pub record_rows : {N A : Type 0} → (N → A) → RecordType N → Rows A
record_rows {N} {A} f = fold-RecordType N (TypeForm A) (Rows A) (TypeForm A) (TypeForm A × Bool) (variant_step f) record_step type_step attribute_step

abbrev pub type_form : {N A : Type 0} → (N → A) → Written N → TypeForm A
type_form {N} {A} f = fold-Type N (TypeForm A) (Rows A) (TypeForm A) (TypeForm A × Bool) (variant_step f) record_step type_step attribute_step

abbrev pub attribute_form : {N A : Type 0} → (N → A) → TypeOfAttribute N → TypeForm A × Bool
attribute_form {N} {A} f = fold-TypeOfAttribute N (TypeForm A) (Rows A) (TypeForm A) (TypeForm A × Bool) (variant_step f) record_step type_step attribute_step

-- the attributes of a record
abbrev pub record_fields : {N A : Type 0} → (N → A) → RecordType N → FieldForms A
record_fields f r = in_a_row (record_rows f r)

-- attributes by their names
abbrev pub attribute_rows : {N A : Type 0} → (N → A) → List (RcStr Global × TypeOfAttribute N) → Rows A
attribute_rows f es = map (λ e. by_text (e.0, attribute_form f e.1)) es
