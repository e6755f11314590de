-- What the code's types are as the model's, and the forms in which they are read.
-- Rule: what a bundle reads as; declarations (docs/RULES.md).
use Rattle.std.specs.Prelude.{Bool, true, false, [], ◌∷◌, codes, if◌then◌else◌, Option, Some, None, option_map, ◌≡◌, List}
use Rattle.std.specs.BTreeMap.{insert_entry}
use Rattle.std.specs.Cmp.Lexicographic.{slice_cmp}
use Rattle.std.specs.Option.{option_or}
use Rattle.std.specs.Map.{lookup}
use Rattle.std.specs.Ordering.{nat_cmp}
use Rattle.std.specs.Rc.{rc_str_bytes}
use Rattle.std.specs.Str.{bytes_eq}
use Rattle.std.specs.declared.alloc.Global.{Global}
use Rattle.std.specs.declared.rc.RcStr.{RcStr}
use Rattle.serde_json.specs.Data.{Data, null, boolean, number, string, array, object, Members, no_members, member}
use Rattle.cedar_expr_model.specs.Name.{Text}
use Rattle.cedar_expr_leaves.specs.Views.{raw_name_of}
use Rattle.cedar_expr_leaves.specs.declared.raw_name.RawName.{RawName}
use Rattle.cedar_schema_model.specs.Reference.{to_entity, to_common}
use Rattle.cedar_schema_model.specs.Declarations.{TypeExpr, bool_expr, long_expr, string_expr, set_expr, record_expr, reference, extension_expr, FieldExprs}
use Rattle.cedar_schema_decl.specs.Laws.{as_expr, as_exprs}
use Rattle.cedar_schema_decl.specs.Trees.{type_form, variant_form, record_fields, attribute_form}
use Rattle.cedar_schema_decl.specs.declared.json_schema.Type.{«Type» as Written}
use Rattle.cedar_schema_decl.specs.declared.json_schema.TypeVariant.{TypeVariant}
use Rattle.cedar_schema_decl.specs.declared.json_schema.RecordType.{RecordType}
use Rattle.cedar_schema_decl.specs.declared.json_schema.TypeOfAttribute.{TypeOfAttribute}
use Rattle.cedar_gate_model.specs.Reading.{given}
use Rattle.cedar_gate_model.specs.ReadingName.{any_name_read}
use Rattle.cedar_gate_model.specs.ReadingSchema.{TypePart, type_forms, type_read, attributes_read, marked_read}
use Rattle.cedar_gate_fragments.specs.declared.types.Leaf.{Leaf}
use Rattle.cedar_gate_fragments.specs.declared.types.Leaf.TheVariants.{Entity, Common, Extension}
use Rattle.cedar_gate_fragments.specs.declared.types.Form.{Form}
use Rattle.cedar_gate_fragments.specs.declared.types.Form.TheVariants.{Set, Record, OfLeaf}

-- the written type, what is written there, the attributes of a record, and an attribute with whether it is required
abbrev pub type_seen : Written RawName → TypeExpr
type_seen t = as_expr (type_form raw_name_of t)

abbrev pub variant_seen : TypeVariant RawName → TypeExpr
variant_seen t = as_expr (variant_form raw_name_of t)

abbrev pub fields_seen : RecordType RawName → FieldExprs
fields_seen r = as_exprs (record_fields raw_name_of r)

abbrev pub seen_attribute : {A : Type 0} → (A → TypeExpr) → A × Bool → TypeExpr × Bool
seen_attribute f a = (f a.0, a.1)

abbrev pub attribute_seen : TypeOfAttribute RawName → TypeExpr × Bool
attribute_seen a = seen_attribute as_expr (attribute_form raw_name_of a)

-- a type by its name
abbrev pub leaf_read : Leaf → Data → Option TypeExpr
leaf_read Entity d = option_map (reference to_entity) (any_name_read d)
leaf_read Common d = option_map (reference to_common) (any_name_read d)
leaf_read Extension d = option_map extension_expr (any_name_read d)

abbrev pub form_of : Form → TypePart → Option TypeExpr
form_of Set = λ x. option_map set_expr x.type
form_of Record = λ x. option_map record_expr x.fields
form_of (OfLeaf Entity) = λ x. option_map (reference to_entity) (any_name_read x.json)
form_of (OfLeaf Common) = λ x. option_map (reference to_common) (any_name_read x.json)
form_of (OfLeaf Extension) = λ x. option_map extension_expr (any_name_read x.json)

-- what stands at the one key
abbrev pub type_part : Data → TypePart
type_part d = record { json = d; type = type_read d; fields = attributes_read d }

abbrev pub word_read : Text → Option TypeExpr
word_read s = lookup (bytes_eq s) ((codes "Bool", bool_expr) ∷ (codes "Long", long_expr) ∷ (codes "String", string_expr) ∷ [])

-- an attribute: required, or marked as optional
abbrev pub required_type : TypeExpr → TypeExpr × Bool
required_type t = (t, true)

abbrev pub optional_type : TypeExpr → TypeExpr × Bool
optional_type t = (t, false)

abbrev pub attribute_read : Data → Option (TypeExpr × Bool)
attribute_read d = option_or (option_map required_type (type_read d)) (option_map optional_type (marked_read d))

abbrev pub attribute_in : Members → Option (TypeExpr × Bool)
attribute_in ms = attribute_read (object ms)

-- To the attributes, by their names, one is added under this name.
abbrev pub AddsNamed : {A : Type 0} → Text → A → List (RcStr Global × A) → List (RcStr Global × A) → Type 0
AddsNamed {A} name a old new = (k : RcStr Global) × (rc_str_bytes k ≡ name) × (new ≡ insert_entry (λ s t. slice_cmp nat_cmp (rc_str_bytes s) (rc_str_bytes t)) old k a)
