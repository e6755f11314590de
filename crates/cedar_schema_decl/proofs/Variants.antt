-- What a type writes, form by form.
use denote.Hole.Carrier
use Rattle.std.proofs.Common.{◌≡◌, Bool}
use Rattle.cedar_expr_names.specs.Views.{name_of}
use Rattle.cedar_expr_names.specs.declared.internal_name.InternalName.{InternalName}
use Rattle.cedar_schema_model.specs.Reference.{to_entity, to_common, to_either}
use Rattle.cedar_schema_decl.specs.Forms.{TypeForm, bool_form, long_form, string_form, reference_form, extension_form}
use Rattle.cedar_schema_decl.specs.Trees.{Rows, variant_step, record_step, type_step, attribute_step, variant_form}
use Rattle.cedar_schema_decl.specs.declared.json_schema.TypeVariant.{String, Long, Boolean, Entity, EntityOrCommon, CommonTypeRef, Extension}
use Rattle.cedar_schema_decl.specs.declared.json_schema.TypeVariant.{out-TypeVariant, fold_out-TypeVariant}

module _ {N A : Type 0} (f : N → A) where
  pub string_is : variant_form f String ≡ string_form
  unfolding out-TypeVariant Carrier.out
  string_is =
      fold_out-TypeVariant N (TypeForm A) (Rows A) (TypeForm A) (TypeForm A × Bool) (variant_step f) record_step type_step attribute_step String

  pub long_is : variant_form f Long ≡ long_form
  unfolding out-TypeVariant Carrier.out
  long_is =
      fold_out-TypeVariant N (TypeForm A) (Rows A) (TypeForm A) (TypeForm A × Bool) (variant_step f) record_step type_step attribute_step Long

  pub boolean_is : variant_form f Boolean ≡ bool_form
  unfolding out-TypeVariant Carrier.out
  boolean_is =
      fold_out-TypeVariant N (TypeForm A) (Rows A) (TypeForm A) (TypeForm A × Bool) (variant_step f) record_step type_step attribute_step Boolean

  pub entity_is : (n : N) → variant_form f (Entity n) ≡ reference_form to_entity (f n)
  unfolding out-TypeVariant Carrier.out
  entity_is n =
      fold_out-TypeVariant N (TypeForm A) (Rows A) (TypeForm A) (TypeForm A × Bool) (variant_step f) record_step type_step attribute_step (Entity n)

  pub either_is : (n : N) → variant_form f (EntityOrCommon n) ≡ reference_form to_either (f n)
  unfolding out-TypeVariant Carrier.out
  either_is n =
      fold_out-TypeVariant N (TypeForm A) (Rows A) (TypeForm A) (TypeForm A × Bool) (variant_step f) record_step type_step attribute_step (EntityOrCommon n)

  pub common_is : (n : N) → variant_form f (CommonTypeRef n) ≡ reference_form to_common (f n)
  unfolding out-TypeVariant Carrier.out
  common_is n =
      fold_out-TypeVariant N (TypeForm A) (Rows A) (TypeForm A) (TypeForm A × Bool) (variant_step f) record_step type_step attribute_step (CommonTypeRef n)

  pub extension_is : (n : InternalName) → variant_form f (Extension n) ≡ extension_form (name_of n)
  unfolding out-TypeVariant Carrier.out
  extension_is n =
      fold_out-TypeVariant N (TypeForm A) (Rows A) (TypeForm A) (TypeForm A × Bool) (variant_step f) record_step type_step attribute_step (Extension n)
