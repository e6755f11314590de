use Rattle.std.proofs.Common.{Some, option_map, ap, ◌∙◌}
use Rattle.cedar_expr_names.specs.Views.{type_name_of}
use Rattle.cedar_schema_model.specs.Conforming.{of_kind, attributes_at}
use Rattle.cedar_schema_model.specs.Kept.{KeptType}
use Rattle.cedar_schema_built.specs.Views.{schema_kept}
use Rattle.cedar_schema_sound.proofs.Kept.{kept_is_found}
use Rattle.cedar_schema_sound.proofs.schema_attributes.SchemaAttributesDeclaredAttributes.entity_attributes.Goals as goal

pub returns-in-Some : goal.returns-in-Some
returns-in-Some c =
    ap Some c.attributes.ensures
    ∙ ap (option_map (λ (t : KeptType). attributes_at (of_kind t.kind))) c.in-Some.ensures
    ∙ kept_is_found (schema_kept c.args.self.now.schema.now) (type_name_of c.args.ty.now)

pub returns-in-None : goal.returns-in-None
returns-in-None c = ap (option_map (λ (t : KeptType). attributes_at (of_kind t.kind))) c.in-None.ensures ∙ kept_is_found (schema_kept c.args.self.now.schema.now) (type_name_of c.args.ty.now)
