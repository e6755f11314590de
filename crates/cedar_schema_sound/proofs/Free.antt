-- No name in a built schema is reserved: names of the code aren't.
use Rattle.std.proofs.Common.{◌≡◌, ◌&&◌, List, [], ◌∷◌, true, not, Option, Some, None, option_map, refl, sym, ap, ◌∙◌}
use Rattle.std.specs.Prelude.{is_none}
use Rattle.std.specs.List.{list_all}
use Rattle.cedar_expr_model.specs.Name.{Name, is_reserved}
use Rattle.cedar_expr_model.proofs.Lists.{hold_both}
use Rattle.cedar_expr_names.specs.declared.entity.EntityType.{EntityType}
use Rattle.cedar_expr_names.specs.declared.entity.EntityUID.{EntityUID}
use Rattle.cedar_schema_entries.specs.declared.entity_type.ValidatorEntityType.{ValidatorEntityType}
use Rattle.cedar_schema_entries.specs.declared.action.ValidatorActionId.{ValidatorActionId}
use Rattle.cedar_schema_model.specs.Kept.{KeptType, KeptAction}
use Rattle.cedar_schema_built.specs.Entries.{types_in, actions_in}
use Rattle.cedar_schema_built.specs.Views.{schema_kept}
use Rattle.cedar_schema_built.specs.declared.schema.ValidatorSchema.{ValidatorSchema}
use Rattle.cedar_schema_model.specs.Unsound.{first_fault, names_are_free, is_sound}
use Rattle.cedar_schema_sound.specs.Views.{fault_seen}
use Rattle.cedar_schema_sound.specs.declared.unsound.Unsound.{Unsound}

types_are_free : (es : List (EntityType × ValidatorEntityType)) → list_all (λ (t : KeptType). not (is_reserved t.name)) (types_in es) ≡ true
types_are_free [] = refl
types_are_free (e ∷ es) = hold_both _ _ (ap not e.1.name.0.unreserved) (types_are_free es)

actions_are_free : (es : List (EntityUID × ValidatorActionId)) → list_all (λ (a : KeptAction). not (is_reserved a.uid.kind)) (actions_in es) ≡ true
actions_are_free [] = refl
actions_are_free (e ∷ es) = hold_both _ _ (ap not e.1.name.entity_type.0.unreserved) (actions_are_free es)

schema_is_free : (s : ValidatorSchema) → names_are_free (schema_kept s) ≡ true
schema_is_free s = hold_both _ _ (types_are_free s.entity_types.entries) (actions_are_free s.action_ids.entries)

none_alike : (o : Option Unsound) → is_none o ≡ is_none (option_map fault_seen o)
none_alike None = refl
none_alike (Some u) = refl

-- nothing is found exactly where the schema is what it has to be
pub none_is_sound : (x : List Name) (s : ValidatorSchema) (o : Option Unsound) → option_map fault_seen o ≡ first_fault x (schema_kept s) → is_none o ≡ is_sound x (schema_kept s)
none_is_sound x s o h = none_alike o ∙ ap is_none h ∙ ap (λ b. b && is_none (first_fault x (schema_kept s))) (sym (schema_is_free s))
