-- What declarations write, over what their names are: names as they are written, or what they may stand for, or what they mean.
-- Rule: declarations (docs/RULES.md).
use Rattle.std.specs.Prelude.{List, Bool, Option}
use Rattle.cedar_expr_model.specs.Name.{Text, Name}
use Rattle.cedar_schema_model.specs.Reference.{ReferenceKind}

-- A type. A reference tells what is due where it stands.
mutual
  pub data TypeForm (A : Type 0) : Type 0 where
    bool_form long_form string_form : TypeForm A
    set_form : TypeForm A → TypeForm A
    record_form : FieldForms A → TypeForm A
    reference_form : ReferenceKind → A → TypeForm A
    extension_form : Name → TypeForm A

  -- attributes, each with its type and whether it is required
  pub data FieldForms (A : Type 0) : Type 0 where
    no_field_forms : FieldForms A
    field_form : Text → TypeForm A → Bool → FieldForms A → FieldForms A

-- An entity type: standard, with the names of its parents, its attributes and, if it has tags, their type; or enumerated, with ids;
-- or declared elsewhere, with parents alone.
pub data EntityForm (A : Type 0) : Type 0 where
  standard_form : List A → FieldForms A → Option (TypeForm A) → EntityForm A
  enumerated_form : List Text → EntityForm A
  external_form : List A → EntityForm A

-- An action: its parents, each with the name of its type and its id, the names of its principal and resource types, and the type of
-- its context. One that is declared elsewhere has parents alone.
pub record ActionForm (A P : Type 0) : Type 0 where
  pub parents : List P
  pub principals : List A
  pub resources : List A
  pub context : TypeForm A
  pub is_external : Bool
