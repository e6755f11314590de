-- Other names in the place of those of a tree: what comes out, or the first refusal.
-- Rule: references (docs/RULES.md).
use Rattle.std.specs.Prelude.{List, [], ◌∷◌, Bool, Option, Some, None}
use Rattle.std.specs.declared.result.Result.{Result}
use Rattle.std.specs.declared.result.Result.TheVariants.{Ok, Err}
use Rattle.cedar_expr_model.specs.Name.{Name}
use Rattle.cedar_schema_model.specs.Reference.{ReferenceKind, to_entity}
use Rattle.cedar_schema_decl.specs.Conditional.{Conditional, qualifying}
use Rattle.cedar_schema_decl.specs.Forms.{TypeForm, bool_form, long_form, string_form, set_form, record_form, reference_form, extension_form, FieldForms, no_field_forms, field_form, EntityForm, standard_form, enumerated_form, external_form}

-- what comes after, where the first was made
abbrev pub and_then : {A B R : Type 0} → (A → Result B R) → Result A R → Result B R
and_then f (Ok x) = f x
and_then f (Err r) = Err r

-- of a type, what is due given with each name
abbrev mutual
  pub requalified : {A B R : Type 0} → (ReferenceKind → A → Result B R) → TypeForm A → Result (TypeForm B) R
  requalified f bool_form = Ok bool_form
  requalified f long_form = Ok long_form
  requalified f string_form = Ok string_form
  requalified f (set_form t) = and_then (λ u. Ok (set_form u)) (requalified f t)
  requalified f (record_form fs) = and_then (λ gs. Ok (record_form gs)) (requalified_fields f fs)
  requalified f (reference_form k a) = and_then (λ b. Ok (reference_form k b)) (f k a)
  requalified f (extension_form n) = Ok (extension_form n)

  pub requalified_fields : {A B R : Type 0} → (ReferenceKind → A → Result B R) → FieldForms A → Result (FieldForms B) R
  requalified_fields f no_field_forms = Ok no_field_forms
  requalified_fields f (field_form a t r fs) = and_then (λ u. and_then (λ gs. Ok (field_form a u r gs)) (requalified_fields f fs)) (requalified f t)

-- of a type that is written in a namespace, what each name may stand for
abbrev pub qualified_in : Option Name → TypeForm Name → Result (TypeForm Conditional) Conditional
qualified_in space t = requalified (qualifying space) t

-- of an attribute, with whether it is required
abbrev pub requalified_attribute : {A B R : Type 0} → (ReferenceKind → A → Result B R) → TypeForm A × Bool → Result (TypeForm B × Bool) R
requalified_attribute f p = and_then (λ u. Ok (u, p.1)) (requalified f p.0)

-- of what stands under a name
abbrev pub under_name : {K A B R : Type 0} → (A → Result B R) → K × A → Result (K × B) R
under_name f p = and_then (λ y. Ok (p.0, y)) (f p.1)

-- of each of these
abbrev pub each : {A B R : Type 0} → (A → Result B R) → List A → Result (List B) R
each f [] = Ok []
each f (x ∷ xs) = and_then (λ y. and_then (λ ys. Ok (y ∷ ys)) (each f xs)) (f x)

-- of what may lack
abbrev pub where_there : {A B R : Type 0} → (A → Result B R) → Option A → Result (Option B) R
where_there f None = Ok None
where_there f (Some x) = and_then (λ y. Ok (Some y)) (f x)

-- of an entity type
abbrev pub requalified_entity : {A B R : Type 0} → (ReferenceKind → A → Result B R) → EntityForm A → Result (EntityForm B) R
requalified_entity f (standard_form ps fs t) = and_then (λ qs. and_then (λ gs. and_then (λ u. Ok (standard_form qs gs u)) (where_there (requalified f) t)) (requalified_fields f fs)) (each (f to_entity) ps)
requalified_entity f (enumerated_form ids) = Ok (enumerated_form ids)
requalified_entity f (external_form ps) = and_then (λ qs. Ok (external_form qs)) (each (f to_entity) ps)
