-- What comes of a type with resolved names: the type that it tells, or the first refusal.
-- Rule: schemas; well-formed declarations (docs/RULES.md).
use Rattle.std.specs.Prelude.{◌≡◌, List, Bool, Option, Some, None, find, if◌then◌else◌}
use Rattle.std.specs.List.{list_any}
use Rattle.std.specs.declared.result.Result.{Result}
use Rattle.std.specs.declared.result.Result.TheVariants.{Ok, Err}
use Rattle.cedar_expr_model.specs.Name.{Name, name_eq, is_reserved}
use Rattle.cedar_expr_names.specs.Views.{name_of, plain_name_of, refused_name_of}
use Rattle.cedar_schema_model.specs.Types.{Ty, never, bool_type, any_bool, long_type, string_type, set_type, record_type, entity_type, extension_type, is_closed, Attributes, no_attributes, Declared}
use Rattle.cedar_schema_model.specs.Resolved.{with_attribute}
use Rattle.cedar_schema_model.specs.Reference.{Meant, meant_common, meant_entity, meant_at}
use Rattle.cedar_schema_decl.specs.Defined.{is_defined}
use Rattle.cedar_schema_decl.specs.Forms.{TypeForm, bool_form, long_form, string_form, set_form, record_form, reference_form, extension_form, FieldForms, no_field_forms, field_form}
use Rattle.cedar_schema_decl.specs.Requalified.{and_then}
use Rattle.cedar_schema_resolver.specs.Meanings.{Setting}
use Rattle.cedar_schema_resolver.specs.declared.err.ResolveError.{ResolveError}
use Rattle.cedar_schema_resolver.specs.declared.err.ResolveError.TheVariants.{OutOfMemory, UnknownExtensionType, ReservedName, DuplicateCommonType, CycleInCommonTypeReferences}

-- Why there is no type: an extension type that isn't known, a reserved name, a common type that is declared twice or uses itself.
pub data Refusal : Type 0 where
  unknown_extension reserved_type repeated_common common_on_cycle : Name → Refusal

-- what is refused. Out of memory tells nothing.
abbrev pub refusal : ResolveError → Option Refusal
refusal OutOfMemory = None
refusal (UnknownExtensionType n) = Some (unknown_extension (plain_name_of n))
refusal (ReservedName e) = Some (reserved_type (refused_name_of e))
refusal (DuplicateCommonType n) = Some (repeated_common (name_of n))
refusal (CycleInCommonTypeReferences n) = Some (common_on_cycle (name_of n))

-- The refusal that the error tells is the outcome.
abbrev pub Refuses : {B : Type 0} → Result B Refusal → ResolveError → Type 0
Refuses o e = (r : Refusal) → refusal e ≡ Some r → o ≡ Err r

-- a name where no reserved one may stand
abbrev pub unreserved : Name → Result Name Refusal
unreserved n = if is_reserved n then Err (reserved_type n) else Ok n

-- the type of the entities of an entity type
abbrev pub entity_outcome : Name → Result Ty Refusal
entity_outcome n = and_then (λ m. Ok (entity_type m)) (unreserved n)

-- an extension type, which has to be one of these
abbrev pub extension_among : List Name → Name → Result Ty Refusal
extension_among x n = if list_any (name_eq n) x then Ok (extension_type n) else Err (unknown_extension n)

abbrev pub extension_outcome : List Name → Name → Result Ty Refusal
extension_outcome x n = and_then (extension_among x) (unreserved n)

-- what a reference means
abbrev pub meant_outcome : Setting → Option Meant → Result Ty Refusal
meant_outcome s None = Ok never
meant_outcome s (Some (meant_common n)) = Ok (s.commons n)
meant_outcome s (Some (meant_entity n)) = entity_outcome n

-- a type, and the attributes of a record
abbrev mutual
  pub type_outcome : Setting → TypeForm Name → Result Ty Refusal
  type_outcome s bool_form = Ok (bool_type any_bool)
  type_outcome s long_form = Ok long_type
  type_outcome s string_form = Ok string_type
  type_outcome s (set_form t) = and_then (λ u. Ok (set_type u)) (type_outcome s t)
  type_outcome s (record_form fs) = and_then (λ as_. Ok (record_type as_ is_closed)) (fields_outcome s fs)
  type_outcome s (reference_form k n) = meant_outcome s (find (is_defined s.defined) (meant_at k n))
  type_outcome s (extension_form n) = extension_outcome s.extensions n

  pub fields_outcome : Setting → FieldForms Name → Result Attributes Refusal
  fields_outcome s no_field_forms = Ok no_attributes
  fields_outcome s (field_form a t r fs) = and_then (λ u. and_then (λ as_. Ok (with_attribute a u r as_)) (fields_outcome s fs)) (type_outcome s t)

-- an attribute, with whether it is required
abbrev pub attribute_outcome : Setting → TypeForm Name × Bool → Result Declared Refusal
attribute_outcome s p = and_then (λ t. Ok (record { type = t; is_required = p.1 })) (type_outcome s p.0)
