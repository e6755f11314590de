-- What the laws of declarations say: what is resolved is what the declarations mean.
-- Rule: references (docs/RULES.md).
use Rattle.std.specs.Prelude.{◌≡◌, IfOk, List, [], ◌∷◌, ◌++◌, Bool, true, false, Option, Some, None, find, is_none}
use Rattle.std.specs.List.{list_any}
use Rattle.std.specs.declared.result.Result.{Result}
use Rattle.std.specs.declared.result.Result.TheVariants.{Ok, Err}
use Rattle.cedar_expr_model.specs.Name.{Name}
use Rattle.cedar_schema_model.specs.Types.{Ty, bool_type, any_bool, long_type, string_type, set_type, record_type, extension_type, is_closed, Attributes, no_attributes}
use Rattle.cedar_schema_model.specs.Reference.{Namespace, ReferenceKind, Meant, meant_at}
use Rattle.cedar_schema_model.specs.Declarations.{TypeExpr, bool_expr, long_expr, string_expr, set_expr, record_expr, reference, extension_expr, FieldExprs, no_field_exprs, field_expr, Declarations, is_declared, meant, references_in}
use Rattle.cedar_schema_model.specs.Resolved.{with_attribute, type_meant, resolved_by}
use Rattle.cedar_schema_decl.specs.Forms.{TypeForm, bool_form, long_form, string_form, set_form, record_form, reference_form, extension_form, FieldForms, no_field_forms, field_form}
use Rattle.cedar_schema_decl.specs.Conditional.{Conditional, conditional_in}
use Rattle.cedar_schema_decl.specs.Defined.{Defined, is_defined, meant_by, resolving}
use Rattle.cedar_schema_decl.specs.Requalified.{and_then, requalified, qualified_in}

-- The sets have what these declarations declare.
abbrev pub HasDeclared : Defined → Declarations → Type 0
HasDeclared s d = (m : Meant) → is_defined s m ≡ is_declared d m

-- the parts of the name of a namespace; the empty one has none
abbrev pub namespace_parts : Option Name → Namespace
namespace_parts None = []
namespace_parts (Some n) = n.path ++ n.base ∷ []

-- a type over the names as they are written is a written type
abbrev mutual
  pub as_expr : TypeForm Name → TypeExpr
  as_expr bool_form = bool_expr
  as_expr long_form = long_expr
  as_expr string_form = string_expr
  as_expr (set_form t) = set_expr (as_expr t)
  as_expr (record_form fs) = record_expr (as_exprs fs)
  as_expr (reference_form k n) = reference k n
  as_expr (extension_form n) = extension_expr n

  pub as_exprs : FieldForms Name → FieldExprs
  as_exprs no_field_forms = no_field_exprs
  as_exprs (field_form a t r fs) = field_expr a (as_expr t) r (as_exprs fs)

-- The type that one over resolved names tells, with these types in place of the common ones.
abbrev mutual
  pub type_told : (Name → Ty) → Defined → TypeForm Name → Ty
  type_told commons s bool_form = bool_type any_bool
  type_told commons s long_form = long_type
  type_told commons s string_form = string_type
  type_told commons s (set_form t) = set_type (type_told commons s t)
  type_told commons s (record_form fs) = record_type (fields_told commons s fs) is_closed
  type_told commons s (reference_form k n) = type_meant commons (find (is_defined s) (meant_at k n))
  type_told commons s (extension_form n) = extension_type n

  pub fields_told : (Name → Ty) → Defined → FieldForms Name → Attributes
  fields_told commons s no_field_forms = no_attributes
  fields_told commons s (field_form a t r fs) = with_attribute a (type_told commons s t) r (fields_told commons s fs)

-- a type that is written in a namespace, with the names that each may stand for, and then with the name that each means
abbrev pub resolved_in : Defined → Option Name → TypeForm Name → Result (TypeForm Name) Conditional
resolved_in s space t = and_then (requalified (resolving s)) (qualified_in space t)

-- whether there is a refusal
abbrev pub is_refused : {A R : Type 0} → Result A R → Bool
is_refused (Ok x) = false
is_refused (Err r) = true

-- A name means what the reference means.
abbrev pub NamesMeanReferences : Type 0
NamesMeanReferences = (s : Defined) (d : Declarations) → HasDeclared s d → (space : Option Name) (k : ReferenceKind) (n : Name) → meant_by s (conditional_in space k n) ≡ meant d (record { namespace = namespace_parts space; kind = k; name = n })

-- A type whose names are resolved tells the type that is declared.
abbrev pub ResolvedTypesAreDeclared : Type 0
ResolvedTypesAreDeclared = (s : Defined) (d : Declarations) → HasDeclared s d → (space : Option Name) (t : TypeForm Name) (commons : Name → Ty) → IfOk (resolved_in s space t) (λ r. type_told commons s r ≡ resolved_by commons d (namespace_parts space) (as_expr t))

-- It is refused exactly where a reference in it means nothing.
abbrev pub RefusedWhereUndeclared : Type 0
RefusedWhereUndeclared = (s : Defined) (d : Declarations) → HasDeclared s d → (space : Option Name) (t : TypeForm Name) → is_refused (resolved_in s space t) ≡ list_any (λ r. is_none (meant d r)) (references_in (namespace_parts space) (as_expr t))
