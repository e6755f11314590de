-- What the references in a type mean, and the type that it tells.
-- Rule: references; schemas (docs/RULES.md).
use Rattle.std.specs.Prelude.{List, [], ◌++◌, find, map}
use Rattle.std.specs.Option.{option_to_list}
use Rattle.std.specs.BTreeSet.{BTreeSet}
use Rattle.cedar_expr_model.specs.Name.{Name}
use Rattle.cedar_expr_names.specs.declared.name.Name.{Name as CodeName}
use Rattle.cedar_expr_names.specs.Views.{plain_name_of}
use Rattle.cedar_schema_model.specs.Types.{Ty, Attributes}
use Rattle.cedar_schema_model.specs.Reference.{Meant, meant_at}
use Rattle.cedar_schema_decl.specs.Defined.{Defined, defined_of, is_defined}
use Rattle.cedar_schema_decl.specs.Forms.{TypeForm, set_form, record_form, reference_form, FieldForms, no_field_forms, field_form}
use Rattle.cedar_schema_decl.specs.Laws.{type_told, fields_told}
use Rattle.cedar_schema_resolver.specs.Commons.{common_seen}
use Rattle.cedar_schema_resolver.specs.declared.resolver.TypeResolver.{TypeResolver}

-- What is known where types are told: what the common types stand for, what is declared, and the extension types.
pub record Setting : Type 0 where
  pub commons : Name → Ty
  pub defined : Defined
  pub extensions : List Name

-- these extension types
abbrev pub extensions_seen : BTreeSet CodeName → List Name
extensions_seen x = map plain_name_of x.keys

abbrev pub setting : (Name → Ty) → Defined → List Name → Setting
setting commons d x = record { commons = commons; defined = d; extensions = x }

abbrev pub setting_of : TypeResolver → Setting
setting_of r = setting (common_seen r.commons.now) (defined_of r.all_defs.now) (extensions_seen r.extension_types.now)

-- the type that a type tells there, and the attributes
abbrev pub told : Setting → TypeForm Name → Ty
told s t = type_told s.commons s.defined t

abbrev pub told_fields : Setting → FieldForms Name → Attributes
told_fields s fs = fields_told s.commons s.defined fs

-- what the references in a type mean, by what is declared; one that means nothing is left out
abbrev mutual
  pub meant_in : Defined → TypeForm Name → List Meant
  meant_in s (set_form t) = meant_in s t
  meant_in s (record_form fs) = meant_in_fields s fs
  meant_in s (reference_form k n) = option_to_list (find (is_defined s) (meant_at k n))
  meant_in s t = []

  pub meant_in_fields : Defined → FieldForms Name → List Meant
  meant_in_fields s no_field_forms = []
  meant_in_fields s (field_form a t r fs) = meant_in s t ++ meant_in_fields s fs
