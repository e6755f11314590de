-- The extension types that are known: those that the functions of a table give.
-- Rule: well-formed declarations (docs/RULES.md).
use Rattle.std.specs.Prelude.{List}
use Rattle.std.specs.List.{filter_map}
use Rattle.cedar_expr_model.specs.Name.{Name}
use Rattle.cedar_expr_functions.specs.Signatures.{given_type}
use Rattle.cedar_expr_functions.specs.Tables.{functions_of}
use Rattle.cedar_expr_functions.specs.declared.extensions.Extensions.{Extensions}
use Rattle.cedar_expr_leaves.specs.declared.conditional_name.ConditionalName.{ConditionalName}
use Rattle.cedar_schema_model.specs.WellFormed.{SchemaFault}
use Rattle.cedar_schema_model.specs.Kept.{KeptType, KeptAction}
use Rattle.cedar_schema_fragments.specs.declared.namespace_def.ValidatorSchemaFragment.{ValidatorSchemaFragment}
use Rattle.cedar_schema_assembly.specs.Lists.{IsSetOf}
use Rattle.cedar_schema_builder.specs.Built.{AreBuiltOf, IsFaultOf, NamesFaultOf}
use Rattle.cedar_schema_builder.specs.OfFragments.{AreBuiltOfFormed, IsFaultInFragments}
use Rattle.cedar_schema_builder.specs.declared.err.SchemaError.{SchemaError}

abbrev pub types_given : {B : _} {F : _} {g : _} → Extensions B F g → List Name
types_given t = filter_map given_type (functions_of t)

-- Only which extension types are known counts, neither their order nor how often each is given.
pub record ExtensionTypesAreASet : Type 0 where
  pub faults : (x y : List Name) → IsSetOf x y → (fs : List (ValidatorSchemaFragment ConditionalName ConditionalName)) (f : SchemaFault) → IsFaultOf y fs f → IsFaultOf x fs f
  pub names : (x y : List Name) → IsSetOf x y → (fs : List (ValidatorSchemaFragment ConditionalName ConditionalName)) (e : SchemaError) → NamesFaultOf y fs e → NamesFaultOf x fs e
  pub built : (x y : List Name) → IsSetOf x y → (fs : List (ValidatorSchemaFragment ConditionalName ConditionalName)) (ts : List KeptType) (ks : List KeptAction) → AreBuiltOf y fs ts ks → AreBuiltOf x fs ts ks
  pub formed : (x y : List Name) → IsSetOf x y → (fs : List (ValidatorSchemaFragment ConditionalName ConditionalName)) (ts : List KeptType) (ks : List KeptAction) → AreBuiltOfFormed y fs ts ks → AreBuiltOfFormed x fs ts ks
  pub at_fault : (x y : List Name) → IsSetOf x y → (fs : List (ValidatorSchemaFragment ConditionalName ConditionalName)) (e : SchemaError) → IsFaultInFragments y fs e → IsFaultInFragments x fs e
