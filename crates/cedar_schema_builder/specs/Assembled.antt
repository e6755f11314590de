-- What is gathered of fragments, and what is assembled of it.
-- Rule: schemas; declarations; well-formed declarations (docs/RULES.md).
use Rattle.std.specs.Prelude.{List}
use Rattle.cedar_expr_model.specs.Name.{Name}
use Rattle.cedar_expr_leaves.specs.declared.conditional_name.ConditionalName.{ConditionalName}
use Rattle.cedar_schema_decl.specs.Defined.{Defined}
use Rattle.cedar_schema_fragments.specs.declared.namespace_def.ValidatorSchemaFragment.{ValidatorSchemaFragment}
use Rattle.cedar_schema_builder.specs.Built.{types_made, actions_made}
use Rattle.cedar_schema_builder.specs.FormSteps.{AreFormsOf, IsFaultOfForms}
use Rattle.cedar_schema_builder.specs.Gathered.{commons_gathered, entities_gathered, actions_gathered}
use Rattle.cedar_schema_builder.specs.Steps.{AreGathered, AreAssembled, NamesFaultOfWritten}
use Rattle.cedar_schema_builder.specs.declared.build.SchemaParts.{SchemaParts}
use Rattle.cedar_schema_builder.specs.declared.err.SchemaError.{SchemaError}
use Rattle.cedar_schema_builder.specs.declared.gathered.GatheredDefs.{GatheredDefs}

-- What is gathered writes the declarations that the fragments write, and nothing shadows.
abbrev pub GathersOf : List (ValidatorSchemaFragment ConditionalName ConditionalName) → Defined → GatheredDefs → Type 0
GathersOf fs d g = AreGathered fs d (commons_gathered g) (entities_gathered g) (actions_gathered g)

-- What is gathered are the forms of the fragments.
abbrev pub GathersForms : List (ValidatorSchemaFragment ConditionalName ConditionalName) → Defined → GatheredDefs → Type 0
GathersForms fs d g = AreFormsOf fs d (commons_gathered g) (entities_gathered g) (actions_gathered g)

-- These are the entity types and the actions of what is gathered, with these extension types.
abbrev pub AssemblesOf : Defined → List Name → GatheredDefs → SchemaParts → Type 0
AssemblesOf d x g p = AreAssembled d x (commons_gathered g) (entities_gathered g) (actions_gathered g) (types_made p) (actions_made p)

-- The error names what is at fault in the declarations that what is gathered writes.
abbrev pub NamesFaultOfGathered : Defined → List Name → GatheredDefs → SchemaError → Type 0
NamesFaultOfGathered d x g e = NamesFaultOfWritten d x (commons_gathered g) (entities_gathered g) (actions_gathered g) e

-- What the error names is at fault in the forms that are gathered.
abbrev pub IsFaultOfGathered : Defined → List Name → GatheredDefs → SchemaError → Type 0
IsFaultOfGathered d x g e = IsFaultOfForms d x (commons_gathered g) (entities_gathered g) (actions_gathered g) e
