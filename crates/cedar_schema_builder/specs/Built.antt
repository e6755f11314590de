-- What is built of fragments, and what is refused.
-- Rule: schemas; declarations; well-formed declarations (docs/RULES.md).
use Rattle.std.specs.Prelude.{List, map}
use Rattle.cedar_expr_model.specs.Name.{Name}
use Rattle.cedar_expr_leaves.specs.declared.conditional_name.ConditionalName.{ConditionalName}
use Rattle.cedar_schema_model.specs.BagLaws.{HasSchemaFault}
use Rattle.cedar_schema_model.specs.Declarations.{Declarations}
use Rattle.cedar_schema_model.specs.Resolved.{schema_of}
use Rattle.cedar_schema_model.specs.WellFormed.{SchemaFault, IsWellFormed}
use Rattle.cedar_schema_model.specs.Kept.{KeptType, KeptAction}
use Rattle.cedar_schema_entries.specs.Views.{entity_type_seen, action_seen}
use Rattle.cedar_schema_decl.specs.Defined.{Defined}
use Rattle.cedar_schema_fragments.specs.WrittenDeclarations.{AreWritten}
use Rattle.cedar_schema_fragments.specs.declared.namespace_def.ValidatorSchemaFragment.{ValidatorSchemaFragment}
use Rattle.cedar_schema_assembly.specs.Pieces.{AreTypesOf, AreActionsOf}
use Rattle.cedar_schema_builder.specs.Writing.{CommonForms, EntityForms, ActionForms}
use Rattle.cedar_schema_builder.specs.Named.{NamesFault}
use Rattle.cedar_schema_builder.specs.Steps.{NamesFaultIn, AreNamed, AreGathered, AreAssembled, NamesFaultOfWritten}
use Rattle.cedar_schema_builder.specs.declared.build.SchemaParts.{SchemaParts}
use Rattle.cedar_schema_builder.specs.declared.err.SchemaError.{SchemaError}

-- the entity types and the actions that are made, as they are kept
abbrev pub types_made : SchemaParts → List KeptType
types_made p = map entity_type_seen p.entity_types.items

abbrev pub actions_made : SchemaParts → List KeptAction
actions_made p = map action_seen p.actions.items

-- The declarations that the fragments write are well-formed, and these are the entity types and the actions of their schema.
pub record AreBuiltOf (x : List Name) (fs : List (ValidatorSchemaFragment ConditionalName ConditionalName)) (ts : List KeptType) (ks : List KeptAction) : Type 0 where
  pub are_well_formed : (d : Declarations) → AreWritten fs d → IsWellFormed x d
  pub types : (d : Declarations) → AreWritten fs d → AreTypesOf (schema_of d) ts
  pub actions : (d : Declarations) → AreWritten fs d → AreActionsOf (schema_of d) ks

-- The fault is one of the declarations that the fragments write.
pub record IsFaultOf (x : List Name) (fs : List (ValidatorSchemaFragment ConditionalName ConditionalName)) (f : SchemaFault) : Type 0 where
  pub each : (d : Declarations) → AreWritten fs d → HasSchemaFault x d f

-- The error names what is at fault in the declarations that the fragments write.
pub record NamesFaultOf (x : List Name) (fs : List (ValidatorSchemaFragment ConditionalName ConditionalName)) (e : SchemaError) : Type 0 where
  pub each : (d : Declarations) → AreWritten fs d → NamesFault x d e

-- What is assembled of what is gathered of fragments with such names is what is built of them.
abbrev pub StepsBuildTheSchema : Type 0
StepsBuildTheSchema = (x : List Name) (fs : List (ValidatorSchemaFragment ConditionalName ConditionalName)) (s : Defined) (cs : CommonForms) (es : EntityForms) (as_ : ActionForms) (ts : List KeptType) (ks : List KeptAction)
    → AreNamed fs → AreGathered fs s cs es as_ → AreAssembled s x cs es as_ ts ks → AreBuiltOf x fs ts ks

-- What a step refuses names what is at fault in the declarations that the fragments write.
pub record RefusedStepsNameFaults : Type 0 where
  pub at_first : (x : List Name) (fs : List (ValidatorSchemaFragment ConditionalName ConditionalName)) (e : SchemaError) → NamesFaultIn fs e → NamesFaultOf x fs e
  pub at_last : (x : List Name) (fs : List (ValidatorSchemaFragment ConditionalName ConditionalName)) (s : Defined) (cs : CommonForms) (es : EntityForms) (as_ : ActionForms) (e : SchemaError)
      → AreGathered fs s cs es as_ → NamesFaultOfWritten s x cs es as_ e → NamesFaultOf x fs e
