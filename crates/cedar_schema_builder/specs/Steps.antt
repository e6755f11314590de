-- What the steps of building come to.
-- Rule: schemas; declarations; well-formed declarations (docs/RULES.md).
use Rattle.std.specs.Prelude.{◌≡◌, List, None}
use Rattle.cedar_expr_model.specs.Name.{Name}
use Rattle.cedar_expr_leaves.specs.declared.conditional_name.ConditionalName.{ConditionalName}
use Rattle.cedar_schema_model.specs.BagLaws.{HasSchemaFault}
use Rattle.cedar_schema_model.specs.Declarations.{Declarations}
use Rattle.cedar_schema_model.specs.Types.{Ty}
use Rattle.cedar_schema_model.specs.WellFormed.{action_as_entity_type, reserved_name}
use Rattle.cedar_schema_model.specs.Kept.{KeptType, KeptAction}
use Rattle.cedar_schema_decl.specs.Defined.{Defined}
use Rattle.cedar_schema_decl.specs.Shadowing.{first_shadowing}
use Rattle.cedar_schema_fragments.specs.WrittenDeclarations.{AreWritten}
use Rattle.cedar_schema_fragments.specs.declared.namespace_def.ValidatorSchemaFragment.{ValidatorSchemaFragment}
use Rattle.cedar_schema_resolver.specs.Meanings.{setting}
use Rattle.cedar_schema_resolver.specs.Solved.{IsSolved}
use Rattle.cedar_schema_assembly.specs.Found.{AreTypesTold, AreActionsTold, AreTypesKnown, AreContextsKnown, AreContextsRecords, AreApart}
use Rattle.cedar_schema_builder.specs.Writing.{CommonForms, EntityForms, ActionForms, WritesAll}
use Rattle.cedar_schema_builder.specs.Named.{NamesFault}
use Rattle.cedar_schema_builder.specs.declared.err.SchemaError.{SchemaError}

-- The error names what is at fault in the declarations that the fragments write, whichever extension types are known.
pub record NamesFaultIn (fs : List (ValidatorSchemaFragment ConditionalName ConditionalName)) (e : SchemaError) : Type 0 where
  pub each : (x : List Name) (d : Declarations) → AreWritten fs d → NamesFault x d e

-- Names are as they have to be: none of them is reserved, and no entity type has the last name of the types of actions.
pub record AreNamed (fs : List (ValidatorSchemaFragment ConditionalName ConditionalName)) : Type 0 where
  pub none_reserved : (x : List Name) (d : Declarations) → AreWritten fs d → HasSchemaFault x d reserved_name → ⊥
  pub no_action_type : (x : List Name) (d : Declarations) → AreWritten fs d → HasSchemaFault x d action_as_entity_type → ⊥

-- What is gathered writes the declarations that the fragments write, and nothing shadows.
pub record AreGathered (fs : List (ValidatorSchemaFragment ConditionalName ConditionalName)) (s : Defined) (cs : CommonForms) (es : EntityForms) (as_ : ActionForms) : Type 0 where
  pub writes : (d : Declarations) → AreWritten fs d → WritesAll s d cs es as_
  pub none_shadows : first_shadowing s ≡ None

-- With types of the common types these are the entity types and the actions that are told, and nothing is wrong with them.
pub record AreAssembled (d : Defined) (x : List Name) (cs : CommonForms) (es : EntityForms) (as_ : ActionForms) (ts : List KeptType) (ks : List KeptAction) : Type 0 where
  pub commons : Name → Ty
  pub solved : IsSolved (setting commons d x) cs
  pub types : AreTypesTold (setting commons d x) es ts
  pub types_known : AreTypesKnown x es
  pub actions : AreActionsTold (setting commons d x) as_ ks
  pub contexts_known : AreContextsKnown x as_
  pub contexts_records : AreContextsRecords (setting commons d x) as_
  pub apart : AreApart (setting commons d x) as_

-- The error names what is at fault in the declarations that these write.
pub record NamesFaultOfWritten (s : Defined) (x : List Name) (cs : CommonForms) (es : EntityForms) (as_ : ActionForms) (e : SchemaError) : Type 0 where
  pub each : (d : Declarations) → WritesAll s d cs es as_ → NamesFault x d e
