-- What is built of fragments.
-- Rule: schemas; declarations; well-formed declarations; external declarations (docs/RULES.md).
use Rattle.std.specs.Prelude.{◌≡◌, ◌↔◌, List, []}
use Rattle.cedar_expr_model.specs.Name.{Name}
use Rattle.cedar_expr_leaves.specs.declared.conditional_name.ConditionalName.{ConditionalName}
use Rattle.cedar_schema_model.specs.BagLaws.{HasSchemaFault}
use Rattle.cedar_schema_model.specs.Declarations.{Declarations}
use Rattle.cedar_schema_model.specs.Resolved.{schema_of}
use Rattle.cedar_schema_model.specs.WellFormed.{unresolved_external, IsWellFormed}
use Rattle.cedar_schema_model.specs.Kept.{Kept, Elsewhere, elsewhere, IsFirst}
use Rattle.cedar_schema_model.specs.KeptOf.{IsKeptOf}
use Rattle.cedar_schema_fragments.specs.WrittenDeclarations.{AreWritten}
use Rattle.cedar_schema_fragments.specs.declared.namespace_def.ValidatorSchemaFragment.{ValidatorSchemaFragment}
use Rattle.cedar_schema_builder.specs.OfFragments.{AreFormed, schema_formed}

-- The declarations that the fragments write are well-formed with these extension types, and their schema is what is kept.
pub record IsBuiltOf (x : List Name) (fs : List (ValidatorSchemaFragment ConditionalName ConditionalName)) (k : Kept) : Type 0 where
  pub are_well_formed : (d : Declarations) → AreWritten fs d → IsWellFormed x d
  pub keeps : (d : Declarations) → AreWritten fs d → IsKeptOf (schema_of d) k

-- The fragments are such as a schema is built of, whether or not declarations write them, and the schema that they tell is what is kept.
pub record IsBuiltOfFormed (x : List Name) (fs : List (ValidatorSchemaFragment ConditionalName ConditionalName)) (k : Kept) : Type 0 where
  pub formed : AreFormed x fs
  pub keeps : IsKeptOf (schema_formed x fs formed) k

-- Where fragments write declarations, what is built of them has a first that is declared elsewhere exactly where the declarations have
-- the fault of an external one, and nothing that is declared elsewhere exactly where they don't.
abbrev pub FirstElsewhereIsFault : Type 0
FirstElsewhereIsFault = (x : List Name) (fs : List (ValidatorSchemaFragment ConditionalName ConditionalName)) (k : Kept) → IsBuiltOf x fs k → (d : Declarations) → AreWritten fs d
    → ((e : Elsewhere) × IsFirst (elsewhere k) e) ↔ HasSchemaFault x d unresolved_external

abbrev pub CompleteIsFaultless : Type 0
CompleteIsFaultless = (x : List Name) (fs : List (ValidatorSchemaFragment ConditionalName ConditionalName)) (k : Kept) → IsBuiltOf x fs k → (d : Declarations) → AreWritten fs d
    → (elsewhere k ≡ []) ↔ (HasSchemaFault x d unresolved_external → ⊥)
