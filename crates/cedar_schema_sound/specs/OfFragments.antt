-- What the laws say of schemas that are built of fragments.
-- Rule: schemas; declarations; well-formed declarations (docs/RULES.md).
use Rattle.std.specs.Prelude.{◌≡◌, List, true, None, Contains}
use Rattle.cedar_expr_model.specs.Name.{Name}
use Rattle.cedar_expr_leaves.specs.declared.conditional_name.ConditionalName.{ConditionalName}
use Rattle.cedar_schema_model.specs.BagLaws.{IsReordered}
use Rattle.cedar_schema_model.specs.Declarations.{Declarations}
use Rattle.cedar_schema_model.specs.WellFormed.{SchemaFault, ill_forms}
use Rattle.cedar_schema_model.specs.Kept.{Kept}
use Rattle.cedar_schema_fragments.specs.WrittenDeclarations.{AreWritten}
use Rattle.cedar_schema_fragments.specs.declared.namespace_def.ValidatorSchemaFragment.{ValidatorSchemaFragment}
use Rattle.cedar_schema_builder.specs.Alike.{AreAlike}
use Rattle.cedar_schema_builder.specs.Built.{IsFaultOf}
use Rattle.cedar_schema_built.specs.BuiltOf.{IsBuiltOf}
use Rattle.cedar_schema_model.specs.Unsound.{is_sound}
use Rattle.cedar_schema_sound.specs.Refusals.{refusal, RefusesBy}
use Rattle.cedar_schema_sound.specs.declared.err.UnsoundSchemaError.{UnsoundSchemaError}

-- What is built of fragments is what it has to be, with the same extension types.
abbrev pub BuiltAreSound : Type 0
BuiltAreSound = (x : List Name) (fs : List (ValidatorSchemaFragment ConditionalName ConditionalName)) (d : Declarations) → AreWritten fs d → (k : Kept) → IsBuiltOf x fs k → is_sound x k ≡ true

-- So a refusal of it tells of nothing wrong, in whichever order the extension types stand: there was no memory.
abbrev pub BuiltAreNotRefused : Type 0
BuiltAreNotRefused = (x : List Name) (fs : List (ValidatorSchemaFragment ConditionalName ConditionalName)) (d : Declarations) → AreWritten fs d → (k : Kept) → IsBuiltOf x fs k
    → (e : UnsoundSchemaError) → RefusesBy x k e → refusal e ≡ None

-- Of the same declarations, in whichever order and in whichever fragments, the same is built, in some order.
abbrev pub OrderOfFragmentsIsFree : Type 0
OrderOfFragmentsIsFree = (x : List Name) (fs gs : List (ValidatorSchemaFragment ConditionalName ConditionalName)) (d e : Declarations) → AreWritten fs d → AreWritten gs e → IsReordered d e
    → (k l : Kept) → IsBuiltOf x fs k → IsBuiltOf x gs l → AreAlike k l

-- Two schemas that keep this are one, where they are built so.
abbrev pub IsBuiltInEachOrder : Kept → Kept → Type 0
IsBuiltInEachOrder k l = (x : List Name) (fs gs : List (ValidatorSchemaFragment ConditionalName ConditionalName)) (d e : Declarations) → AreWritten fs d → AreWritten gs e → IsReordered d e
    → IsBuiltOf x fs k → IsBuiltOf x gs l → k ≡ l

-- Where a schema is built of them, they are refused in no order and in no fragments.
abbrev pub RefusedInEachOrder : Type 0
RefusedInEachOrder = (x : List Name) (fs gs : List (ValidatorSchemaFragment ConditionalName ConditionalName)) (d e : Declarations) → AreWritten fs d → AreWritten gs e → IsReordered d e
    → (k : Kept) → IsBuiltOf x fs k → (f : SchemaFault) → Contains ill_forms f → IsFaultOf x gs f → ⊥
