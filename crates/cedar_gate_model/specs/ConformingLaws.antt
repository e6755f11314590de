-- What the laws of conformance by what is kept say.
-- Rule: conforming entities; conforming requests; action entities (docs/RULES.md).
use Rattle.std.specs.Prelude.{◌≡◌, Bool, true, false, Some, None}
use Rattle.cedar_schema_model.specs.Conforming.{ConformFault}
use Rattle.cedar_schema_model.specs.Declarations.{Declarations}
use Rattle.cedar_schema_model.specs.Resolved.{schema_of}
use Rattle.cedar_schema_model.specs.Schema.{Schema}
use Rattle.cedar_schema_model.specs.Kept.{Kept, kept_action_entities}
use Rattle.cedar_schema_model.specs.KeptOf.{IsKeptOf}
use Rattle.cedar_typechecker_model.specs.Alike.{DescendsToDeclared}
use Rattle.cedar_typechecker_model.specs.Seen.{IsKeptOnce}
use Rattle.cedar_gate_model.specs.Alike.{ConformsAlike, AreActionEntities}
use Rattle.cedar_gate_model.specs.First.{first_fault}

-- By what is kept of a schema, in which what descends leads to what is declared, the same conforms;
abbrev pub KeptConformAlike : Type 0
KeptConformAlike = (s : Schema) (k : Kept) → IsKeptOf s k → DescendsToDeclared s → ConformsAlike s k

-- the schema of declarations is such a one.
abbrev pub DeclaredConformAlike : Type 0
DeclaredConformAlike = (d : Declarations) (k : Kept) → IsKeptOf (schema_of d) k → ConformsAlike (schema_of d) k

-- The kept actions as entities are those of a schema by which the same conforms.
abbrev pub KeptActionsAreEntities : Type 0
KeptActionsAreEntities = (s : Schema) (k : Kept) → ConformsAlike s k → IsKeptOnce k → AreActionEntities s (kept_action_entities k)

-- The first fault is there; where there is no first one there is none.
abbrev pub FirstIsFault : Type 0
FirstIsFault = (has : ConformFault → Bool) (f : ConformFault) → first_fault has ≡ Some f → has f ≡ true

abbrev pub NoneIsFaultless : Type 0
NoneIsFaultless = (has : ConformFault → Bool) → first_fault has ≡ None → (f : ConformFault) → has f ≡ false
