-- What is kept of a schema twice.
-- Rule: schemas; declarations (docs/RULES.md).
use Rattle.std.specs.Prelude.{◌≡◌, ◌↔◌, List, Contains}
use Rattle.cedar_expr_model.specs.Name.{Name}
use Rattle.cedar_expr_model.specs.Uid.{Uid}
use Rattle.cedar_schema_model.specs.BagLaws.{IsReordered}
use Rattle.cedar_schema_model.specs.Declarations.{Declarations}
use Rattle.cedar_schema_model.specs.Resolved.{schema_of}
use Rattle.cedar_schema_model.specs.WellFormed.{IsWellFormed}
use Rattle.cedar_schema_model.specs.Kept.{KeptType, KeptAction, Kept}
use Rattle.cedar_schema_model.specs.KeptOf.{IsSameKind, IsKeptOf}

-- Two kept entity types have the same name and are of the same kind, and the same that descend from them, in any order.
pub record AreSameTypes (t u : KeptType) : Type 0 where
  pub name : t.name ≡ u.name
  pub kind : IsSameKind t.kind u.kind
  pub below : (n : Name) → Contains t.descendants n ↔ Contains u.descendants n

-- Two kept actions have the same uid, apply to the same, and have the same that descend from them, in any order.
pub record AreSameActions (a b : KeptAction) : Type 0 where
  pub uid : a.uid ≡ b.uid
  pub principals : (n : Name) → Contains a.applied.principals n ↔ Contains b.applied.principals n
  pub resources : (n : Name) → Contains a.applied.resources n ↔ Contains b.applied.resources n
  pub context : a.context ≡ b.context
  pub is_external : a.is_external ≡ b.is_external
  pub below : (u : Uid) → Contains a.descendants u ↔ Contains b.descendants u

-- All entity types and actions of the first are in the second.
pub record IsWithin (k l : Kept) : Type 0 where
  pub types : (t : KeptType) → Contains k.types t → (u : KeptType) × Contains l.types u × AreSameTypes t u
  pub actions : (a : KeptAction) → Contains k.actions a → (b : KeptAction) × Contains l.actions b × AreSameActions a b

-- Two schemas keep the same entity types and actions, in any order.
abbrev pub AreAlike : Kept → Kept → Type 0
AreAlike k l = IsWithin k l × IsWithin l k

-- Of well-formed declarations the same is kept, in whichever order they stand.
abbrev pub OrderOfBuiltIsFree : Type 0
OrderOfBuiltIsFree = (x : List Name) (d e : Declarations) → IsReordered d e → IsWellFormed x d → (k l : Kept) → IsKeptOf (schema_of d) k → IsKeptOf (schema_of e) l → AreAlike k l
