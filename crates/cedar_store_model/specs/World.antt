-- Worlds: what is known of a request, of slots and unknowns, and of a store.
-- Rule: the meaning; the store (docs/RULES.md).
use Rattle.std.specs.Prelude.{List, Option}
use Rattle.cedar_expr_model.specs.Name.{Text}
use Rattle.cedar_expr_model.specs.Uid.{Uid}
use Rattle.cedar_expr_model.specs.Value.{V, Fields}
use Rattle.cedar_expr_model.specs.Tree.{SlotId}
use Rattle.cedar_expr_model.specs.Table.{Table}
use Rattle.cedar_expr_model.specs.ValueParts.{Part}

-- An entity: attributes and tags by name, each a value or an expression that isn't one yet, and the recorded ancestors.
pub record Entity (A : Type 0) : Type 0 where
  pub attributes : List (Text × Part A)
  pub tags : List (Text × Part A)
  pub ancestors : List Uid

-- What a store answers for a uid: the entity, that there is none, or that this isn't known.
pub data Found (A : Type 0) : Type 0 where
  held : Entity A → Found A
  missing not_loaded : Found A

-- what is made of such an answer: of an entity, of none, and where it isn't known
abbrev pub by_found : {A B : Type 0} → (Entity A → B) → B → B → Found A → B
by_found of_held of_missing of_not_loaded (held e) = of_held e
by_found of_held of_missing of_not_loaded missing = of_missing
by_found of_held of_missing of_not_loaded not_loaded = of_not_loaded

-- A request: three uids and the fields of the context.
pub record Request : Type 0 where
  pub principal : Uid
  pub action : Uid
  pub resource : Uid
  pub context : Fields

-- A world. What is open, or not known yet, is none.
pub record World : Type 0 where
  pub principal : Option Uid
  pub action : Option Uid
  pub resource : Option Uid
  pub context : Option V
  pub slots : SlotId → Option Uid
  pub unknowns : Text → Option V
  pub table : Table
  pub store : Uid → Found V
