-- What typing promises of the meaning: an expression with a type means a value of it, or errs in one of four ways.
-- Rule: typing (docs/RULES.md).
use Rattle.std.specs.Prelude.{◌≡◌, true, Some, Contains, IsSome}
use Rattle.cedar_expr_model.specs.Uid.{Uid}
use Rattle.cedar_expr_model.specs.Value.{entity, V, prim, truth_value}
use Rattle.cedar_expr_model.specs.Tree.{SlotId, has_tag, Tree, binary, has_attr}
use Rattle.cedar_expr_model.specs.Table.{Table}
use Rattle.cedar_expr_model.specs.OfLaws.Fair.{IsFair}
use Rattle.cedar_store_model.specs.Outcome.{Fault, missing_entity, overflow, zero_divisor, extension_failed, Res, val, err}
use Rattle.cedar_store_model.specs.World.{World, Entity, held}
use Rattle.cedar_store_model.specs.Meaning.{Means}
use Rattle.cedar_store_model.specs.Looks.{Looks}
use Rattle.cedar_store_model.specs.Policy.{tree_uses}
use Rattle.cedar_store_model.specs.AnswerLaws.{Holds}
use Rattle.cedar_schema_model.specs.Types.{is_closed, Ty, record_type}
use Rattle.cedar_schema_model.specs.Schema.{Action, Schema, declares_action}
use Rattle.cedar_schema_model.specs.HasType.{HasType}
use Rattle.cedar_schema_model.specs.Conforming.{EntityConforms}
use Rattle.cedar_schema_model.specs.Environment.{Environment}
use Rattle.cedar_typechecker_model.specs.Facts.{Facts, Part, attribute_part, tag_part}
use Rattle.cedar_typechecker_model.specs.Rules.{slot_type}
use Rattle.cedar_typechecker_model.specs.Typing.{Types}
use Rattle.cedar_typechecker_model.specs.OfLaws.Simple.{is_simple, are_simple, IsOrderly}
use Rattle.cedar_typechecker_model.specs.Verdicts.{strictly}

-- the errors that an expression with a type may have
abbrev pub IsExpected : Fault → Type 0
IsExpected (missing_entity u) = Unit {0}
IsExpected overflow = Unit {0}
IsExpected zero_divisor = Unit {0}
IsExpected (extension_failed n) = Unit {0}
IsExpected f = ⊥

-- a value of the type, or such an error
abbrev pub IsGood : Ty → Res V → Type 0
IsGood ty (val v) = HasType v ty
IsGood ty (err f) = IsExpected f

-- the test of a part
abbrev pub test_of : Tree → Part → Tree
test_of e (attribute_part a) = has_attr e a
test_of e (tag_part t) = binary has_tag e t

-- Facts hold in a world where the test of each means true.
abbrev pub Hold : World → Facts → Type 0
Hold w known = (e : Tree) (p : Part) → known e p ≡ true → Holds w (test_of e p)

-- the environment of a declared action, whatever the types of principal, resource and slots
abbrev pub IsOfAction : Schema → Environment → Type 0
IsOfAction s e = (a : Action) × Contains s.actions a × (e.action ≡ a.uid) × (e.context ≡ a.context)

-- if there is such an entity it conforms
abbrev pub ConformsAt : Schema → World → Uid → Type 0
ConformsAt s w u = (d : Entity V) → w.store u ≡ held d → EntityConforms s u d

-- A world suits an environment: the schema is orderly and the table fair; principal, resource, context and slots, where they are known,
-- have the types of the environment, and the action is its action; the declared actions are held and conform.
pub record Suits (s : Schema) (x : Table) (e : Environment) (w : World) : Type 0 where
  pub schema : IsOrderly s
  pub fair : IsFair x
  pub table : w.table ≡ x
  pub environment : IsOfAction s e
  pub principal : (u : Uid) → w.principal ≡ Some u → u.kind ≡ e.principal
  pub action : (u : Uid) → w.action ≡ Some u → u ≡ e.action
  pub resource : (u : Uid) → w.resource ≡ Some u → u.kind ≡ e.resource
  pub context : (v : V) → w.context ≡ Some v → HasType v (record_type e.context is_closed)
  pub slots : (i : SlotId) (u : Uid) → w.slots i ≡ Some u → HasType (prim (entity u)) (slot_type (strictly s x e) i)
  pub actions : (u : Uid) → declares_action s u ≡ true → (d : Entity V) × (w.store u ≡ held d) × EntityConforms s u d

-- each slot that stands in the expression is bound
abbrev pub SlotsAreBound : World → Tree → Type 0
SlotsAreBound w t = (i : SlotId) → tree_uses t i ≡ true → IsSome (w.slots i)

-- In Strict each type of an expression is simple: no union arises.
abbrev pub TypesAreSimple : Type 0
TypesAreSimple = (s : Schema) (x : Table) (e : Environment) (known : Facts) (t : Tree) (ty : Ty) (out : Facts) → IsOrderly s → are_simple e.context ≡ true
    → Types (strictly s x e) known t ty out → is_simple ty ≡ true

-- Where the facts known before hold and each entity that is looked up conforms, an expression that has a type in Strict means a value of
-- the type, and then its facts hold if that is true; or it errs as expected.
abbrev pub TypesAreSound : Type 0
TypesAreSound = (s : Schema) (x : Table) (e : Environment) (w : World) → Suits s x e w
    → (known : Facts) (t : Tree) → Hold w known → SlotsAreBound w t → ((u : Uid) → Looks w t u → ConformsAt s w u)
    → (ty : Ty) (out : Facts) → Types (strictly s x e) known t ty out
    → (r : Res V) → Means w t r → IsGood ty r × (r ≡ val (truth_value true) → Hold w out)
