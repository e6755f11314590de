-- What typing promises of policies where the schema is orderly: one that passes means a truth value or errs as expected, and an impossible one is never satisfied.
-- Rule: typing; impossible policies; environments (docs/RULES.md).
use Rattle.std.specs.Prelude.{◌≡◌, true, false, Contains, IsSome}
use Rattle.std.proofs.Common.{◌⊎◌}
use Rattle.cedar_expr_model.specs.Uid.{Uid}
use Rattle.cedar_expr_model.specs.Value.{V, truth_value}
use Rattle.cedar_expr_model.specs.Table.{Table}
use Rattle.cedar_expr_model.specs.OfLaws.Fair.{IsFair}
use Rattle.cedar_expr_model.specs.Tree.{SlotId}
use Rattle.cedar_store_model.specs.Outcome.{Res, val}
use Rattle.cedar_store_model.specs.World.{World, Entity, held}
use Rattle.cedar_store_model.specs.Meaning.{Means}
use Rattle.cedar_store_model.specs.Looks.{Looks}
use Rattle.cedar_store_model.specs.Knowledge.{IsWhole}
use Rattle.cedar_store_model.specs.Policy.{Policy, binding_of, condition, has_slot}
use Rattle.cedar_store_model.specs.Answer.{with_slots, PolicyMeans, IsSatisfied}
use Rattle.cedar_schema_model.specs.Types.{any_bool, bool_type}
use Rattle.cedar_schema_model.specs.Schema.{Schema, declares_action}
use Rattle.cedar_schema_model.specs.Conforming.{EntityConforms, RequestConforms}
use Rattle.cedar_schema_model.specs.Environment.{Environment}
use Rattle.cedar_typechecker_model.specs.OfLaws.Simple.{IsOrderly}
use Rattle.cedar_typechecker_model.specs.Soundness.{IsGood, ConformsAt, Suits}
use Rattle.cedar_typechecker_model.specs.Verdicts.{policy_environments, Passes, fits, IsImpossible}

-- A world in which the table is fair, the request conforms, and the declared actions are held and conform.
pub record IsConforming (s : Schema) (x : Table) (w : World) : Type 0 where
  pub fair : IsFair x
  pub table : w.table ≡ x
  pub request : RequestConforms s (record { principal = w.principal; action = w.action; resource = w.resource; context = w.context })
  pub actions : (u : Uid) → declares_action s u ≡ true → (d : Entity V) × (w.store u ≡ held d) × EntityConforms s u d

-- each slot of the policy is bound
abbrev pub IsBound : Policy → Type 0
IsBound p = (i : SlotId) → has_slot p i ≡ true → IsSome (binding_of p.bindings i)

-- each entity that the policy's condition looks up conforms
abbrev pub LookupsConform : Schema → World → Policy → Type 0
LookupsConform s w p = (u : Uid) → Looks (with_slots w p.bindings) (condition p) u → ConformsAt s w u

-- The environment is one of the policy's, fits its bindings, and suits the world.
abbrev pub IsCovered : Schema → Table → World → Policy → Type 0
IsCovered s x w p = (e : Environment) × Contains (policy_environments s p) e × (fits p e ≡ true) × Suits s x e (with_slots w p.bindings)

-- the condition can only mean false
abbrev pub IsFalse : World → Policy → Type 0
IsFalse w p = (r : Res V) → Means (with_slots w p.bindings) (condition p) r → r ≡ val (truth_value false)

-- Where the request conforms, an environment of the policy fits and suits it, or the scope doesn't match and the condition is false.
abbrev pub EnvironmentsCover : Type 0
EnvironmentsCover = (s : Schema) (x : Table) (w : World) (p : Policy) → IsOrderly s → IsConforming s x w → IsBound p → LookupsConform s w p → IsCovered s x w p ⊎ IsFalse w p

-- The condition of a policy that passes means a truth value, or errs as expected.
abbrev pub PassingIsSound : Type 0
PassingIsSound = (s : Schema) (x : Table) (w : World) (p : Policy) → IsOrderly s → IsConforming s x w → IsWhole w → IsBound p → LookupsConform s w p
    → Passes s x p → (r : Res V) × PolicyMeans w p r × IsGood (bool_type any_bool) r

-- An impossible policy isn't satisfied.
abbrev pub ImpossibleIsSound : Type 0
ImpossibleIsSound = (s : Schema) (x : Table) (w : World) (p : Policy) → IsOrderly s → IsConforming s x w → IsBound p → LookupsConform s w p → IsImpossible s x p → IsSatisfied w p → ⊥
