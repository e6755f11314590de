-- What levels promise of the slice: what is looked up where there is no violation is in it.
-- Rule: the slice; levels (docs/RULES.md).
use Rattle.std.specs.Prelude.{◌≡◌, ℕ, [], true}
use Rattle.std.proofs.Common.{◌⊎◌}
use Rattle.cedar_expr_model.specs.Uid.{Uid}
use Rattle.cedar_expr_model.specs.Table.{Table}
use Rattle.cedar_expr_model.specs.Tree.{Tree}
use Rattle.cedar_store_model.specs.World.{World}
use Rattle.cedar_store_model.specs.Looks.{Looks}
use Rattle.cedar_store_model.specs.Policy.{Policy, condition}
use Rattle.cedar_store_model.specs.Answer.{with_slots}
use Rattle.cedar_schema_model.specs.Types.{Ty}
use Rattle.cedar_schema_model.specs.Schema.{Schema, declares_action}
use Rattle.cedar_schema_model.specs.Environment.{Environment}
use Rattle.cedar_typechecker_model.specs.Facts.{Facts}
use Rattle.cedar_typechecker_model.specs.Typing.{Types}
use Rattle.cedar_typechecker_model.specs.Levels.{violations}
use Rattle.cedar_typechecker_model.specs.Verdicts.{strictly, Passes, policy_violations}
use Rattle.cedar_typechecker_model.specs.OfLaws.Simple.{IsOrderly}
use Rattle.cedar_typechecker_model.specs.Soundness.{Hold, ConformsAt, Suits, SlotsAreBound}
use Rattle.cedar_typechecker_model.specs.PolicySoundness.{IsConforming, IsBound}
use Rattle.cedar_typechecker_model.specs.Slice.{InSlice}

-- in the slice, or a declared action
abbrev pub IsInReach : Schema → ℕ → World → Uid → Type 0
IsInReach s n w u = InSlice s n w u ⊎ (declares_action s u ≡ true)

-- each entity in the slice conforms
abbrev pub SliceConforms : Schema → ℕ → World → Type 0
SliceConforms s n w = (u : Uid) → InSlice s n w u → ConformsAt s w u

-- Where an expression that has a type in Strict has no violation at the level, what it looks up is in reach. Entities outside of the
-- slice may be anything.
abbrev pub LookupsAreInReach : Type 0
LookupsAreInReach = (n : ℕ) (s : Schema) (x : Table) (e : Environment) (w : World) → Suits s x e w → SliceConforms s n w
    → (known : Facts) (t : Tree) → Hold w known → SlotsAreBound w t → (ty : Ty) (out : Facts) → Types (strictly s x e) known t ty out
    → violations n (strictly s x e) known t ≡ [] → (u : Uid) → Looks w t u → IsInReach s n w u

-- Where the condition of a policy that passes has no violation at the level, what it looks up is in reach, whatever its slots are bound to.
abbrev pub ConditionsAreInReach : Type 0
ConditionsAreInReach = (n : ℕ) (s : Schema) (x : Table) (w : World) (p : Policy) → IsOrderly s → IsConforming s x w → SliceConforms s n w → IsBound p
    → Passes s x p → policy_violations n s x p ≡ [] → (u : Uid) → Looks (with_slots w p.bindings) (condition p) u → IsInReach s n w u
