-- What a policy that passes in the strict mode promises of its meaning, under a schema and a table that answer typing alike.
-- Rule: typing; levels; the slice (docs/RULES.md).
use Rattle.std.specs.Prelude.{ℕ, ◌≡◌, Bool, true}
use Rattle.cedar_expr_model.specs.Table.{Table}
use Rattle.cedar_expr_model.specs.Tree.{Tree}
use Rattle.cedar_expr_model.specs.Uid.{Uid}
use Rattle.cedar_expr_model.specs.Value.{V}
use Rattle.cedar_typechecker_model.specs.Reach.{IsInReach, SliceConforms}
use Rattle.cedar_schema_model.specs.Environment.{Environment}
use Rattle.cedar_schema_model.specs.Schema.{Schema}
use Rattle.cedar_schema_model.specs.Types.{any_bool, bool_type}
use Rattle.cedar_store_model.specs.Answer.{with_slots, PolicyMeans}
use Rattle.cedar_store_model.specs.Knowledge.{IsWhole}
use Rattle.cedar_store_model.specs.Looks.{Looks}
use Rattle.cedar_store_model.specs.Meaning.{Means}
use Rattle.cedar_store_model.specs.Outcome.{Res}
use Rattle.cedar_store_model.specs.Policy.{Policy, SlotBindings, condition}
use Rattle.cedar_store_model.specs.World.{World}
use Rattle.cedar_typechecker_model.specs.OfLaws.Simple.{IsOrderly}
use Rattle.cedar_typechecker_model.specs.PolicySoundness.{IsConforming, IsBound, LookupsConform}
use Rattle.cedar_typechecker_model.specs.Rules.{Setting}
use Rattle.cedar_typechecker_model.specs.Soundness.{IsGood, ConformsAt, Suits, SlotsAreBound}
use Rattle.cedar_typechecker_model.specs.Alike.{AnswersAlike, HasSameSignatures}
use Rattle.cedar_typechecker_policies.specs.Checks.{verdict_seen, is_passing}
use Rattle.cedar_typechecker_policies.specs.declared.check.PolicyCheck.{PolicyCheck}

-- of each schema and table that answer typing alike
abbrev pub ForAlike : Schema → Table → (Schema → Table → Type 0) → Type 0
ForAlike s x P = (d : Schema) (y : Table) → AnswersAlike s d → HasSameSignatures x y → P d y

-- In a world that suits the environment all that the expression means is a truth value, or an error by a missing entity, an overflow, a
-- zero divisor or a failed extension function; and where everything is known it means one of these.
abbrev pub MeansTruth : Environment → Tree → Schema → Table → Type 0
MeansTruth e t d y = (w : World) → Suits d y e w → SlotsAreBound w t → ((u : Uid) → Looks w t u → ConformsAt d w u)
    → ((r : Res V) → Means w t r → IsGood (bool_type any_bool) r) × (IsWhole w → (r : Res V) × Means w t r)

-- if the check of the policy passes
abbrev pub MeansTruthIfPassing : Setting → Policy → PolicyCheck → Type 0
MeansTruthIfPassing s p c = is_passing (verdict_seen c) ≡ true → ForAlike s.schema s.table (MeansTruth s.env (condition p))

-- the policy with these bindings
abbrev pub with_bindings : Policy → SlotBindings → Policy
with_bindings p b = record p { bindings = b }

-- So does the condition of a policy in every conforming request and store, whatever its slots are bound to.
abbrev pub PolicyMeansTruth : Policy → Schema → Table → Type 0
PolicyMeansTruth p d y = (b : SlotBindings) (w : World) → IsOrderly d → IsConforming d y w → IsWhole w → IsBound (with_bindings p b) → LookupsConform d w (with_bindings p b)
    → (r : Res V) × PolicyMeans w (with_bindings p b) r × IsGood (bool_type any_bool) r

-- if it passes
abbrev pub PolicyMeansTruthIf : Schema → Table → Policy → Bool → Type 0
PolicyMeansTruthIf s x p b = b ≡ true → ForAlike s x (PolicyMeansTruth p)

-- Every uid that it looks up lies in the slice at the level, or is a declared action.
abbrev pub LooksInReach : ℕ → Policy → Schema → Table → Type 0
LooksInReach n p d y = (b : SlotBindings) (w : World) → IsOrderly d → IsConforming d y w → SliceConforms d n w → IsBound (with_bindings p b)
    → (u : Uid) → Looks (with_slots w b) (condition p) u → IsInReach d n w u
