-- What levels promise of accepted submissions: what their policies look up is in the slice, so what is outside of it doesn't count.
-- Rule: the slice; levels (docs/RULES.md).
use Rattle.std.specs.Prelude.{◌≡◌, ◌≤◌, ℕ, Contains}
use Rattle.cedar_expr_model.specs.Uid.{Uid}
use Rattle.cedar_expr_model.specs.OfLaws.Fair.{IsFair}
use Rattle.cedar_expr_model.specs.Value.{V}
use Rattle.cedar_store_model.specs.Outcome.{Res}
use Rattle.cedar_store_model.specs.World.{World, Found}
use Rattle.cedar_store_model.specs.Looks.{Looks}
use Rattle.cedar_store_model.specs.Laws.{with_store}
use Rattle.cedar_store_model.specs.Knowledge.{IsWhole}
use Rattle.cedar_store_model.specs.Policy.{Policy, condition}
use Rattle.cedar_store_model.specs.Answer.{with_slots, PolicyMeans, IsSatisfied, answer_of}
use Rattle.cedar_schema_model.specs.Types.{any_bool, bool_type}
use Rattle.cedar_typechecker_model.specs.Verdicts.{IsImpossible}
use Rattle.cedar_typechecker_model.specs.Soundness.{IsGood}
use Rattle.cedar_typechecker_model.specs.PolicySoundness.{IsConforming}
use Rattle.cedar_gate_model.specs.Acceptance.{Submission, IsAccepted, schema_in}
use Rattle.cedar_evaluator_model.specs.Response.{PartialRequest}
use Rattle.cedar_gate_model.specs.Moment.{Completes}
use Rattle.cedar_typechecker_model.specs.Reach.{IsInReach, SliceConforms}

-- A world for a submission: the table is fair, the request conforms, and so do the declared actions and each entity in the slice at its level.
abbrev pub IsFitFor : Submission → World → Type 0
IsFitFor b w = IsConforming (schema_in b) b.table w × SliceConforms (schema_in b) b.level w

-- a world that completes a request is fit, where the table is fair
abbrev pub CompletionsFit : Type 0
CompletionsFit = (b : Submission) (start : PartialRequest) (w : World) → IsFair b.table → Completes (schema_in b) b.table b.level start w → IsFitFor b w

-- What the condition of a policy of an accepted submission looks up is in reach.
abbrev pub AcceptedAreInReach : Type 0
AcceptedAreInReach = (b : Submission) (w : World) (p : Policy) → IsAccepted b → IsFitFor b w → Contains b.policies p
    → (u : Uid) → Looks (with_slots w p.bindings) (condition p) u → IsInReach (schema_in b) b.level w u

-- Each policy of an accepted submission means a truth value or errs as expected, and an impossible one isn't satisfied.
abbrev pub AcceptedAreSound : Type 0
AcceptedAreSound = (b : Submission) (w : World) (p : Policy) → IsAccepted b → IsFitFor b w → Contains b.policies p
    → (IsWhole w → (r : Res V) × PolicyMeans w p r × IsGood (bool_type any_bool) r) × (IsImpossible (schema_in b) b.table p → IsSatisfied w p → ⊥)

-- An accepted submission has the same answer with a store that agrees on what is in reach.
abbrev pub OnlyTheSliceAnswers : Type 0
OnlyTheSliceAnswers = (b : Submission) (w : World) (store : Uid → Found V) → IsAccepted b → IsFitFor b w
    → ((u : Uid) → IsInReach (schema_in b) b.level w u → store u ≡ w.store u) → answer_of (with_store w store) b.policies ≡ answer_of w b.policies

-- what is accepted at a level is accepted at every larger one
abbrev pub LargerLevelsAccept : Type 0
LargerLevelsAccept = (b : Submission) (n : ℕ) → b.level ≤ n → IsAccepted b → IsAccepted (record b { level = n })
