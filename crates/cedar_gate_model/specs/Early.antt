-- What the laws say of the decisions and bounds that a session gives before the answer.
-- Rule: runs; completions; owed decisions; partial responses (docs/RULES.md).
use Rattle.std.specs.Prelude.{◌≡◌, Contains, Option, Some, IsSome}
use Rattle.cedar_expr_model.specs.Uid.{Uid}
use Rattle.cedar_expr_model.specs.Made.{Made}
use Rattle.cedar_expr_model.specs.Value.{V}
use Rattle.cedar_store_model.specs.Answer.{Decision, with_slots, reasons_of, decision_of}
use Rattle.cedar_store_model.specs.Looks.{Looks}
use Rattle.cedar_store_model.specs.Policy.{Policy, condition}
use Rattle.cedar_store_model.specs.World.{World, Entity, Found, not_loaded}
use Rattle.cedar_evaluator_model.specs.Members.{Bounds, bounds_in_session}
use Rattle.cedar_evaluator_model.specs.Response.{response_of}
use Rattle.cedar_schema_model.specs.Conforming.{EntityConforms}
use Rattle.cedar_gate_model.specs.GateLaws.{Holds}
use Rattle.cedar_gate_model.specs.Owed.{IsForced}
use Rattle.cedar_gate_model.specs.Runs.{IsKnownBy, DecidesInPart}
use Rattle.cedar_gate_model.specs.RunsAnswer.{Course, session_of, IsAdmitted, MakeFairly, IsReady, IsOpened, IsKnownStore}
use Rattle.cedar_gate_model.specs.Session.{Setup, State, scope_now, known_now, world_now, MeetsLimit, HasOpenName, CompletesNow}

-- what was answered conforms
abbrev pub AnsweredConform : Setup → State → Type 0
AnsweredConform x s = (u : Uid) (e : Entity V) → Contains s.asked u → x.store u ≡ Some e → EntityConforms x.schema u e

-- What a session's decision keeps: one that is given is that of every completion; one is given where what is known forces it, unless a
-- policy meets the limit; and so it is once all is bound and loaded.
pub record KeepsDecision (c : Course) (s : State) (d : Option Decision) : Type 0 where
  pub hold : (given : Decision) → d ≡ Some given → (w : World) → CompletesNow (session_of c) s w → given ≡ decision_of w c.submission.policies
  pub forced : (given : Decision) → IsForced (known_now (session_of c) s) c.submission.policies given → (MeetsLimit (session_of c) c.submission.policies s → ⊥) → IsSome d
  pub owed : IsReady c s → IsSome d

-- So does the decision of evaluating in part, in a session that opened, bound its names and took in what conforms.
abbrev pub DecisionsAreKept : Type 0
DecisionsAreKept = (c : Course) (s : State) (d : Option Decision) → IsAdmitted c → MakeFairly c.functions → IsOpened (session_of c) s → AnsweredConform (session_of c) s
    → DecidesInPart (session_of c) c.submission.policies s d → KeepsDecision c s d

-- the bounds that evaluating in part gives at a state, over a store of what is known
abbrev pub bounds_now : Course → State → (Uid → Found Made) → Option Bounds
bounds_now c s store = bounds_in_session c.submission.policies (response_of (scope_now (session_of c) s store) c.submission.limit c.submission.policies)

-- Bounds that are given hold in every completion of the state: what must determine the decision is among the reasons there, and the
-- reasons are among what may.
abbrev pub GivenBoundsHold : Type 0
GivenBoundsHold = (c : Course) (s : State) (store : Uid → Found Made) → IsAdmitted c → MakeFairly c.functions → IsOpened (session_of c) s → IsKnownStore c s store
    → (b : Bounds) → bounds_now c s store ≡ Some b → (w : World) → CompletesNow (session_of c) s w → Holds (record { must = b.must; may = b.may }) w c.submission.policies

-- everything is bound
abbrev pub AllIsBound : Course → State → Type 0
AllIsBound c s = HasOpenName c.start s → ⊥

-- then bounds are given
abbrev pub BoundsAreOwed : Type 0
BoundsAreOwed = (c : Course) (s : State) (store : Uid → Found Made) → IsAdmitted c → IsOpened (session_of c) s → IsKnownStore c s store → AllIsBound c s → IsSome (bounds_now c s store)

-- Each uid that a policy looks up over the whole store is known: a declared action, an entity that was answered, or missing.
abbrev pub HoldsLookups : Course → State → Type 0
HoldsLookups c s = (p : Policy) (u : Uid) → Contains c.submission.policies p → Looks (with_slots (world_now (session_of c) s) p.bindings) (condition p) u
    → (known_now (session_of c) s).store u ≡ not_loaded → ⊥

-- then both bounds are the reasons of the answer, in policy order
abbrev pub BoundsAreTheReasons : Type 0
BoundsAreTheReasons = (c : Course) (s : State) (store : Uid → Found Made) → IsAdmitted c → IsOpened (session_of c) s → IsKnownStore c s store → AllIsBound c s → HoldsLookups c s
    → let rs = reasons_of (world_now (session_of c) s) c.submission.policies in bounds_now c s store ≡ Some (record { must = rs; may = rs })

-- The bounds are those of evaluating the policies in part, by what is known.
abbrev pub BoundsInPart : Course → State → Option Bounds → Type 0
BoundsInPart c s b = (store : Uid → Found Made) × IsKnownBy (session_of c) s store × (b ≡ bounds_now c s store)

-- What such bounds keep: those that are given hold in every completion, they are given where all is bound, and both are the reasons of the
-- answer where all that is looked up is known too.
pub record KeepsBounds (c : Course) (s : State) (b : Option Bounds) : Type 0 where
  pub hold : (given : Bounds) → b ≡ Some given → (w : World) → CompletesNow (session_of c) s w → Holds (record { must = given.must; may = given.may }) w c.submission.policies
  pub owed : AllIsBound c s → IsSome b
  pub reasons : AllIsBound c s → HoldsLookups c s → let rs = reasons_of (world_now (session_of c) s) c.submission.policies in b ≡ Some (record { must = rs; may = rs })

abbrev pub BoundsAreKept : Type 0
BoundsAreKept = (c : Course) (s : State) (b : Option Bounds) → IsAdmitted c → MakeFairly c.functions → IsOpened (session_of c) s → BoundsInPart c s b → KeepsBounds c s b
