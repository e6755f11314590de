-- What the laws of acceptance, slices and transcripts say.
-- Rule: the acceptance rules; impossible policies; the slice; legal transcript (docs/RULES.md).
use Rattle.std.specs.Prelude.{◌≡◌, ◌↔◌, ◌≤◌, ℕ, suc, List, ◌∷◌, ◌++◌, length, Contains, true, false, codes, Some, IsSome, Bool, [], ◌&&◌}
use Rattle.std.specs.Bool.{Decides}
use Rattle.cedar_expr_model.specs.Name.{Text}
use Rattle.cedar_expr_model.specs.Uid.{Uid}
use Rattle.cedar_expr_model.specs.Value.{V}
use Rattle.cedar_expr_model.specs.Tree.{SlotId, nesting}
use Rattle.cedar_expr_model.specs.Unknowns.{has_unknown}
use Rattle.cedar_store_model.specs.World.{World, Entity, held}
use Rattle.cedar_store_model.specs.Policy.{Policy, binding_of, body_tree, condition, tree_uses, has_slot}
use Rattle.cedar_store_model.specs.OfLaws.Extends.{Extends}
use Rattle.cedar_store_model.specs.Answer.{Decision, ids, decision_of, reasons_of}
use Rattle.cedar_schema_model.specs.Schema.{Schema}
use Rattle.cedar_schema_model.specs.WellFormed.{IsWellFormed, unresolved_external, well_formed}
use Rattle.cedar_schema_model.specs.BagLaws.{HasSchemaFault, HasTwice}
use Rattle.cedar_typechecker_model.specs.ScopeRules.{NamesKnownTypes, NamesKnownActions, NamesKnownMembers}
use Rattle.cedar_typechecker_model.specs.Levels.{Violation}
use Rattle.cedar_typechecker_model.specs.Verdicts.{RequestType, Passes, IsImpossible, IsIrrelevant, policy_violations}
use Rattle.cedar_gate_model.specs.Acceptance.{Submission, Cause, IsAccepted, HasFault, extension_types, schema_in, warnings_of, policies_for, external, repeated_policy, unlinked_slot, slot_outside_scope, is_clear_of, unknown_in_policy, nests_too_deep, unknown_entity_type, unknown_action, no_member, ill_typed, reaches_too_far}
use Rattle.cedar_typechecker_model.specs.Slice.{IsNear, near, InSlice, slice}
use Rattle.cedar_evaluator_model.specs.Response.{PartialRequest}
use Rattle.cedar_gate_model.specs.Moment.{Moment, at_first, entry_known, context_known}
use Rattle.cedar_gate_model.specs.Transcript.{Case, Entry, round, decided, AreLegal, IsWanted, after, bound}
use Rattle.std.specs.Map.{keys_of}
use Rattle.std.specs.List.{list_all}

-- acceptance as a test
abbrev pub policy_causes : List Cause
policy_causes = external ∷ repeated_policy ∷ unlinked_slot ∷ slot_outside_scope ∷ unknown_in_policy ∷ nests_too_deep ∷ unknown_entity_type
    ∷ unknown_action ∷ no_member ∷ ill_typed ∷ reaches_too_far ∷ []

abbrev pub admits : Submission → Bool
admits s = well_formed (extension_types s.table) s.declarations && list_all (λ c. is_clear_of c s) policy_causes

-- the test of a submission decides whether it is accepted
abbrev pub AcceptanceDecides : Type 0
AcceptanceDecides = (s : Submission) → Decides (admits s) (IsAccepted s)

-- no accepted submission has a fault
abbrev pub FaultsExclude : Type 0
FaultsExclude = (c : Cause) (s : Submission) → HasFault c s → IsAccepted s → ⊥

-- what the test refuses has a fault
abbrev pub RefusalHasFault : Type 0
RefusalHasFault = (s : Submission) → admits s ≡ false → (c : Cause) × HasFault c s

-- What is asked of a policy alone: its slots are bound and stand in its scope, it has no unknown, and nests no deeper than the limit.
pub record IsGoodPolicy (limit : ℕ) (p : Policy) : Type 0 where
  pub linked : (x : SlotId) → has_slot p x ≡ true → IsSome (binding_of p.bindings x)
  pub in_scope : (x : SlotId) → tree_uses (body_tree p.body) x ≡ false
  pub known : has_unknown (condition p) ≡ false
  pub shallow : nesting (condition p) ≤ limit

-- What is asked of it against the schema: it names only what is declared, passes in each environment, and reaches no further than
-- the level.
pub record FitsSchema (s : Submission) (p : Policy) : Type 0 where
  pub types : NamesKnownTypes (schema_in s) p
  pub actions : NamesKnownActions (schema_in s) p
  pub members : NamesKnownMembers (schema_in s) p
  pub typed : Passes (schema_in s) s.table p
  pub near_enough : (v : Violation) → Contains (policy_violations s.level (schema_in s) s.table p) v → ⊥

-- the acceptance rules as they are read
pub record IsGood (s : Submission) : Type 0 where
  pub well_formed : IsWellFormed (extension_types s.table) s.declarations
  pub resolved : HasSchemaFault (extension_types s.table) s.declarations unresolved_external → ⊥
  pub distinct : HasTwice (ids s.policies) → ⊥
  pub each : (p : Policy) → Contains s.policies p → IsGoodPolicy s.limit p
  pub fits : (p : Policy) → Contains s.policies p → FitsSchema s p

-- a submission is accepted exactly where they hold
abbrev pub AcceptanceReads : Type 0
AcceptanceReads = (s : Submission) → IsAccepted s ↔ IsGood s

-- an id is warned of exactly where an impossible policy has it
abbrev pub WarnedAreImpossible : Type 0
WarnedAreImpossible = (s : Submission) (id : Text) → Contains (warnings_of s) id ↔ ((p : Policy) × Contains s.policies p × IsImpossible (schema_in s) s.table p × (p.id ≡ id))

-- an id is given for a request's types exactly where a policy has it that isn't irrelevant for them
abbrev pub GivenAreRelevant : Type 0
GivenAreRelevant = (s : Submission) (r : RequestType) (id : Text) → Contains (policies_for s r) id ↔ ((p : Policy) × Contains s.policies p × (IsIrrelevant (schema_in s) s.table r p → ⊥) × (p.id ≡ id))

-- an impossible policy is irrelevant for the types of every request
abbrev pub ImpossibleIsIrrelevant : Type 0
ImpossibleIsIrrelevant = (s : Submission) (r : RequestType) (p : Policy) → IsImpossible (schema_in s) s.table p → IsIrrelevant (schema_in s) s.table r p

-- the lists have exactly what is near, or in the slice
abbrev pub NearAreListed : Type 0
NearAreListed = (n : ℕ) (w : World) (u : Uid) → Contains (near n w) u ↔ IsNear n w u

abbrev pub SliceIsListed : Type 0
SliceIsListed = (s : Schema) (n : ℕ) (w : World) (u : Uid) → Contains (slice s n w) u ↔ InSlice s n w u

-- the slice at level 0 has nothing, and that of a larger level has all of that of a smaller one
abbrev pub SliceIsEmpty : Type 0
SliceIsEmpty = (s : Schema) (w : World) (u : Uid) → InSlice s 0 w u → ⊥

abbrev pub SliceGrows : Type 0
SliceGrows = (s : Schema) (m n : ℕ) (w : World) (u : Uid) → m ≤ n → InSlice s m w u → InSlice s n w u

-- each held entity has each attribute and each tag once
abbrev pub HasNamesOnce : Entity V → Type 0
HasNamesOnce e = (HasTwice (keys_of e.attributes) → ⊥) × (HasTwice (keys_of e.tags) → ⊥)

abbrev pub HoldsNamesOnce : World → Type 0
HoldsNamesOnce w = (u : Uid) (e : Entity V) → w.store u ≡ held e → HasNamesOnce e

-- what is in the slice stays there where more is known
abbrev pub KnowledgeKeepsTheSlice : Type 0
KnowledgeKeepsTheSlice = (s : Schema) (n : ℕ) (k w : World) (u : Uid) → HoldsNamesOnce k → Extends k w → InSlice s n k u → InSlice s n w u

-- Two worlds have the same principal, resource and context.
pub record SameRoots (v w : World) : Type 0 where
  pub principal : v.principal ≡ w.principal
  pub resource : v.resource ≡ w.resource
  pub context : v.context ≡ w.context

-- only what is held nearer than the slice matters: worlds that agree on it have the same slice
abbrev pub SliceIsLocal : Type 0
SliceIsLocal = (s : Schema) (n : ℕ) (v w : World) → SameRoots v w → ((x : Uid) → IsNear n w x → v.store x ≡ w.store x)
    → (u : Uid) → InSlice s (suc n) w u ↔ InSlice s (suc n) v u

-- the moment at the end of entries
abbrev pub moment_after : Moment → List Entry → Moment
moment_after m [] = m
moment_after m (e ∷ es) = moment_after (after m e) es

-- the uids that a transcript asked for
abbrev pub asked_in : List Entry → List Uid
asked_in es = (moment_after at_first es).asked

-- the rounds after the last binding
abbrev pub rounds_after : List Entry → List (List Uid) → List (List Uid)
rounds_after [] found = found
rounds_after (round uids ∷ es) found = rounds_after es (found ++ uids ∷ [])
rounds_after (bound n ∷ es) found = rounds_after es []
rounds_after (decided d ∷ es) found = rounds_after es found

abbrev pub last_rounds : List Entry → List (List Uid)
last_rounds es = rounds_after es []

-- What is promised of the questions of a run that answered: what was asked is the slice, and few rounds follow the last binding.
pub record AsksTheSlice (c : Case) (w : World) (es : List Entry) : Type 0 where
  pub exact : (u : Uid) → Contains (asked_in es) u ↔ InSlice c.schema c.level w u
  pub few : length (last_rounds es) ≤ c.level

-- what a legal transcript asked for is in the slice of the whole world
abbrev pub AskedIsInSlice : Type 0
AskedIsInSlice = (c : Case) (w : World) (es : List Entry) (u : Uid) → AreLegal c w at_first es → Contains (asked_in es) u → InSlice c.schema c.level w u

-- no uid of a round was asked for before
abbrev pub AskedOnce : Type 0
AskedOnce = (c : Case) (w : World) (before after : List Entry) (uids : List Uid) (u : Uid) → AreLegal c w at_first (before ++ round uids ∷ after)
    → Contains (asked_in before) u → Contains uids u → ⊥

-- each decision that is given is that of the answer, so two are equal
abbrev pub DecisionsAreFinal : Type 0
DecisionsAreFinal = (c : Case) (w : World) (es : List Entry) (d : Decision) → AreLegal c w at_first es → Contains es (decided (Some d)) → d ≡ decision_of w c.policies

abbrev pub OneDecision : Type 0
OneDecision = (c : Case) (w : World) (es : List Entry) (d e : Decision) → AreLegal c w at_first es → Contains es (decided (Some d)) → Contains es (decided (Some e)) → d ≡ e

-- at most as many rounds follow the last binding as the level says
abbrev pub RoundsAreFew : Type 0
RoundsAreFew = (c : Case) (w : World) (es : List Entry) → AreLegal c w at_first es → length (last_rounds es) ≤ c.level

-- principal, resource and context are known
abbrev pub KnowsRoots : PartialRequest → Moment → Type 0
KnowsRoots r m = (entry_known m (codes "principal") r.principal ≡ true) × (entry_known m (codes "resource") r.resource ≡ true) × (context_known m r.context ≡ true)

-- where all is known and nothing is wanted any more, what was asked for is the slice
abbrev pub SliceIsAsked : Type 0
SliceIsAsked = (c : Case) (w : World) (es : List Entry) → AreLegal c w at_first es → KnowsRoots c.start (moment_after at_first es)
    → ((u : Uid) → IsWanted c w (moment_after at_first es) u → ⊥) → AsksTheSlice c w es

-- what must be among the reasons and what may be: bounds that hold in a completion
pub record Bounds : Type 0 where
  pub must : List Text
  pub may : List Text

pub record Holds (b : Bounds) (w : World) (ps : List Policy) : Type 0 where
  pub within : (id : Text) → Contains b.must id → Contains (reasons_of w ps) id
  pub covers : (id : Text) → Contains (reasons_of w ps) id → Contains b.may id
