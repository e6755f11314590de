-- What the laws say of what runs ask for.
-- Rule: runs; the slice (docs/RULES.md).
use Rattle.std.specs.Prelude.{◌≡◌, ◌↔◌, ◌≤◌, List, length, Contains, true}
use Rattle.cedar_expr_model.specs.Uid.{Uid}
use Rattle.cedar_expr_model.specs.Tree.{record_literal}
use Rattle.cedar_expr_model.specs.Restricted.{is_restricted}
use Rattle.cedar_expr_model.specs.Unknowns.{has_unknown}
use Rattle.cedar_store_model.specs.Policy.{Policy}
use Rattle.cedar_store_model.specs.Answer.{Answer}
use Rattle.cedar_schema_model.specs.BagLaws.{HasTwice}
use Rattle.cedar_evaluator_model.specs.Scope.{Context, closed, residual_fields, unknown_context}
use Rattle.cedar_typechecker_model.specs.Slice.{InSlice}
use Rattle.cedar_gate_model.specs.Transcript.{Step, Entry}
use Rattle.cedar_gate_model.specs.Session.{Setup, State, at_start, world_now}
use Rattle.cedar_gate_model.specs.Runs.{End, answered, MayDecide, Runs}
use Rattle.cedar_gate_model.specs.GateLaws.{asked_in, last_rounds}
use Rattle.cedar_gate_model.specs.RunLaws.{bindings_in, last_state}

-- a context as it is made: fields that aren't values are restricted expressions, and an unknown stands in them
abbrev pub IsMadeContext : Context → Type 0
IsMadeContext (closed fs) = Unit {0}
IsMadeContext (residual_fields fs) = (has_unknown (record_literal fs) ≡ true) × (is_restricted (record_literal fs) ≡ true)
IsMadeContext unknown_context = Unit {0}

-- the state at the end of a run
abbrev pub end_state : List Step → List Entry → State
end_state steps es = last_state at_start (bindings_in steps) es

-- no uid is asked for twice, in two rounds or in one
abbrev pub RunsAskOnce : Type 0
RunsAskOnce = (x : Setup) (ps : List Policy) (steps : List Step) (es : List Entry) (end : End) → Runs (MayDecide x ps) x ps steps es end → HasTwice (asked_in es) → ⊥

-- What was asked for, of a refused run too, is in the slice of what was bound by the end, over the whole store.
abbrev pub RunsAskInTheSlice : Type 0
RunsAskInTheSlice = (x : Setup) (ps : List Policy) (steps : List Step) (es : List Entry) (end : End) → IsMadeContext x.start.context → Runs (MayDecide x ps) x ps steps es end
    → (u : Uid) → Contains (asked_in es) u → InSlice x.schema x.level (world_now x (end_state steps es)) u

-- what an answered run asked for is exactly that slice
abbrev pub RunsAskTheSlice : Type 0
RunsAskTheSlice = (x : Setup) (ps : List Policy) (steps : List Step) (es : List Entry) (a : Answer) → IsMadeContext x.start.context → Runs (MayDecide x ps) x ps steps es (answered a)
    → (u : Uid) → Contains (asked_in es) u ↔ InSlice x.schema x.level (world_now x (end_state steps es)) u

-- at most as many rounds follow the last binding as the level says
abbrev pub RunsHaveFewRounds : Type 0
RunsHaveFewRounds = (x : Setup) (ps : List Policy) (steps : List Step) (es : List Entry) (end : End) → Runs (MayDecide x ps) x ps steps es end → length (last_rounds es) ≤ x.level
