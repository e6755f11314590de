-- A session stays opened along a run: each name is bound after those before it.
use Rattle.std.proofs.Common.{List, [], ◌∷◌, ◌++◌, Option, ⊎_elim}
use Rattle.std.specs.Prelude.{Contains}
use Rattle.cedar_expr_model.specs.Name.{Text}
use Rattle.cedar_expr_model.specs.Made.{Made}
use Rattle.cedar_expr_model.proofs.Lists.{contains_head, contains_tail}
use Rattle.cedar_store_model.specs.Policy.{Policy}
use Rattle.cedar_store_model.specs.Answer.{Decision}
use Rattle.cedar_evaluator_model.specs.Scope.{Context, closed, residual_fields, unknown_context}
use Rattle.cedar_evaluator_model.specs.OfLaws.WellMade.{IsWellMade}
use Rattle.cedar_gate_model.specs.Transcript as transcript
use Rattle.cedar_gate_model.specs.Transcript.{round, bound, decided}
use Rattle.cedar_gate_model.specs.Session.{Setup, State, at_start, ContextFails, with_bound, BindRefusal, BindFault, not_open, against_annotation, no_entity_or_record, context_fails}
use Rattle.cedar_gate_model.specs.Runs.{End, MayDecide, with_asked}
use Rattle.cedar_gate_model.specs.RunLaws.{bindings_in, last_state}
use Rattle.cedar_gate_model.specs.RunsAsk.{end_state}
use Rattle.cedar_gate_model.specs.RunsAnswer.{Course, session_of, IsProper, MayRun, AreBound, IsOpened}
use Rattle.cedar_gate_model.proofs.Runs.Did.{Did, run_did}
use Rattle.cedar_gate_model.proofs.Runs.Owing.{decided_then, nothing_before}

module _ (x : Setup) where
  -- what was asked for changes no binding
  fails_same : (s : State) (n : Text) (m : Made) (k : Context) → ContextFails x.functions (with_bound (record { bound = s.bound; asked = [] }) n m) k → ContextFails x.functions (with_bound s n m) k
  fails_same s n m (closed fs) h = h
  fails_same s n m (residual_fields fs) h = h
  fails_same s n m unknown_context h = h

  pub fault_same : (s : State) (n : Text) (m : Made) (f : BindRefusal) → BindFault x (record { bound = s.bound; asked = [] }) n m f → BindFault x s n m f
  fault_same s n m not_open h = h
  fault_same s n m against_annotation h = h
  fault_same s n m no_entity_or_record h = h
  fault_same s n m context_fails h = fails_same s n m x.start.context h

  pub bound_after : (may : State → Option Decision → Type 0) (ps : List Policy) (s : State) (bs : List (Text × Made)) (es : List transcript.Entry) → ((b : Text × Made) → Contains bs b → IsWellMade x.functions.table b.1) → Did may x ps s bs es → AreBound x s.bound
      → AreBound x (last_state s bs es).bound
  bound_after may ps s bs [] well d h = h
  bound_after may ps s bs (round uids ∷ es) well d h = bound_after may ps (with_asked s uids) bs es well d.1 h
  bound_after may ps s [] (bound k ∷ es) well d h = absurd d
  bound_after may ps s (b ∷ bs) (bound k ∷ es) well d h =
      bound_after may ps (with_bound s b.0 b.1) bs es (λ e m. well e (contains_tail b bs e m)) d.2 (h, (λ f q. d.1 f (fault_same s b.0 b.1 f q)), well b (contains_head b bs))
  bound_after may ps s bs (decided o ∷ es) well d h = bound_after may ps s bs es well d.1 h

pub deciding_states_are_opened : (c : Course) (before after : List transcript.Entry) (d : Option Decision) (end : End) → IsProper c → MayRun c (before ++ decided d ∷ after) end → IsOpened (session_of c) (end_state c.steps before)
deciding_states_are_opened c before after d end proper run =
    let x = session_of c in
    let ps = c.submission.policies in
    ⊎_elim (λ b. absurd (nothing_before before after (decided d) b.2))
    (λ b.
    let r = decided_then (MayDecide x ps) x ps at_start (bindings_in c.steps) before after d (b.1).0 in
    record { opened = b.0; bound = bound_after x (MayDecide x ps) ps at_start (bindings_in c.steps) before proper.values r.1 tt })
    (run_did (MayDecide x ps) x ps c.steps (before ++ decided d ∷ after) end run)
