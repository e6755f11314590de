-- The decisions that are given on the way of an answered run are its answer's.
use Rattle.std.proofs.Common.{◌≡◌, ◌∙◌, true, false, List, [], ◌∷◌, Option, Some, None, is_some, ⊎_elim, sym, ap, subst}
use Rattle.std.specs.Prelude.{Contains, IsSome}
use Rattle.cedar_expr_model.specs.Name.{Text}
use Rattle.cedar_expr_model.specs.Made.{Made}
use Rattle.cedar_expr_model.specs.Parts.{subexpressions, unknown_here}
use Rattle.cedar_expr_model.specs.Tree.{CoreType, Tree}
use Rattle.cedar_expr_model.specs.Unknowns.{has_unknown}
use Rattle.cedar_expr_model.proofs.Lists.{contains_cases, contains_none, any_has}
use Rattle.cedar_expr_model.proofs.Gathering.{EachIn, each_in}
use Rattle.cedar_store_model.specs.World.{World}
use Rattle.cedar_store_model.specs.Policy.{Policy, condition}
use Rattle.cedar_store_model.specs.Answer.{Decision, Answer, with_slots, answer_of, decision_of}
use Rattle.cedar_store_model.proofs.Conditions.{condition_asked}
use Rattle.cedar_store_model.proofs.Stores.{same_answers}
use Rattle.cedar_evaluator_model.specs.OfLaws.Whole.{LeavesNothing}
use Rattle.cedar_evaluator_model.proofs.Exact.{typed_tables_leave_nothing}
use Rattle.cedar_evaluator_model.proofs.Residuals.Groups.{kept_from}
use Rattle.cedar_evaluator_model.proofs.Settled.{same_filled}
use Rattle.cedar_gate_model.specs.Session.{Setup, State, at_start, with_bound, CompletesNow}
use Rattle.cedar_gate_model.specs.Transcript as transcript
use Rattle.cedar_gate_model.specs.Transcript.{round, bound, decided}
use Rattle.cedar_gate_model.specs.Runs.{MayDecide, with_asked, answered, opening_refused}
use Rattle.cedar_gate_model.specs.RunLaws.{bindings_in, last_state}
use Rattle.cedar_gate_model.specs.RunsAsk.{end_state}
use Rattle.cedar_gate_model.specs.RunsAnswer.{Course, session_of, IsAdmitted, IsProper, MayRun, end_world, with_unknowns}
use Rattle.cedar_gate_model.proofs.Gate.Accepting.{acceptance_reads}
use Rattle.cedar_gate_model.proofs.Gate.LegalRuns.{completes_before}
use Rattle.cedar_gate_model.proofs.Runs.Did.{Did, run_did}
use Rattle.cedar_gate_model.proofs.Runs.Completing.{stands_at_start, stands_after, completed}

-- an expression without unknowns means the same whatever unknowns mean
pub none_unknown : (t : Tree) → has_unknown t ≡ false → (P : Text → Option CoreType → Type 0) → EachIn P t
none_unknown t e P =
    (each_in P t).0
    (λ u k.
    let r = kept_from unknown_here (subexpressions t) u k in
    let has : has_unknown t ≡ true = any_has (λ s. is_some (unknown_here s)) (subexpressions t) r.0 r.1 (ap is_some r.2) in
    absurd (let no : true ≡ false = sym has ∙ e in cc))

abbrev NoneHasUnknowns : List Policy → Type 0
NoneHasUnknowns ps = (p : Policy) → Contains ps p → has_unknown (condition p) ≡ false

pub unknowns_say_nothing : (w : World) (ps : List Policy) → LeavesNothing w.table → NoneHasUnknowns ps → answer_of (with_unknowns w) ps ≡ answer_of w ps
unknowns_say_nothing w ps leaves known =
    same_answers (with_unknowns w) w ps
    (λ p k. let u = with_slots w p.bindings in condition_asked (with_unknowns w) p ∙ same_filled u leaves (condition p) (none_unknown (condition p) (known p k) (λ n a. IsSome (u.unknowns n))) ∙ sym (condition_asked w p))

-- a decision that is given holds in a world that completes the end
module _ (x : Setup) (ps : List Policy) (w : World) where
  given_now : (s : State) (o : Option Decision) (d : Decision) → CompletesNow x s w → MayDecide x ps s o → o ≡ Some d → d ≡ decision_of w ps
  given_now s None d c h e = cc
  given_now s (Some g) d c h e = let k : g ≡ decision_of w ps = h w c in let q : g ≡ d = cc in sym q ∙ k

  abbrev decision_in : transcript.Entry → Option Decision → Option Decision
  decision_in (decided o) d = o
  decision_in e d = d

  pub given : (s : State) (bs : List (Text × Made)) (es : List transcript.Entry) (d : Decision) → Did (MayDecide x ps) x ps s bs es → CompletesNow x (last_state s bs es) w → Contains es (decided (Some d)) → d ≡ decision_of w ps
  given s bs [] d h c k = absurd (contains_none (decided (Some d)) k)
  given s bs (round uids ∷ es) d h c k = contains_cases (d ≡ decision_of w ps) (round uids) es (decided (Some d)) k (λ e. cc) (given (with_asked s uids) bs es d h.1 c)
  given s [] (bound n ∷ es) d h c k = absurd h
  given s (b ∷ bs) (bound n ∷ es) d h c k = contains_cases (d ≡ decision_of w ps) (bound n) es (decided (Some d)) k (λ e. cc) (given (with_bound s b.0 b.1) bs es d h.2 c)
  given s bs (decided o ∷ es) d h c k =
      contains_cases (d ≡ decision_of w ps) (decided o) es (decided (Some d)) k
      (λ e. given_now s o d (completes_before x s bs (decided o ∷ es) w c) h.0 (ap (λ z. decision_in z None) e))
      (given s bs es d h.1 c)

-- an accepted submission
module _ (c : Course) (admitted : IsAdmitted c) where
  pub none_has_unknowns : NoneHasUnknowns c.submission.policies
  none_has_unknowns p k = (((acceptance_reads c.submission).0 admitted.accepted).each p k).known

  pub leaves_nothing : LeavesNothing c.functions.table
  leaves_nothing = subst LeavesNothing (sym (admitted.fair).table) (typed_tables_leave_nothing c.submission.table (admitted.fair).fair (admitted.fair).typed)

module _ (c : Course) (es : List transcript.Entry) (a : Answer) (run : MayRun c es (answered a)) where
  pub answer_is : a ≡ answer_of (end_world c es) c.submission.policies
  answer_is =
      let x = session_of c in
      let ps = c.submission.policies in
      ⊎_elim (λ b. let q : answered a ≡ opening_refused b.0 = b.1 in cc) (λ b. ((b.1).1).2) (run_did (MayDecide x ps) x ps c.steps es (answered a) run)

module _ (c : Course) (proper : IsProper c) (es : List transcript.Entry) (a : Answer) (run : MayRun c es (answered a)) where
  pub completes_end : CompletesNow (session_of c) (end_state c.steps es) (with_unknowns (end_world c es))
  completes_end =
      let x = session_of c in
      let ps = c.submission.policies in
      ⊎_elim (λ b. let q : answered a ≡ opening_refused b.0 = b.1 in cc)
      (λ b.
      let d = b.1 in
      let t = end_state c.steps es in
      let stands = stands_after x (MayDecide x ps) ps at_start (bindings_in c.steps) es proper.values d.0 (stands_at_start x) in
      completed x t stands (d.1).0 (d.1).1 b.0 (proper.admitted.fair).agrees proper.admitted.context proper.admitted.store)
      (run_did (MayDecide x ps) x ps c.steps es (answered a) run)

  pub given_decisions : (d : Decision) → Contains es (decided (Some d)) → d ≡ a.decision
  given_decisions d k =
      let x = session_of c in
      let ps = c.submission.policies in
      let w = end_world c es in
      ⊎_elim (λ b. let q : answered a ≡ opening_refused b.0 = b.1 in cc)
      (λ b.
      given x ps (with_unknowns w) at_start (bindings_in c.steps) es d (b.1).0 completes_end k
      ∙ ap (λ z. z.decision) (unknowns_say_nothing w ps (leaves_nothing c proper.admitted) (none_has_unknowns c proper.admitted)) ∙ ap (λ z. z.decision) (sym (answer_is c es a run)))
      (run_did (MayDecide x ps) x ps c.steps es (answered a) run)
