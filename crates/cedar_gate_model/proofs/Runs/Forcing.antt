-- Evaluating the policies over what is known gives each decision that is owed.
use Rattle.std.proofs.Common.{◌≡◌, ◌∙◌, Bool, true, false, List, Some, None, inl, inr, refl, sym, subst}
use Rattle.cedar_expr_model.specs.Uid.{Uid}
use Rattle.cedar_expr_model.specs.Made.{Made}
use Rattle.cedar_expr_model.specs.Value.{truth_value}
use Rattle.cedar_expr_model.proofs.Gathering.{each_in}
use Rattle.cedar_store_model.specs.Outcome.{val}
use Rattle.cedar_store_model.specs.World.{World, Found}
use Rattle.cedar_store_model.specs.Policy.{Policy, condition}
use Rattle.cedar_store_model.specs.Answer.{Decision, allow, deny, IsSatisfied}
use Rattle.cedar_store_model.proofs.Conditions.{policies_mean_truth}
use Rattle.cedar_evaluator_model.specs.Completion.{FitsAnnotations}
use Rattle.cedar_evaluator_model.specs.Known.{known_found, known_world}
use Rattle.cedar_evaluator_model.specs.Laws.{IsReady, IsUnsatisfied}
use Rattle.cedar_evaluator_model.specs.Members.{met_limit, decision_in_session}
use Rattle.cedar_evaluator_model.specs.Response.{response_of}
use Rattle.cedar_evaluator_model.specs.Scope.{Scope}
use Rattle.cedar_evaluator_model.proofs.Exact.{leaves_unbound}
use Rattle.cedar_evaluator_model.proofs.Forced.{forbid_forces, permit_forces, no_permit_forces}
use Rattle.cedar_gate_model.specs.Owed.{IsForcedFalse, IsForced}
use Rattle.cedar_gate_model.specs.Runs.{MayDecide}
use Rattle.cedar_gate_model.specs.RunsAnswer.{Course, session_of, IsAdmitted}
use Rattle.cedar_gate_model.specs.Session.{State, known_now, scope_now}
use Rattle.cedar_gate_model.proofs.Runs.Deciding.{none_unknown, none_has_unknowns, leaves_nothing}
use Rattle.cedar_gate_model.proofs.Runs.Owing.{each_all}
use Rattle.cedar_gate_model.proofs.Named.{IsForcedTrue}

is_satisfied : (k : World) (p : Policy) → IsForcedTrue k p → IsSatisfied k p
is_satisfied k p h = (policies_mean_truth k p (val (truth_value true))).0 h

is_unsatisfied : (k : World) (p : Policy) → IsForcedFalse k p → IsUnsatisfied k p
is_unsatisfied k p h = (h.0, (policies_mean_truth k p h.0).0 h.1, h.2)

module _ (c : Course) (s : State) (store : Uid → Found Made) (admitted : IsAdmitted c) (same : (u : Uid) → known_found (store u) ≡ (known_now (session_of c) s).store u) where
  abbrev pub scope : Scope
  scope = scope_now (session_of c) s store

  abbrev pub ps : List Policy
  ps = c.submission.policies

  pub known_same : known_now (session_of c) s ≡ known_world scope
  known_same = λ i. record (known_now (session_of c) s) { store = λ u. sym (same u) i }

  pub ready : met_limit (response_of scope c.submission.limit ps) ≡ false → IsReady scope c.submission.limit ps
  ready none = record {
    agrees = (admitted.fair).agrees;
    unbound = leaves_unbound scope (admitted.fair).agrees (leaves_nothing c admitted);
    fits = each_all (λ p. FitsAnnotations (known_world scope) (condition p)) ps (λ p k. (each_in _ (condition p)).1 (none_unknown (condition p) (none_has_unknowns c admitted p k) _));
    within = none;
  }

  given : met_limit (response_of scope c.submission.limit ps) ≡ false → (d : Decision) → IsForced (known_world scope) ps d → decision_in_session (response_of scope c.submission.limit ps) ≡ Some d
  given none allow h =
      let p = h.0 in
      permit_forces scope c.submission.limit ps (ready none) (λ q k e. is_unsatisfied (known_world scope) q (h.1 q k e)) p.0 p.1 p.2 (is_satisfied (known_world scope) p.0 p.3)
  given none deny (inl p) = forbid_forces scope c.submission.limit ps (ready none) p.0 p.1 p.2 (is_satisfied (known_world scope) p.0 p.3)
  given none deny (inr h) = no_permit_forces scope c.submission.limit ps (ready none) (λ q k e. is_unsatisfied (known_world scope) q (h q k e))

  by_limit : (b : Bool) → met_limit (response_of scope c.submission.limit ps) ≡ b → decision_in_session (response_of scope c.submission.limit ps) ≡ None → MayDecide (session_of c) ps s None
  by_limit true e none = inl (store, same, e)
  by_limit false e none =
      inr (λ d h. (let g = given e d (subst (λ k. IsForced k ps d) known_same h) in let lie : None ≡ Some d = sym none ∙ g in cc))

  pub forced_decisions_are_given : decision_in_session (response_of scope c.submission.limit ps) ≡ None → MayDecide (session_of c) ps s None
  forced_decisions_are_given none = by_limit (met_limit (response_of scope c.submission.limit ps)) refl none
