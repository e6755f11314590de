use Rattle.std.proofs.Common.{◌≡◌, ℕ, option_map, subst, ◌∙◌}
use Rattle.cedar_evaluator_requests.specs.Views.{decision_of}
use Rattle.cedar_evaluator_model.specs.Members.{decision_in_session}
use Rattle.cedar_evaluator_model.specs.Response.{response_of}
use Rattle.cedar_evaluator_model.specs.Scope.{Scope}
use Rattle.cedar_gate_model.specs.RunsAnswer.{session_of}
use Rattle.cedar_gate_model.specs.Session.{scope_now}
use Rattle.cedar_gate_sessions.specs.Sessions.{gate_of, loaded_in, policies_in, store_in, was_asked}
use Rattle.cedar_gate_sessions.specs.Verdicts.{verdicts_of}
use Rattle.cedar_gate_runs.proofs.Proper.{fairly_of}
use Rattle.cedar_gate_sessions.proofs.Answered.{decision_in_part}
use Rattle.cedar_gate_sessions.proofs.Knowing.{known_store, made_alike}
use Rattle.cedar_gate_sessions.proofs.Stores.{steady}
use Rattle.cedar_gate_sessions.proofs.session.SessionAt.decision.Goals as goal

pub returns-clause-exact : goal.returns-clause-exact
returns-clause-exact g c =
    let d = c.args.self.now in
    let said = subst (λ ps. (k : Scope) (n : ℕ) → c.as_slice.result.now ≡ verdicts_of k n ps → option_map decision_of c.decided.result ≡ decision_in_session (response_of k n ps)) c.policies.ensures c.decided.ensures in
    λ x s at. said (scope_now x s (store_in d)) x.limit (c.as_slice.ensures.value ∙ c.in_ok-verdicts.ensures x s at)

pub returns-clause-in_part : goal.returns-clause-in_part
returns-clause-in_part g c = λ r s at is.
    let d = c.args.self.now in
    let x = session_of r in
    decision_in_part r s (store_in d) (steady x.schema (store_in d)) (λ u. made_alike x s (loaded_in d) at.loaded u c.uids_are_uids.ensures (was_asked d)) (policies_in g.G.GateCalls.accepted d) is
    (known_store g.G.GateCalls.suits r s d at) (option_map decision_of c.decided.result) (returns-clause-exact g c x s at)

pub returns-clause-kept : goal.returns-clause-kept
returns-clause-kept g c = λ r s at is admitted fair.
    let values = g.met.G.GateCalls.makes_values (gate_of c.args.self.now) (session_of r) (at.setup).gate in
    c.decisions_are_kept.ensures r s (option_map decision_of c.decided.result) admitted (fairly_of r.functions values fair) at.opened (at.loaded).conform (returns-clause-in_part g c r s at is)
