use Rattle.std.proofs.Common.{◌≡◌, ℕ, option_map, sym, subst, ◌∙◌}
use Rattle.std.specs.Prelude.{IfOk}
use Rattle.cedar_expr_model.specs.ListLaws.{AreDistinct}
use Rattle.cedar_store_model.specs.Answer.{ids}
use Rattle.cedar_evaluator_model.specs.Members.{bounds_in_session}
use Rattle.cedar_evaluator_model.specs.Response.{response_of}
use Rattle.cedar_evaluator_model.specs.Scope.{Scope}
use Rattle.cedar_gate_sessions.specs.Bounds.{bounds_of}
use Rattle.cedar_gate_model.specs.RunsAnswer.{session_of, IsAdmitted, AnswerFairly}
use Rattle.cedar_gate_model.specs.Early.{KeepsBounds}
use Rattle.cedar_gate_model.specs.Session.{scope_now}
use Rattle.cedar_gate_model.proofs.Gate.Accepting.{accepted_good}
use Rattle.cedar_gate_sessions.specs.Sessions.{IsAt, gate_of, loaded_in, policies_in, store_in, was_asked}
use Rattle.cedar_gate_sessions.specs.Verdicts.{verdicts_of}
use Rattle.cedar_gate_runs.proofs.Proper.{fairly_of}
use Rattle.cedar_gate_sessions.proofs.Answered.{ok_each, bounds_in_part, distinct_of, ok_in_course}
use Rattle.cedar_gate_sessions.proofs.Knowing.{known_store, made_alike}
use Rattle.cedar_gate_sessions.proofs.Stores.{steady}
use Rattle.cedar_gate_sessions.proofs.session.SessionAt.bounds.Goals as goal

pub returns-clause-exact : goal.returns-clause-exact
returns-clause-exact g c =
    let d = c.args.self.now in
    let ps = policies_in g.G.GateCalls.accepted d in
    let said = subst (λ qs. (k : Scope) (n : ℕ) → c.as_slice.result.now ≡ verdicts_of k n qs → AreDistinct (ids qs) → IfOk c.bounded.result (λ b. option_map bounds_of b ≡ bounds_in_session qs (response_of k n qs))) c.policies.ensures c.bounded.ensures in
    ok_each (λ x s. IsAt g.G.GateCalls.suits x s d) (λ x s b. option_map bounds_of b ≡ bounds_in_session ps (response_of (scope_now x s (store_in d)) x.limit ps)) c.bounded.result
    (λ x s at distinct. said (scope_now x s (store_in d)) x.limit (c.as_slice.ensures.value ∙ c.in_ok-verdicts.ensures x s at) distinct)

pub returns-clause-kept : goal.returns-clause-kept
returns-clause-kept g c =
    let d = c.args.self.now in
    let ps = policies_in g.G.GateCalls.accepted d in
    let said = subst (λ qs. (k : Scope) (n : ℕ) → c.as_slice.result.now ≡ verdicts_of k n qs → AreDistinct (ids qs) → IfOk c.bounded.result (λ b. option_map bounds_of b ≡ bounds_in_session qs (response_of k n qs))) c.policies.ensures c.bounded.ensures in
    ok_in_course (λ r s. IsAt g.G.GateCalls.suits (session_of r) s d) (λ r. ps ≡ r.submission.policies) IsAdmitted (λ r. AnswerFairly r.functions)
    (λ r s b. option_map bounds_of b ≡ bounds_in_session ps (response_of (scope_now (session_of r) s (store_in d)) (session_of r).limit ps)) (λ r s b. KeepsBounds r s (option_map bounds_of b)) c.bounded.result
    (λ r s at is admitted.
    let x = session_of r in
    let apart = subst (λ qs. AreDistinct (ids qs)) (sym is) (distinct_of (ids r.submission.policies) (accepted_good r.submission admitted.accepted).distinct) in
    said (scope_now x s (store_in d)) x.limit (c.as_slice.ensures.value ∙ c.in_ok-verdicts.ensures x s at) apart)
    (λ r s b at is admitted fair e.
    let x = session_of r in
    let values = g.met.G.GateCalls.makes_values (gate_of d) x (at.setup).gate in
    c.bounds_are_kept.ensures.kept r s (option_map bounds_of b) admitted (fairly_of r.functions values fair) at.opened
    (bounds_in_part r s (store_in d) (steady x.schema (store_in d)) (λ u. made_alike x s (loaded_in d) at.loaded u c.uids_are_uids.ensures (was_asked d)) ps is
    (known_store g.G.GateCalls.suits r s d at) (option_map bounds_of b) e))
