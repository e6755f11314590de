-- What a session decides at a state by what is known: by the policies in part, over what is loaded and bound.
-- Rule: partial responses; owed decisions (docs/RULES.md).
use Rattle.std.specs.Prelude.{◌≡◌, List, Option}
use Rattle.cedar_expr_model.specs.ListLaws.{AreDistinct}
use Rattle.cedar_store_model.specs.Answer.{Decision, ids}
use Rattle.cedar_store_model.specs.Policy.{Policy}
use Rattle.cedar_evaluator_model.specs.Members.{Bounds, bounds_in_session, decision_in_session}
use Rattle.cedar_evaluator_model.specs.Response.{Response, response_of}
use Rattle.cedar_gate_model.specs.Session.{Setup, State, scope_now}
use Rattle.cedar_gate_sessions.specs.Sessions.{policies_in, store_in}
use Rattle.cedar_gate_sessions.specs.Verdicts.{verdicts_of}
use Rattle.cedar_gate_sessions.specs.declared.kinds.Verdict.{Verdict}
use Rattle.cedar_gate_sessions.specs.declared.session.SessionAt.{SessionAt}

-- the response of the policies in part, and whether they have distinct ids
abbrev pub response_at : {G : Type 0} → (G → List Policy) → SessionAt G → Setup → State → Response
response_at accepted e x s = response_of (scope_now x s (store_in e)) x.limit (policies_in accepted e)

abbrev pub HasDistinctIds : {G : Type 0} → (G → List Policy) → SessionAt G → Type 0
HasDistinctIds accepted e = AreDistinct (ids (policies_in accepted e))

-- These are the verdicts on the policies; the decision by their response; the bounds of what determines it, where ids are distinct.
abbrev pub AreVerdictsAt : {G : Type 0} → (G → List Policy) → SessionAt G → List Verdict → Setup → State → Type 0
AreVerdictsAt accepted e vs x s = vs ≡ verdicts_of (scope_now x s (store_in e)) x.limit (policies_in accepted e)

abbrev pub IsDecisionAt : {G : Type 0} → (G → List Policy) → SessionAt G → Option Decision → Setup → State → Type 0
IsDecisionAt accepted e d x s = d ≡ decision_in_session (response_at accepted e x s)

abbrev pub AreBoundsAt : {G : Type 0} → (G → List Policy) → SessionAt G → Option Bounds → Setup → State → Type 0
AreBoundsAt accepted e b x s = HasDistinctIds accepted e → b ≡ bounds_in_session (policies_in accepted e) (response_at accepted e x s)
