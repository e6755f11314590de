-- Which bindings and answers a session of the code refuses, whatever its table, its host and its entities are.
-- Rule: refusals of a session (docs/RULES.md).
use Rattle.cedar_expr_model.specs.Made.{Made}
use Rattle.cedar_expr_model.specs.Name.{Text}
use Rattle.cedar_schema_model.specs.Schema.{Schema}
use Rattle.cedar_gate_openings.specs.Names.{HasOpenBy}
use Rattle.cedar_gate_openings.specs.declared.faults.BindFault.{BindFault}
use Rattle.cedar_gate_model.specs.Session.{Setup}
use Rattle.cedar_gate_sessions.specs.Faults.{IsBindFaultBy, IsAnswerFaultBy, IsAnswerable}
use Rattle.cedar_gate_sessions.specs.Sessions.{FailsWith, bound_by, start_of, wanted_of, conforms_now}
use Rattle.cedar_gate_sessions.specs.declared.faults.AnswerFault.{AnswerFault}
use Rattle.cedar_gate_sessions.specs.declared.session.SessionAt.{SessionAt}

abbrev pub IsRefusedBinding : {G : Type 0} → (G → Setup → Type 0) → SessionAt G → Text → Made → BindFault → Type 0
IsRefusedBinding suits e n m = IsBindFaultBy (start_of e) (bound_by e) (FailsWith suits e n m) n m

abbrev pub IsRefusedAnswer : {G : Type 0} → (G → Schema) → SessionAt G → AnswerFault → Type 0
IsRefusedAnswer schema e = IsAnswerFaultBy (HasOpenBy (start_of e) (bound_by e)) (wanted_of e) (conforms_now schema e)

abbrev pub HasAnswer : {G : Type 0} → (G → Schema) → SessionAt G → Type 0
HasAnswer schema e = IsAnswerable (HasOpenBy (start_of e) (bound_by e)) (wanted_of e) (conforms_now schema e)
