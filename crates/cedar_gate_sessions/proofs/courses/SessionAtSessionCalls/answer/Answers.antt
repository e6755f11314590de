use Rattle.cedar_gate_model.specs.RunsAnswer.{session_of}
use Rattle.cedar_gate_sessions.proofs.AtState.{answer_at, answer_fits}
use Rattle.cedar_gate_sessions.proofs.courses.SessionAtSessionCalls.answer.Goals as goal

pub returns-in-Ok-clause-given : goal.returns-in-Ok-clause-given
returns-in-Ok-clause-given g c = λ d s h. answer_fits g.G.GateCalls.suits (session_of d) s c.args.self.now h.at g.G.DeclaredActions.schema (c.schema_is.ensures (session_of d) ((h.at).setup).gate) c.in-Ok.ensures.given

pub returns-in-Err-clause-refused : goal.returns-in-Err-clause-refused
returns-in-Err-clause-refused g c = λ d s h. c.refused_answer.ensures (session_of d) s
    (answer_at g.G.GateCalls.suits (session_of d) s c.args.self.now h.at g.G.DeclaredActions.schema (c.schema_is.ensures (session_of d) ((h.at).setup).gate) c.in-Err.fault c.in-Err.ensures.refused)
