use Rattle.cedar_gate_model.specs.RunsAnswer.{session_of}
use Rattle.cedar_gate_sessions.proofs.courses.SessionAtSessionCalls.wanted.Goals as goal

pub returns-clause-exact : goal.returns-clause-exact
returns-clause-exact g c = λ d s h. c.wanted.ensures.exact (session_of d) s h.at
