use Rattle.std.proofs.Common.{sym}
use Rattle.cedar_gate_model.specs.RunsAnswer.{session_of}
use Rattle.cedar_gate_sessions.proofs.courses.SessionAtSessionCalls.level.Goals as goal

pub returns : goal.returns
returns g c = λ d s h. sym (c.level.ensures (session_of d) ((h.at).setup).gate)
