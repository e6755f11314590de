use Rattle.std.proofs.Common.{ap, ◌∙◌}
use Rattle.std.specs.Rc.{rc_str_bytes}
use Rattle.cedar_expr_values.specs.Extensions.{extension_of}
use Rattle.cedar_expr_values.specs.Values.{made}
use Rattle.cedar_gate_model.specs.RunsAnswer.{session_of}
use Rattle.cedar_gate_sessions.proofs.AtState.{bind_at, bind_fits}
use Rattle.cedar_gate_sessions.proofs.courses.SessionAtSessionCalls.bind.Goals as goal

pub returns-in-Ok-clause-at : goal.returns-in-Ok-clause-at
returns-in-Ok-clause-at g c = λ d s h well. record {
  admitted = h.admitted;
  fair = h.fair;
  at = c.in-Ok.ensures.at (session_of d) s h.at well;
  policies = ap g.G.GateCalls.accepted c.in-Ok.ensures.gate ∙ h.policies;
}

pub returns-in-Ok-clause-taken : goal.returns-in-Ok-clause-taken
returns-in-Ok-clause-taken g c = λ d s h. bind_fits g.G.GateCalls.suits (session_of d) s c.args.self.now h.at (rc_str_bytes c.args.name) (made extension_of c.args.value) c.in-Ok.ensures.taken c.in-Ok.ensures.evaluates

pub returns-in-Err-clause-refused : goal.returns-in-Err-clause-refused
returns-in-Err-clause-refused g c = λ d s h. c.refused_binding.ensures (session_of d) s (rc_str_bytes c.args.name) (made extension_of c.args.value)
    (bind_at g.G.GateCalls.suits (session_of d) s c.args.self.now h.at (rc_str_bytes c.args.name) (made extension_of c.args.value) c.in-Err.fault c.in-Err.ensures.refused)
