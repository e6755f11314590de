use Rattle.std.proofs.Common.{ap, ◌∙◌}
use Rattle.cedar_gate_model.specs.RunsAnswer.{session_of}
use Rattle.cedar_gate_sessions.specs.Entities.{supplied_of}
use Rattle.cedar_gate_sessions.proofs.AtState.{supply_at, supply_fits}
use Rattle.cedar_gate_sessions.proofs.courses.SessionAtSessionCalls.supply.Goals as goal

pub returns-in-Ok-clause-at : goal.returns-in-Ok-clause-at
returns-in-Ok-clause-at g c = λ d s h a. record {
  admitted = h.admitted;
  fair = h.fair;
  at = c.in-Ok.ensures.at (session_of d) s h.at (record { answered = a.answered; represented = a.represented });
  policies = ap g.G.GateCalls.accepted c.in-Ok.ensures.gate ∙ h.policies;
}

pub returns-in-Ok-clause-taken : goal.returns-in-Ok-clause-taken
returns-in-Ok-clause-taken g c = λ d s h.
    supply_fits g.G.GateCalls.suits (session_of d) s c.args.self.now h.at (g.G.DeclaredActions.schema (c.args.self.now).gate.now) (c.schema_is.ensures (session_of d) ((h.at).setup).gate) (supplied_of c.args.supplied.items) c.in-Ok.ensures.taken

pub returns-in-Err-clause-refused : goal.returns-in-Err-clause-refused
returns-in-Err-clause-refused g c = λ d s h. c.refused_supply.ensures (session_of d) s (supplied_of c.args.supplied.items)
    (supply_at g.G.GateCalls.suits (session_of d) s c.args.self.now h.at (g.G.DeclaredActions.schema (c.args.self.now).gate.now) (c.schema_is.ensures (session_of d) ((h.at).setup).gate) (supplied_of c.args.supplied.items) c.in-Err.fault c.in-Err.ensures.refused)
