use Rattle.cedar_gate_sessions.proofs.Sessions.{accepted_distinct, accepted_within}
use Rattle.cedar_gate_sessions.proofs.laws.accepted_policies_are_fit.Goals as goal

pub returns-clause-distinct : goal.returns-clause-distinct
returns-clause-distinct c = accepted_distinct

pub returns-clause-within : goal.returns-clause-within
returns-clause-within c = accepted_within
