use Rattle.cedar_gate_model.proofs.Gate.Computed.{forbidden, permitted, permitted_later, denied_by_absence, not_denied, not_allowed, not_yet}
use Rattle.cedar_gate_model.proofs.worked.worked_owed.Goals as goal

pub returns-clause-forbidden : goal.returns-clause-forbidden
returns-clause-forbidden c = forbidden

pub returns-clause-permitted : goal.returns-clause-permitted
returns-clause-permitted c = permitted

pub returns-clause-permitted_later : goal.returns-clause-permitted_later
returns-clause-permitted_later c = permitted_later

pub returns-clause-denied_by_absence : goal.returns-clause-denied_by_absence
returns-clause-denied_by_absence c = denied_by_absence

pub returns-clause-not_denied : goal.returns-clause-not_denied
returns-clause-not_denied c = not_denied

pub returns-clause-not_allowed : goal.returns-clause-not_allowed
returns-clause-not_allowed c = not_allowed

pub returns-clause-not_yet : goal.returns-clause-not_yet
returns-clause-not_yet c = not_yet
