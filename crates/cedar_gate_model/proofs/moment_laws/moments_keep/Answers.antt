use Rattle.cedar_gate_model.proofs.Runs.Moments.{moments_are_states, moments_keep, wanted_is_new}
use Rattle.cedar_gate_model.proofs.moment_laws.moments_keep.Goals as goal

pub returns-clause-states : goal.returns-clause-states
returns-clause-states c = moments_are_states

pub returns-clause-keep : goal.returns-clause-keep
returns-clause-keep c = λ k es t proper fair came. moments_keep k es t came proper fair

pub returns-clause-wanted : goal.returns-clause-wanted
returns-clause-wanted c = λ k es t uids proper came wanted. wanted_is_new k es t came uids proper wanted
