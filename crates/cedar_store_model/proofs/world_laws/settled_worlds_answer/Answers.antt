use Rattle.cedar_store_model.proofs.Settled.{settled_worlds_answer, whole_stores_are_settled, typed_tables_leave_none}
use Rattle.cedar_store_model.proofs.world_laws.settled_worlds_answer.Goals as goal

pub returns-clause-outcome : goal.returns-clause-outcome
returns-clause-outcome c = settled_worlds_answer

pub returns-clause-store : goal.returns-clause-store
returns-clause-store c = whole_stores_are_settled

pub returns-clause-calls : goal.returns-clause-calls
returns-clause-calls c = typed_tables_leave_none
