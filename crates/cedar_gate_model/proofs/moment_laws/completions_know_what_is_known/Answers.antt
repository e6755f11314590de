use Rattle.cedar_gate_model.proofs.Runs.Knowing.{store_kept, knows_more}
use Rattle.cedar_gate_model.proofs.moment_laws.completions_know_what_is_known.Goals as goal

pub returns-clause-store : goal.returns-clause-store
returns-clause-store c = λ x s w complete. store_kept x s w complete

pub returns-clause-more : goal.returns-clause-more
returns-clause-more c = knows_more
