use Rattle.cedar_store_parts.proofs.RecordsCompared.{modes_decide}
use Rattle.cedar_store_parts.proofs.record_laws.modes_agree.Goals as goal

pub returns-clause-equality : goal.returns-clause-equality
returns-clause-equality c = modes_decide
