use Rattle.std.proofs.Common.{refl}
use Rattle.cedar_gate_model.proofs.worked.worked_bindings.Goals as goal

pub returns-clause-no_rank : goal.returns-clause-no_rank
returns-clause-no_rank c = (_, refl)

pub returns-clause-no_text : goal.returns-clause-no_text
returns-clause-no_text c = (_, refl)
