use Rattle.cedar_store_parts.proofs.Compared.{bindings_decide}
use Rattle.cedar_store_parts.proofs.laws.bindings_are_compared.Goals as goal

pub returns : goal.returns
returns c = bindings_decide
