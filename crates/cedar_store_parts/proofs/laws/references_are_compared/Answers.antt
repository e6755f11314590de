use Rattle.cedar_store_parts.proofs.Compared.{references_decide}
use Rattle.cedar_store_parts.proofs.laws.references_are_compared.Goals as goal

pub returns : goal.returns
returns c = references_decide
