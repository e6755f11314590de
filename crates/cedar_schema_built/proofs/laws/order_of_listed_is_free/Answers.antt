use Rattle.cedar_schema_built.proofs.Declared.{same_listed}
use Rattle.cedar_schema_built.proofs.laws.order_of_listed_is_free.Goals as goal

pub returns : goal.returns
returns c = λ fs gs d e w v r l m p q. same_listed fs gs d e w v r l m p q
