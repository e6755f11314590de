use Rattle.cedar_typechecker_model.proofs.Counted.{counted_is}
use Rattle.cedar_typechecker_model.proofs.typed_laws.counted_on_marks.Goals as goal

pub returns : goal.returns
returns c = λ n s known t x e. counted_is n s known t x e
