use Rattle.cedar_schema_built.proofs.Declared.{listed_declared}
use Rattle.cedar_schema_built.proofs.laws.listed_are_declared.Goals as goal

pub returns : goal.returns
returns c = λ fs d w l is. listed_declared fs d w l is
