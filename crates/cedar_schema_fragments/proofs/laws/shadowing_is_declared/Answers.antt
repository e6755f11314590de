use Rattle.cedar_schema_fragments.proofs.Shadowed.{shadowing_is}
use Rattle.cedar_schema_fragments.proofs.laws.shadowing_is_declared.Goals as goal

pub returns : goal.returns
returns c = shadowing_is
