use Rattle.cedar_schema_assembly.proofs.Pieces.{together}
use Rattle.cedar_schema_assembly.proofs.told_laws.pieces_are_kept.Goals as goal

pub returns : goal.returns
returns c = together
