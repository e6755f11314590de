use Rattle.cedar_schema_built.proofs.Sorted.{new_keeps}
use Rattle.cedar_schema_built.proofs.laws.new_keeps_the_schema.Goals as goal

pub returns : goal.returns
returns c = new_keeps c.pieces_are_kept.ensures
