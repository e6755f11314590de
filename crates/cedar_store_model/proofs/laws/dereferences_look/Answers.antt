use Rattle.cedar_store_model.proofs.Slices.{nothing_looked}
use Rattle.cedar_store_model.proofs.laws.dereferences_look.Goals as goal

pub returns : goal.returns
returns c w t e u h = nothing_looked w u t e h
