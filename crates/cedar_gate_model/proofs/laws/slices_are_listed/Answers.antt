use Rattle.cedar_gate_model.proofs.Gate.Slices.{near_are_listed, slice_is_listed}
use Rattle.cedar_gate_model.proofs.laws.slices_are_listed.Goals as goal

pub returns-clause-near : goal.returns-clause-near
returns-clause-near c = near_are_listed

pub returns-clause-slice : goal.returns-clause-slice
returns-clause-slice c = slice_is_listed
