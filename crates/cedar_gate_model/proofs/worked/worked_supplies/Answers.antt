use Rattle.cedar_gate_model.proofs.Gate.Supplying.{stray, short, doubled, swapped, not_conforming_one, nothing_lacks, nothing_twice, nothing_wrong}
use Rattle.cedar_gate_model.proofs.worked.worked_supplies.Goals as goal

pub returns-clause-stray : goal.returns-clause-stray
returns-clause-stray c = stray

pub returns-clause-short : goal.returns-clause-short
returns-clause-short c = short

pub returns-clause-doubled : goal.returns-clause-doubled
returns-clause-doubled c = doubled

pub returns-clause-swapped : goal.returns-clause-swapped
returns-clause-swapped c = swapped

pub returns-clause-not_conforming_one : goal.returns-clause-not_conforming_one
returns-clause-not_conforming_one c = not_conforming_one

pub returns-clause-nothing_lacks : goal.returns-clause-nothing_lacks
returns-clause-nothing_lacks c = nothing_lacks

pub returns-clause-nothing_twice : goal.returns-clause-nothing_twice
returns-clause-nothing_twice c = nothing_twice

pub returns-clause-nothing_wrong : goal.returns-clause-nothing_wrong
returns-clause-nothing_wrong c = nothing_wrong
