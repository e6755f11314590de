use Rattle.cedar_expr_model.proofs.Examples.{turned_same, twice_same, records_same, fewer_not_same}
use Rattle.cedar_expr_model.proofs.worked.worked_sameness.Goals as goal

pub returns-clause-turned : goal.returns-clause-turned
returns-clause-turned c = turned_same

pub returns-clause-twice : goal.returns-clause-twice
returns-clause-twice c = twice_same

pub returns-clause-records : goal.returns-clause-records
returns-clause-records c = records_same

pub returns-clause-fewer : goal.returns-clause-fewer
returns-clause-fewer c = fewer_not_same

pub returns-clause-kinds : goal.returns-clause-kinds
returns-clause-kinds c = λ s. s
