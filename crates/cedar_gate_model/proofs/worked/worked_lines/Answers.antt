use Rattle.std.proofs.Common.{refl}
use Rattle.std.specs.Str.{chars}
use Rattle.std.specs.Fmt.{digits}
use Rattle.cedar_gate_model.proofs.worked.worked_lines.Goals as goal

pub returns-clause-rounds : goal.returns-clause-rounds
unfolding chars digits
returns-clause-rounds c = refl

pub returns-clause-allowed : goal.returns-clause-allowed
unfolding chars digits
returns-clause-allowed c = refl

pub returns-clause-missing_user : goal.returns-clause-missing_user
unfolding chars digits
returns-clause-missing_user c = refl

pub returns-clause-overflowed : goal.returns-clause-overflowed
unfolding chars digits
returns-clause-overflowed c = refl

pub returns-clause-no_divisor : goal.returns-clause-no_divisor
unfolding chars digits
returns-clause-no_divisor c = refl

pub returns-clause-failed : goal.returns-clause-failed
unfolding chars digits
returns-clause-failed c = refl

pub returns-clause-decisions : goal.returns-clause-decisions
unfolding chars digits
returns-clause-decisions c = refl

pub returns-clause-warning : goal.returns-clause-warning
unfolding chars digits
returns-clause-warning c = refl

pub returns-clause-opening : goal.returns-clause-opening
unfolding chars digits
returns-clause-opening c = refl

pub returns-clause-supplying : goal.returns-clause-supplying
unfolding chars digits
returns-clause-supplying c = refl

pub returns-clause-binding : goal.returns-clause-binding
unfolding chars digits
returns-clause-binding c = refl

pub returns-clause-answering : goal.returns-clause-answering
unfolding chars digits
returns-clause-answering c = refl

pub returns-clause-refused : goal.returns-clause-refused
unfolding chars digits
returns-clause-refused c = refl
