use Rattle.std.proofs.Common.{ap, true, ◌&&◌}
use Rattle.cedar_expr_model.proofs.UidComputed.{no_text}
use Rattle.cedar_expr_model.proofs.worked.worked_values_in_range.Goals as goal

pub returns-clause-no_text : goal.returns-clause-no_text
returns-clause-no_text c = ap (λ b. b && true) no_text
