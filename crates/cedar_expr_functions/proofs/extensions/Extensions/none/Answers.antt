use Rattle.std.proofs.Common.{sym, subst}
use Rattle.cedar_expr_functions.specs.Named.{NamesRise}
use Rattle.cedar_expr_functions.proofs.Found.{none_rise}
use Rattle.cedar_expr_functions.proofs.extensions.Extensions.none.Goals as goal

pub invariant_of-result : goal.invariant_of-result
invariant_of-result g c = record { rising = subst NamesRise (sym c.new-2.ensures.items) none_rise }
