use Rattle.std.proofs.Common.{ℕ, List, sym, subst}
use Rattle.cedarcheck.specs.Faults.{HasNumbers}
use Rattle.cedarcheck.proofs.Numbers.{with_number}
use Rattle.cedarcheck.proofs.faults.add_unless.Goals as goal

pub returns : goal.returns
returns c = λ s h w. subst (λ (ns : List ℕ). HasNumbers s ns) (sym c.in_ok-push.ensures.items) (with_number s c.args.numbers.now.items c.args.number w (h c.if-is_clear.false))
