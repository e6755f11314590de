use Rattle.std.proofs.Common.{◌≡◌, map, take}
use Rattle.cedar_expr_functions.specs.Named.{all_functions}
use Rattle.cedar_expr_functions.proofs.gathered.all_functions.Given as goal

abbrev pub invariant-loop-e : goal.invariant-loop-e
invariant-loop-e g l = map (λ f. f.now) l.functions.items ≡ all_functions (take l.e-index l.extensions)
