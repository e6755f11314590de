use Rattle.std.proofs.Common.{◌≡◌, map, take}
use Rattle.cedar_expr_names.specs.Views.{plain_name_of}
use Rattle.cedar_expr_functions.specs.Named.{all_ordered}
use Rattle.cedar_expr_functions.proofs.gathered.all_ordered.Given as goal

abbrev pub invariant-loop-e : goal.invariant-loop-e
invariant-loop-e g l = map (λ n. plain_name_of n.now) l.names.items ≡ all_ordered (take l.e-index l.extensions)
