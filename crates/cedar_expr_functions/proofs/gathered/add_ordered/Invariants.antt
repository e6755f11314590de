use Rattle.std.proofs.Common.{◌≡◌, ◌++◌, map, take}
use Rattle.cedar_expr_names.specs.Views.{plain_name_of}
use Rattle.cedar_expr_functions.proofs.gathered.add_ordered.Given as goal

abbrev pub invariant-loop-n : goal.invariant-loop-n
invariant-loop-n g l = map (λ n. plain_name_of n.now) l.names.items ≡ map (λ n. plain_name_of n.now) l.initial.names.items ++ map plain_name_of (take l.n-index l.extension.ordered.items)
