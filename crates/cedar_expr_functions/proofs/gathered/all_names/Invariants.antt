use Rattle.std.proofs.Common.{◌≡◌, map, take}
use Rattle.cedar_expr_names.specs.Views.{plain_name_of}
use Rattle.cedar_expr_functions.specs.Extended.{extension_name}
use Rattle.cedar_expr_functions.proofs.gathered.all_names.Given as goal

abbrev pub invariant-loop-e : goal.invariant-loop-e
invariant-loop-e g l = map (λ n. plain_name_of n.now) l.names.items ≡ map extension_name (take l.e-index l.extensions)
