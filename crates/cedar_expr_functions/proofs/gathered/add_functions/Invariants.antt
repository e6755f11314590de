use Rattle.std.proofs.Common.{◌≡◌, ◌++◌, map, take}
use Rattle.cedar_expr_functions.specs.Extended.{functions_in}
use Rattle.cedar_expr_functions.proofs.gathered.add_functions.Given as goal

abbrev pub invariant-loop-f : goal.invariant-loop-f
invariant-loop-f g l = map (λ f. f.now) l.functions.items ≡ map (λ f. f.now) l.initial.functions.items ++ take l.f-index (functions_in l.extension)
