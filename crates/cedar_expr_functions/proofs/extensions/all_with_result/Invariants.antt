use Rattle.std.proofs.Common.{◌≡◌, is_some, drop}
use Rattle.std.specs.List.{list_all}
use Rattle.cedar_expr_functions.specs.Functions.{function_signature}
use Rattle.cedar_expr_functions.proofs.extensions.all_with_result.Given as goal

abbrev pub invariant-loop-f : goal.invariant-loop-f
invariant-loop-f g l = list_all (λ f. is_some (function_signature f.now).result) l.functions ≡ list_all (λ f. is_some (function_signature f.now).result) (drop l.f-index l.functions)
