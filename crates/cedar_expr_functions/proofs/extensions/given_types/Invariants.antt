use Rattle.std.proofs.Common.{◌≡◌, ◌++◌, map, drop}
use Rattle.std.specs.List.{filter_map}
use Rattle.cedar_expr_names.specs.Views.{plain_name_of}
use Rattle.cedar_expr_functions.specs.Functions.{function_signature}
use Rattle.cedar_expr_functions.specs.Signatures.{given_type}
use Rattle.cedar_expr_functions.proofs.extensions.given_types.Given as goal

abbrev pub invariant-loop-f : goal.invariant-loop-f
invariant-loop-f g l = map plain_name_of l.names.items ++ filter_map (λ f. given_type (function_signature f.now)) (drop l.f-index l.functions) ≡ filter_map (λ f. given_type (function_signature f.now)) l.functions
