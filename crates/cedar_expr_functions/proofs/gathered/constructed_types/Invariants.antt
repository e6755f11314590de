use Rattle.std.proofs.Common.{◌≡◌, ◌++◌, map, drop}
use Rattle.std.specs.List.{filter_map}
use Rattle.cedar_expr_model.specs.Table.{constructed}
use Rattle.cedar_expr_values.specs.Types.{core_of}
use Rattle.cedar_expr_functions.specs.Functions.{function_signature}
use Rattle.cedar_expr_functions.proofs.gathered.constructed_types.Given as goal

abbrev pub invariant-loop-f : goal.invariant-loop-f
invariant-loop-f g l = map (λ t. core_of t.0) l.types.items ++ filter_map constructed (map (λ f. function_signature f.now) (drop l.f-index l.functions)) ≡ filter_map constructed (map (λ f. function_signature f.now) l.functions)
