use Rattle.std.proofs.Common.{◌≡◌, drop}
use Rattle.std.specs.Prelude.{find}
use Rattle.cedar_expr_model.specs.Name.{name_eq}
use Rattle.cedar_expr_names.specs.Views.{plain_name_of}
use Rattle.cedar_expr_functions.specs.Functions.{function_name}
use Rattle.cedar_expr_functions.specs.Extended.{functions_in}
use Rattle.cedar_expr_functions.proofs.extension.Extension.get_func.Given as goal

abbrev pub invariant-loop-f : goal.invariant-loop-f
invariant-loop-f g l = find (λ f. name_eq (plain_name_of l.fn.name) (function_name f)) (functions_in l.fn.self) ≡ find (λ f. name_eq (plain_name_of l.fn.name) (function_name f)) (drop l.f-index (functions_in l.fn.self))
