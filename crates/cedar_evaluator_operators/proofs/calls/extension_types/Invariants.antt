use Rattle.std.proofs.Common.{◌≡◌, ◌++◌, map}
use Rattle.std.specs.Slice.Iter.{iter_rest}
use Rattle.cedar_expr_model.specs.Tree.{extension_core}
use Rattle.cedar_expr_names.specs.Views.{plain_name_of}
use Rattle.cedar_expr_values.specs.Types.{core_of}
use Rattle.cedar_evaluator_operators.proofs.calls.extension_types.Given as goal

abbrev pub invariant-loop-name : goal.invariant-loop-name
invariant-loop-name l = map core_of l.types.items ++ map (λ n. extension_core (plain_name_of n.now)) (iter_rest l.name-iterator) ≡ map (λ n. extension_core (plain_name_of n.now)) (iter_rest l.fn.names)
