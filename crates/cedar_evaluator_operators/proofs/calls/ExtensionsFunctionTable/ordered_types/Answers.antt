use Rattle.std.proofs.Common.{◌∷◌, map, ap, ◌∙◌}
use Rattle.std.specs.Slice.Iter.{iter_rest}
use Rattle.cedar_expr_model.specs.Tree.{long_core, extension_core}
use Rattle.cedar_expr_names.specs.Views.{plain_name_of}
use Rattle.cedar_evaluator_operators.proofs.Lists.{map-after}
use Rattle.cedar_evaluator_operators.proofs.calls.ExtensionsFunctionTable.ordered_types.Goals as goal

pub returns : goal.returns
returns g c =
    ap (λ ts. long_core ∷ ts)
    (c.in_ok-tail.ensures
    ∙ map-after (λ n. extension_core n) (λ n. plain_name_of n.now) (iter_rest c.types_with_operator_overloading.result)
    ∙ ap (map (λ n. extension_core n)) c.types_with_operator_overloading.ensures)
