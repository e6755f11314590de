use Rattle.std.proofs.Common.{ap, sym, ◌∙◌}
use Rattle.std.specs.List.{list_any}
use Rattle.std.specs.Slice.Iter.{iter_rest}
use Rattle.cedar_expr_model.specs.Name.{name_eq}
use Rattle.cedar_expr_names.specs.Views.{plain_name_of}
use Rattle.cedar_evaluator_operators.proofs.Lists.{list_any-map}
use Rattle.cedar_evaluator_operators.proofs.calls.ExtensionsFunctionTable.is_ordered.Goals as goal

pub returns : goal.returns
returns g c = let test = name_eq (plain_name_of c.args.name.now) in
    c.is_among.ensures ∙ sym (list_any-map test (λ n. plain_name_of n.now) (iter_rest c.types_with_operator_overloading.result)) ∙ ap (list_any test) c.types_with_operator_overloading.ensures
