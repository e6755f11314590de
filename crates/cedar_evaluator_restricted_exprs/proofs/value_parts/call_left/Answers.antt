use Rattle.std.proofs.Common.{map, sym, subst}
use Rattle.std.specs.Option.{option_map_or}
use Rattle.cedar_expr_model.specs.Builder.{trees}
use Rattle.cedar_expr_model.specs.Tree.{call}
use Rattle.cedar_expr_model.specs.ValueParts.{part_tree}
use Rattle.cedar_expr_names.specs.Views.{plain_name_of}
use Rattle.cedar_expr_values.specs.Extensions.{extension_of}
use Rattle.cedar_expr_values.specs.Values.{made}
use Rattle.cedar_evaluator_model.specs.Scope.{residual}
use Rattle.cedar_evaluator_model.specs.Steps.{called_left}
use Rattle.cedar_evaluator_model.specs.Functions.{with_functions}
use Rattle.cedar_evaluator_restricted_exprs.specs.Lefts.{Leaves, parts_of, IsParted}
use Rattle.cedar_evaluator_restricted_exprs.proofs.value_parts.call_left.Goals as goal

pub returns-in-Values : goal.returns-in-Values
returns-in-Values g c = λ x a.
    let scope = with_functions x in
    let name = plain_name_of c.args.name.now in
    let ps = parts_of c.args.parts.items in
    subst (λ o. Leaves (option_map_or (called_left scope name) o (residual (call name (trees (map part_tree ps))))) c.call.result) (sym (subst (IsParted ps) c.in-Values.is c.in_ok-values.ensures))
    (subst (λ xs. Leaves (called_left scope name (map (made extension_of) xs)) c.call.result) c.as_slice.ensures.value (c.call.ensures x a))
