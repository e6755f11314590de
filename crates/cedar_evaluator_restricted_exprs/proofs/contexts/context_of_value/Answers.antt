use Rattle.std.proofs.Common.{Some, sym, ap, ◌∙◌}
use Rattle.cedar_expr_values.specs.Extensions.{extension_of}
use Rattle.cedar_expr_values.specs.Values.{made_kind}
use Rattle.cedar_evaluator_model.specs.Reauthorize.{context_from}
use Rattle.cedar_evaluator_model.specs.Scope.{value_left, closed}
use Rattle.cedar_evaluator_restricted_exprs.proofs.contexts.context_of_value.Goals as goal

pub returns-in_ok-clone-in-Record : goal.returns-in_ok-clone-in-Record
returns-in_ok-clone-in-Record c =
    ap (λ fs. Some (closed fs)) (c.in_ok-clone-in-Record.ensures.cases extension_of)
    ∙ ap (λ m. context_from (value_left m)) (sym (sym c.value_kind.ensures.value ∙ ap (made_kind extension_of) c.in-Record.is))
