use Rattle.std.proofs.Common.{◌≡◌, ◌∙◌, ap, subst}
use Rattle.cedar_expr_values.specs.Extensions.{extension_of}
use Rattle.cedar_expr_values.specs.Values.{made}
use Rattle.cedar_evaluator_model.specs.Scope.{value_left}
use Rattle.cedar_evaluator_model.specs.Steps.{on_value, picks}
use Rattle.cedar_evaluator_errors.specs.Outcomes.{Leaves, left_seen}
use Rattle.cedar_evaluator_core.proofs.after.taken_apart.Goals as goal

pub returns-in-Ok-Value : goal.returns-in-Ok-Value
returns-in-Ok-Value c = λ l h x y other stop no.
    let is : l ≡ value_left (made extension_of c.in-Ok-Value.v) = subst (Leaves l) c.in-Ok-Value.is h ∙ ap left_seen c.in-Ok-Value.field-0-is in
    ap (λ z. on_value z (picks x y) other) is ∙ c.in-Err-as_bool.ensures x y stop no
