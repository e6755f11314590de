use Rattle.std.proofs.Common.{length, sym, ap, ◌∙◌}
use Rattle.cedar_expr_values.specs.Extensions.{extension_of}
use Rattle.cedar_evaluator_requests.specs.Views.{keys_of_context, names_made}
use Rattle.cedar_evaluator_requests.proofs.Named.{as_many}
use Rattle.cedar_evaluator_requests.proofs.context.Context.num_keys.Goals as goal

pub returns-in-Value : goal.returns-in-Value
returns-in-Value c =
    c.len.ensures.len
    ∙ as_many extension_of c.as_map.result.now.entries
    ∙ ap (λ fs. length (names_made fs)) (sym c.as_map.ensures.as_made)
    ∙ ap (λ k. length (keys_of_context k)) (sym c.in-Value.is)
