use Rattle.std.proofs.Common.{map, sym, ap, ◌∙◌}
use Rattle.cedar_expr_model.specs.Name.{Text}
use Rattle.cedar_store_model.specs.Policy.{Policy}
use Rattle.cedar_store_parts.specs.Parts.{effect_of}
use Rattle.cedar_evaluator_requests.proofs.Identified.{true_ids}
use Rattle.cedar_evaluator.proofs.partial_response.PartialResponse.reasons.Goals as goal

pub returns : goal.returns
returns c =
    let r = c.determining-effect.result in
    let id_of : Policy → Text = λ p. p.id in
    c.in_ok-ids.ensures ∙ sym (true_ids (effect_of r.0) (r.1).now.entries) ∙ ap (map id_of) c.determining-effect.ensures
