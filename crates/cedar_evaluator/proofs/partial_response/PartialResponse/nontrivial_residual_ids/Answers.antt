use Rattle.std.proofs.Common.{◌++◌, map, sym, ◌∙◌}
use Rattle.std.proofs.lemmas.List.{map-append}
use Rattle.cedar_expr_model.specs.Name.{Text}
use Rattle.cedar_store_model.specs.Policy.{Policy, permit, forbid}
use Rattle.cedar_store_parts.specs.Parts.{id_text}
use Rattle.cedar_evaluator_model.specs.Members.{of_residual}
use Rattle.cedar_evaluator_requests.specs.Groups.{residual_seen}
use Rattle.cedar_evaluator_requests.proofs.Identified.{residual_ids}
use Rattle.cedar_evaluator_requests.proofs.Listed.{from_two}
use Rattle.cedar_evaluator.proofs.partial_response.PartialResponse.nontrivial_residual_ids.Goals as goal

pub returns : goal.returns
returns c =
    let ps = c.args.self.now.residual_permits.entries in
    let fs = c.args.self.now.residual_forbids.entries in
    let id_of : Policy → Text = λ p. p.id in
    from_two (λ i. id_text i.now) _ _ _ _ _ c.new-ids.ensures.items c.in_ok-push_ids.ensures c.in_ok-push_ids-2.ensures
    ∙ (λ i. residual_ids permit ps i ++ residual_ids forbid fs i)
    ∙ sym (map-append id_of (of_residual permit (map residual_seen ps)) (of_residual forbid (map residual_seen fs)))
