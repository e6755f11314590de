use Rattle.std.proofs.Common.{map, sym, ◌∙◌}
use Rattle.std.proofs.lemmas.List.Elements.{filter_map-append}
use Rattle.cedar_store_parts.specs.Parts.{id_text}
use Rattle.cedar_evaluator_model.specs.Members.{id_if_erred}
use Rattle.cedar_evaluator_requests.specs.Groups.{false_seen}
use Rattle.cedar_evaluator_requests.proofs.Listed.{from_two}
use Rattle.cedar_evaluator.proofs.partial_response.PartialResponse.definitely_errored.Goals as goal

pub returns : goal.returns
returns c =
    let r = c.args.self.now in
    from_two (λ i. id_text i.now) _ _ _ _ _ c.new-ids.ensures.items c.in_ok-push_erred.ensures c.in_ok-push_erred-2.ensures
    ∙ sym (filter_map-append id_if_erred (map false_seen r.false_permits.entries) (map false_seen r.false_forbids.entries))
