use Rattle.std.proofs.Common.{◌++◌, map, sym, ap, ◌∙◌}
use Rattle.std.proofs.lemmas.List.{map-append}
use Rattle.cedar_evaluator_model.specs.Members.{without_value}
use Rattle.cedar_evaluator_requests.specs.Views.{error_of}
use Rattle.cedar_evaluator_requests.specs.Groups.{residual_seen}
use Rattle.cedar_evaluator_requests.proofs.Listed.{from_two}
use Rattle.cedar_evaluator.proofs.partial_response.PartialResponse.into_errors.Goals as goal

pub returns : goal.returns
returns c =
    let listed = c.args.self.errors.items in
    ap (map error_of) c.in_ok-append.ensures.items
    ∙ map-append error_of c.push_without_value-2.new.errors.items listed
    ∙ ap (λ xs. xs ++ map error_of listed)
    (from_two error_of _ _ _ _ _ c.new-errors.ensures.items c.in_ok-push_without_value.ensures c.in_ok-push_without_value-2.ensures ∙ sym (map-append without_value (map residual_seen c.args.self.residual_forbids.entries) (map residual_seen c.args.self.residual_permits.entries)))
