use Rattle.std.proofs.Common.{◌≡◌, ap, ◌∙◌}
use Rattle.cedar_evaluator_requests.specs.Views.{request_of}
use Rattle.cedar_evaluator.proofs.Copied.{trues_copied, falses_copied, residuals_copied, errors_copied}
use Rattle.cedar_evaluator.proofs.partial_response.PartialResponseClone.clone.Goals as goal

pub returns : goal.returns
returns c =
    let asked : request_of c.without_groups-copy.result.request.value ≡ request_of c.args.self.now.request.value = ap (λ r. request_of r.value) c.without_groups-copy.ensures ∙ ap request_of c.in_ok-clone.ensures.cases in
    let trues = trues_copied _ _ c.in_ok-satisfied_permits.ensures.cases in
    let falses = falses_copied _ _ c.in_ok-false_permits.ensures.cases in
    let left = residuals_copied _ _ c.in_ok-residual_permits.ensures.cases in
    let true_forbids = trues_copied _ _ c.in_ok-satisfied_forbids.ensures.cases in
    let false_forbids = falses_copied _ _ c.in_ok-false_forbids.ensures.cases in
    let left_forbids = residuals_copied _ _ c.in_ok-residual_forbids.ensures.cases in
    let told = errors_copied _ _ c.in_ok-errors.ensures.cases.0 in
    record {
      cases = record {
        seen = λ i. record {
          true_permits = trues i;
          false_permits = falses i;
          residual_permits = left i;
          true_forbids = true_forbids i;
          false_forbids = false_forbids i;
          residual_forbids = left_forbids i;
          errors = told i;
          request = asked i;
        };
        errors = c.in_ok-errors.ensures.cases.0;
      };
    }
