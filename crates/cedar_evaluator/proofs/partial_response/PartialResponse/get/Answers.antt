use Rattle.std.proofs.Common.{Bool, ◌++◌, option_map, sym, ap, ◌∙◌}
use Rattle.std.specs.Str.{bytes_eq}
use Rattle.cedar_store_model.specs.Policy.{Policy, permit, forbid}
use Rattle.cedar_store_parts.specs.Parts.{id_text}
use Rattle.cedar_store_policies.specs.Policies.{policy_of}
use Rattle.cedar_evaluator_model.specs.Members.{of_true, of_false, of_residual}
use Rattle.cedar_evaluator.specs.Responses.{response_seen}
use Rattle.cedar_evaluator_requests.proofs.Found.{in_first, asked_next}
use Rattle.cedar_evaluator.proofs.partial_response.PartialResponse.get.Goals as goal

pub returns-in-Some : goal.returns-in-Some
returns-in-Some c =
    let r = response_seen c.args.self.now in
    let test : Policy → Bool = λ p. bytes_eq (id_text c.args.id.now) p.id in
    in_first test (policy_of c.in-Some.policy)
    (of_residual permit r.residual_permits ++ (of_true permit r.true_permits ++ of_false permit r.false_permits))
    (of_residual forbid r.residual_forbids ++ (of_true forbid r.true_forbids ++ of_false forbid r.false_forbids))
    (ap (option_map policy_of) (sym c.in-Some.is) ∙ c.in_ok-permit.ensures)

pub returns-in-None : goal.returns-in-None
returns-in-None c =
    let r = response_seen c.args.self.now in
    let test : Policy → Bool = λ p. bytes_eq (id_text c.args.id.now) p.id in
    asked_next test policy_of c.policy_in-in-None.result
    (of_residual permit r.residual_permits ++ (of_true permit r.true_permits ++ of_false permit r.false_permits))
    (of_residual forbid r.residual_forbids ++ (of_true forbid r.true_forbids ++ of_false forbid r.false_forbids))
    (ap (option_map policy_of) (sym c.in-None.is) ∙ c.in_ok-permit.ensures) c.policy_in-in-None.ensures
