use Rattle.std.proofs.Common.{Bool, ◌++◌, map, option_map, sym, ap, ◌∙◌}
use Rattle.std.specs.Str.{bytes_eq}
use Rattle.cedar_store_model.specs.Policy.{Policy}
use Rattle.cedar_store_parts.specs.Parts.{effect_of, id_text}
use Rattle.cedar_store_policies.specs.Policies.{policy_of}
use Rattle.cedar_evaluator_model.specs.Members.{of_true, of_false, of_residual}
use Rattle.cedar_evaluator_requests.specs.Groups.{noted_seen, false_seen, residual_seen}
use Rattle.cedar_evaluator_requests.proofs.Found.{in_first, in_next, asked_next}
use Rattle.cedar_evaluator_requests.proofs.searches.policy_in.Goals as goal

pub returns-in-Some : goal.returns-in-Some
returns-in-Some c =
    let e = effect_of c.args.effect in
    let test : Policy → Bool = λ p. bytes_eq (id_text c.args.id.now) p.id in
    in_first test (policy_of c.in-Some.policy) (of_residual e (map residual_seen c.args.residuals.now.entries)) (of_true e (map noted_seen c.args.satisfied.now.entries) ++ of_false e (map false_seen c.args.falses.now.entries))
    (ap (option_map policy_of) (sym c.in-Some.is) ∙ c.in_ok-policy.ensures)

pub returns-in-Some-2 : goal.returns-in-Some-2
returns-in-Some-2 c =
    let e = effect_of c.args.effect in
    let test : Policy → Bool = λ p. bytes_eq (id_text c.args.id.now) p.id in
    let rs = of_residual e (map residual_seen c.args.residuals.now.entries) in
    let ts = of_true e (map noted_seen c.args.satisfied.now.entries) in
    let fs = of_false e (map false_seen c.args.falses.now.entries) in
    in_next test _ rs (ts ++ fs) (ap (option_map policy_of) (sym c.in-None.is) ∙ c.in_ok-policy.ensures)
    (in_first test (policy_of c.in-Some-2.policy) ts fs (ap (option_map policy_of) (sym c.in-Some-2.is) ∙ c.in_ok-policy-in-None.ensures))

pub returns-in-None-2 : goal.returns-in-None-2
returns-in-None-2 c =
    let e = effect_of c.args.effect in
    let test : Policy → Bool = λ p. bytes_eq (id_text c.args.id.now) p.id in
    let rs = of_residual e (map residual_seen c.args.residuals.now.entries) in
    let ts = of_true e (map noted_seen c.args.satisfied.now.entries) in
    let fs = of_false e (map false_seen c.args.falses.now.entries) in
    asked_next test policy_of c.false_of.result rs (ts ++ fs) (ap (option_map policy_of) (sym c.in-None.is) ∙ c.in_ok-policy.ensures)
    (asked_next test policy_of c.false_of.result ts fs (ap (option_map policy_of) (sym c.in-None-2.is) ∙ c.in_ok-policy-in-None.ensures) c.false_of.ensures)
