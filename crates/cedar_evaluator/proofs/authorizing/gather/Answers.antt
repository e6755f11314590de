use Rattle.std.proofs.Common.{◌∷◌, [], ◌++◌, map, append_assoc, sym, ap, ◌∙◌}
use Rattle.std.proofs.lemmas.List.{map-append, append-nil}
use Rattle.std.specs.Borrow.{Bor}
use Rattle.cedar_store_model.specs.Policy as model
use Rattle.cedar_store_model.specs.Policy.{no_bindings}
use Rattle.cedar_store_policies.specs.Policies.{policy_of}
use Rattle.cedar_store_policies.specs.PolicySets.{set_of}
use Rattle.cedar_store_policies.specs.declared.policy.Policy.{Policy}
use Rattle.cedar_evaluator_model.specs.Response.{response_of, verdict}
use Rattle.cedar_evaluator_core.specs.Evaluators.{asked_of, limit_of, scope_in}
use Rattle.cedar_evaluator.specs.Gathering.{gathered, with_left}
use Rattle.cedar_evaluator.proofs.Answered.{one_more_answered}
use Rattle.cedar_evaluator.proofs.authorizing.gather.Goals as goal

pub loop-policy-init : goal.loop-policy-init
loop-policy-init g c = record { goes = ap (map policy_of) c.into_iter-policy-iterator.ensures.into_iter_gives ∙ c.policies-policy-items.ensures.policies; answered = λ fs s. c.new-gathering.ensures (asked_of c.args.evaluator.now) }

pub loop-policy-preserved : goal.loop-policy-preserved
loop-policy-preserved g c =
    let seen : Bor Policy → model.Policy = λ p. policy_of p.now in
    let e = c.args.evaluator.now in
    let more = map-append seen c.loop-policy.yielded (c.in-Some.policy ∷ []) in
    record {
      goes =
          ap (λ ps. ps ++ map policy_of c.next.new.self) more
          ∙ append_assoc (map seen c.loop-policy.yielded) (policy_of c.in-Some.policy.now ∷ []) (map policy_of c.next.new.self)
          ∙ ap (λ ps. map seen c.loop-policy.yielded ++ map policy_of ps) (sym c.in-Some.ensures.steps)
          ∙ c.loop-policy.invariant.goes;
      answered = λ fs s.
          let scope = scope_in g.T.FunctionTable.table fs e no_bindings in
          let left = c.in_ok-left.ensures fs s in
          c.in_ok-put.ensures (asked_of e) left.tells
          ∙ ap (with_left (gathered (asked_of e) c.loop-policy.gathering) (policy_of c.in-Some.policy.now)) (sym left.seen)
          ∙ (λ i. with_left (c.loop-policy.invariant.answered fs s i) (policy_of c.in-Some.policy.now) (verdict scope (limit_of e) (policy_of c.in-Some.policy.now)))
          ∙ sym (one_more_answered scope (limit_of e) (map seen c.loop-policy.yielded) (policy_of c.in-Some.policy.now))
          ∙ ap (response_of scope (limit_of e)) (sym more);
    }

pub returns : goal.returns
returns g c = λ fs s.
    let seen : Bor Policy → model.Policy = λ p. policy_of p.now in
    let e = c.args.evaluator.now in
    c.loop-policy.invariant.answered fs s
    ∙ ap (response_of (scope_in g.T.FunctionTable.table fs e no_bindings) (limit_of e))
    (sym (append-nil (map seen c.loop-policy.yielded)) ∙ ap (λ ps. map seen c.loop-policy.yielded ++ map policy_of ps) (sym c.in-None.ensures.steps.0) ∙ c.loop-policy.invariant.goes)
