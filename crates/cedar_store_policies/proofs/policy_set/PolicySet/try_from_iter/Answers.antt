use Rattle.std.proofs.Common.{◌++◌, ◌∷◌, [], map, ap, sym, ◌∙◌, append_assoc}
use Rattle.std.specs.Vec.Iter.{into_iter_items}
use Rattle.cedar_store_policies.specs.Policies.{policy_of}
use Rattle.cedar_store_policies.specs.PolicySets.{set_of, set_seen}
use Rattle.cedar_store_policies.specs.SetParts.{ids_of}
use Rattle.cedar_store_policies.specs.SetRefusals.{RefusesIds}
use Rattle.cedar_store_policies.proofs.Gathered.{handed, gathered, refused_all}
use Rattle.cedar_store_policies.proofs.Seen.{gathered_seen}
use Rattle.cedar_store_policies.proofs.policy_set.PolicySet.try_from_iter.Goals as goal

pub loop-policy-preserved : goal.loop-policy-preserved
loop-policy-preserved c =
    let seen = c.loop-policy.invariant in
    let ps = c.loop-policy.yielded in
    record {
      goes = seen.goes ∙ ap (λ rest. ps ++ rest) c.in-Some.ensures.steps.0 ∙ sym (append_assoc ps (c.in-Some.policy ∷ []) (into_iter_items c.next.new.self));
      made = gathered (set_of c.loop-policy.set) (set_of c.add.new.self) ps c.in-Some.policy seen.made c.in_ok-add.ensures.added;
      seen = gathered_seen (set_seen c.loop-policy.set) (set_seen c.add.new.self) ps c.in-Some.policy seen.seen c.in_ok-add.ensures.seen;
    }

pub returns-in_err-add-clause-refused : goal.returns-in_err-add-clause-refused
returns-in_err-add-clause-refused c =
    let seen = c.loop-policy.invariant in
    let ps = c.loop-policy.yielded in
    handed (RefusesIds (ids_of (map policy_of c.args.policies.items))) c.in_err-add.field-0.0 c.from_residual.result c.from_residual.ensures.1
    (refused_all (set_of c.loop-policy.set) ps (into_iter_items c.next.new.self) c.in-Some.policy seen.made c.loop-policy.set.distinct c.args.policies.items c.in_err-add.field-0.0 (seen.goes ∙ ap (λ rs. ps ++ rs) c.in-Some.ensures.steps.0) c.in_err-add.ensures.refused)
