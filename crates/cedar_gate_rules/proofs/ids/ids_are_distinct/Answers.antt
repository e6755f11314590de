use Rattle.std.proofs.Common.{◌≡◌, Bool, true, false, [], ◌∷◌, ◌++◌, ◌+◌, drop, get_or, refl, sym, ap, ◌∙◌}
use Rattle.std.specs.Prelude.{not}
use Rattle.std.specs.BTreeSet.{contains}
use Rattle.std.specs.Cmp.Lexicographic.{slice_cmp}
use Rattle.std.specs.List.{list_any}
use Rattle.std.specs.Ordering.{nat_cmp}
use Rattle.std.specs.Str.{bytes_eq}
use Rattle.cedar_store_policies.specs.Policies.{policy_of}
use Rattle.cedar_gate_rules.proofs.Repeating.{knows_more, is_fresh, walk_goes}
use Rattle.cedar_gate_rules.proofs.ids.ids_are_distinct.Goals as goal

not_true : (b : Bool) → not b ≡ true → b ≡ false
not_true true h = cc
not_true false h = refl

pub loop-policy-preserved : goal.loop-policy-preserved
loop-policy-preserved c =
    let ps = c.args.policies.now in
    let i = c.loop-policy.policy-index in
    let p = c.policy-item.result in
    let x = c.as_str.result in
    let before = c.loop-policy.invariant.0 in
    let new : contains (λ x y. slice_cmp nat_cmp x.now y.now) c.loop-policy.seen x ≡ false = not_true _ (sym c.in_ok-insert.ensures.added ∙ c.if-not-branch.false) in
    let same : x.now ≡ (policy_of p).id = c.as_str.ensures ∙ c.id.ensures in
    let here : x.now ≡ (policy_of (get_or ps i p)).id = same ∙ ap (λ q. (policy_of q).id) c.policy-item.is in
    let unmet : list_any (bytes_eq (policy_of (get_or ps i p)).id) before ≡ false = ap (λ n. list_any (bytes_eq n) before) (sym here) ∙ sym (c.loop-policy.invariant.1 x) ∙ new in (
      before ++ x.now ∷ [],
      knows_more (λ k. k.now) (contains (λ x y. slice_cmp nat_cmp x.now y.now) c.loop-policy.seen) (contains (λ x y. slice_cmp nat_cmp x.now y.now) c.insert.new.self) before x c.loop-policy.invariant.1 c.in_ok-insert.ensures.updates.0,
      ap (λ n. is_fresh policy_of (before ++ n ∷ []) (drop (i + 1) ps)) here ∙ walk_goes policy_of before ps i p (is_fresh policy_of [] ps) c.loop-policy-test.true unmet c.loop-policy.invariant.2,
    )
