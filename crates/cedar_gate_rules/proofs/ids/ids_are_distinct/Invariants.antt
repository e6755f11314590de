use Rattle.std.proofs.Common.{◌≡◌, List, [], drop}
use Rattle.std.specs.BTreeSet.{contains}
use Rattle.std.specs.Cmp.Lexicographic.{slice_cmp}
use Rattle.std.specs.Ordering.{nat_cmp}
use Rattle.cedar_expr_model.specs.Name.{Text}
use Rattle.cedar_store_policies.specs.Policies.{policy_of}
use Rattle.cedar_gate_rules.proofs.Repeating.{Knows, is_fresh}
use Rattle.cedar_gate_rules.proofs.ids.ids_are_distinct.Given as goal

abbrev pub invariant-loop-policy : goal.invariant-loop-policy
invariant-loop-policy l =
    (before : List Text) × Knows (λ k. k.now) (contains (λ x y. slice_cmp nat_cmp x.now y.now) l.seen) before × (is_fresh policy_of before (drop l.policy-index l.policies) ≡ is_fresh policy_of [] l.policies)
