-- What the laws of policies and of sets of them say.
-- Rule: policies and templates (docs/RULES.md).
use Rattle.std.specs.Prelude.{◌≡◌, true}
use Rattle.cedar_store_model.specs.OfLaws.Distinct.{has_distinct_ids}
use Rattle.cedar_store_model.specs.PolicySet.{linked}
use Rattle.cedar_store_policies.specs.Policies.{policy_of, template_behind}
use Rattle.cedar_store_policies.specs.PolicySets.{set_of}
use Rattle.cedar_store_policies.specs.declared.policy.Policy.{Policy}
use Rattle.cedar_store_policies.specs.declared.policy_set.PolicySet.{PolicySet}

-- a policy is its template, linked under its id with its bindings
abbrev pub PoliciesAreLinked : Type 0
PoliciesAreLinked = (p : Policy) → policy_of p ≡ linked (template_behind p) (policy_of p).id (policy_of p).bindings

-- no id is repeated in a set
abbrev pub IdsAreDistinct : Type 0
IdsAreDistinct = (s : PolicySet) → has_distinct_ids (set_of s) ≡ true
