-- What a code set of policies is as the model's.
-- Rule: policies and templates (docs/RULES.md).
use Rattle.std.specs.Prelude.{find, Option}
use Rattle.std.specs.Str.{bytes_eq}
use Rattle.cedar_expr_model.specs.Name.{Text}
use Rattle.cedar_store_model.specs.Policy.{Policy}
use Rattle.cedar_store_model.specs.PolicySet as model
use Rattle.cedar_store_policies.specs.Seen.{SetSeen, entries_seen}
use Rattle.cedar_store_policies.specs.SetParts.{set_made}
use Rattle.cedar_store_policies.specs.declared.policy_set.PolicySet.{PolicySet}

abbrev pub set_of : PolicySet → model.PolicySet
set_of s = set_made s.templates.entries s.links.entries

-- what is seen of it beside
abbrev pub set_seen : PolicySet → SetSeen
set_seen s = entries_seen s.templates.entries s.links.entries

-- the policy of this id
abbrev pub find_policy : Text → model.PolicySet → Option Policy
find_policy id s = find (λ p. bytes_eq id p.id) s.policies
