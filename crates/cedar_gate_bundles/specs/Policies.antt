-- What is read of policies.
-- Rule: what a bundle reads as; policies and templates (docs/RULES.md).
use Rattle.std.specs.Prelude.{List, [], ◌∷◌, codes}
use Rattle.cedar_expr_model.specs.Name.{Text}
use Rattle.cedar_store_model.specs.Policy.{Effect, permit, forbid}

abbrev pub effect_words : List (Text × Effect)
effect_words = (codes "permit", permit) ∷ (codes "forbid", forbid) ∷ []

-- the keys of a policy
abbrev pub policy_keys : List Text
policy_keys = codes "id" ∷ codes "effect" ∷ codes "principal" ∷ codes "action" ∷ codes "resource" ∷ codes "when" ∷ codes "link" ∷ []
