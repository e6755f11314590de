-- Which decisions are owed: those that what is known forces.
-- Rule: owed decisions (docs/RULES.md).
use Rattle.std.specs.Prelude.{◌≡◌, List, Contains, true}
use Rattle.std.proofs.Common.{◌⊎◌}
use Rattle.cedar_expr_model.specs.Value.{V, truth_value}
use Rattle.cedar_store_model.specs.Outcome.{Res, val}
use Rattle.cedar_store_model.specs.World.{World}
use Rattle.cedar_store_model.specs.Policy.{Policy, Effect, permit, forbid}
use Rattle.cedar_store_model.specs.Answer.{Decision, allow, deny, PolicyMeans}

-- what is known gives the policy an outcome, and it isn't true
abbrev pub IsForcedFalse : World → Policy → Type 0
IsForcedFalse k p = (r : Res V) × PolicyMeans k p r × (r ≡ val (truth_value true) → ⊥)

-- some policy of the effect is true
abbrev pub SomeTrue : World → List Policy → Effect → Type 0
SomeTrue k ps e = (p : Policy) × Contains ps p × (p.effect ≡ e) × PolicyMeans k p (val (truth_value true))

-- no policy of the effect is true
abbrev pub NoneTrue : World → List Policy → Effect → Type 0
NoneTrue k ps e = (p : Policy) → Contains ps p → p.effect ≡ e → IsForcedFalse k p

-- What is known forces the decision: a forbid that is true forces Deny, and so do permits none of which is true; a permit that is true
-- forces Allow where no forbid is.
abbrev pub IsForced : World → List Policy → Decision → Type 0
IsForced k ps allow = SomeTrue k ps permit × NoneTrue k ps forbid
IsForced k ps deny = SomeTrue k ps forbid ⊎ NoneTrue k ps permit
