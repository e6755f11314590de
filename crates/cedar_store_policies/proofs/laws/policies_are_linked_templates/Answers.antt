use Rattle.std.specs.Prelude.{refl}
use Rattle.cedar_store_policies.proofs.laws.policies_are_linked_templates.Goals as goal

pub returns : goal.returns
returns c = λ p. refl
