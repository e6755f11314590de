-- The code's policies as the model's, in their order.
use Rattle.std.specs.Prelude.{List, map}
use Rattle.cedar_store_model.specs.Policy as model
use Rattle.cedar_store_policies.specs.Policies.{policy_of}
use Rattle.cedar_store_policies.specs.declared.policy.Policy.{Policy}

abbrev pub policies_of : List Policy → List model.Policy
policies_of ps = map policy_of ps
