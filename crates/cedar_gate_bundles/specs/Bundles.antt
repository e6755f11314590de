-- What the code's bundles are as the model's.
-- Rule: what a bundle reads as (docs/RULES.md).
use Rattle.std.specs.Prelude.{map}
use Rattle.cedar_store_entities.specs.Stores.{store_seen}
use Rattle.cedar_store_policies.specs.Policies.{policy_of}
use Rattle.cedar_gate_fragments.specs.Written.{declared_by}
use Rattle.cedar_gate_model.specs.Acceptance as gate
use Rattle.cedar_gate_model.specs.Bundle as model
use Rattle.cedar_evaluator_model.specs.Functions.{Functions}
use Rattle.cedar_evaluator_requests.specs.Views.{request_of}
use Rattle.cedar_gate_rules.specs.Limit.{levels_of}
use Rattle.cedar_gate_runs.specs.Steps.{steps_of}
use Rattle.cedar_gate_bundles.specs.declared.bundle.Bundle.{Bundle}
use Rattle.cedar_gate_bundles.specs.declared.bundle.Submission.{Submission}

-- what is handed to the gate, under the table of these functions
abbrev pub submission_of : Functions → Submission → gate.Submission
submission_of x s = record {
  declarations = declared_by s.fragments.items;
  policies = map policy_of s.policies.items;
  table = x.table;
  level = s.level;
  limit = levels_of s.limit;
}

abbrev pub bundle_of : Functions → Bundle → model.Bundle
bundle_of x b = record {
  submission = submission_of x b.submission;
  start = request_of b.request;
  store = (store_seen b.store).entities;
  steps = steps_of b.steps.items;
}
