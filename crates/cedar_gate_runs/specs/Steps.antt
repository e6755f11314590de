-- What the code's steps are in the model.
-- Rule: legal transcript (docs/RULES.md).
use Rattle.std.specs.Prelude.{List, map}
use Rattle.std.specs.Rc.{rc_str_bytes}
use Rattle.cedar_expr_values.specs.Extensions.{extension_of}
use Rattle.cedar_expr_values.specs.Values.{made}
use Rattle.cedar_gate_model.specs.Transcript as model
use Rattle.cedar_gate_runs.specs.declared.steps.Step.{Step}
use Rattle.cedar_gate_runs.specs.declared.steps.Step.TheVariants.{Load, Bind, Decide}

abbrev pub step_of : Step → model.Step
step_of Load = model.load
step_of (Bind n v) = model.bind_name (rc_str_bytes n) (made extension_of v)
step_of Decide = model.decide

abbrev pub steps_of : List Step → List model.Step
steps_of steps = map step_of steps
