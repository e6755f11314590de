-- What a bundle says, once it is read.
-- Rule: what a bundle reads as (docs/RULES.md).
use Rattle.std.specs.Prelude.{List}
use Rattle.cedar_expr_model.specs.Uid.{Uid}
use Rattle.cedar_expr_model.specs.Value.{V}
use Rattle.cedar_store_model.specs.World.{Entity}
use Rattle.cedar_gate_model.specs.Acceptance.{Submission}
use Rattle.cedar_gate_model.specs.Transcript.{Step}
use Rattle.cedar_evaluator_model.specs.Response.{PartialRequest}

-- What is handed to the gate, the request, the whole store, and the steps of the run.
pub record Bundle : Type 0 where
  pub submission : Submission
  pub start : PartialRequest
  pub store : List (Uid × Entity V)
  pub steps : List Step
