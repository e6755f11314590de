use Rattle.std.proofs.Common.{ap, sym}
use Rattle.cedar_expr_values.specs.Extensions.{extension_of}
use Rattle.cedar_evaluator_model.specs.Scope.{value_left}
use Rattle.cedar_evaluator_reads.proofs.leaves.copied.Goals as goal

pub returns : goal.returns
returns c = sym (ap value_left (c.in_ok-clone.ensures.cases.0 extension_of))
