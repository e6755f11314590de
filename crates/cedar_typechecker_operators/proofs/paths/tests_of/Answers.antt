use Rattle.std.proofs.Common.{ap, ◌∙◌}
use Rattle.cedar_schema_model.specs.Types.{bool_type}
use Rattle.cedar_typechecker_operators.specs.Ways.{type_of_tests}
use Rattle.cedar_typechecker_operators.proofs.Ways.{begun}
use Rattle.cedar_typechecker_operators.proofs.paths.tests_of.Goals as goal

pub returns : goal.returns
returns c = λ i. record { type = bool_type ((c.type_of_tests.ensures ∙ ap type_of_tests c.as_slice.ensures.value) i); facts = c.along.ensures i }
