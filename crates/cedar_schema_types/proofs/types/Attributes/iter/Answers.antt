use Rattle.std.proofs.Common.{ap, ◌∙◌}
use Rattle.cedar_expr_model.specs.Records.{names_rise}
use Rattle.cedar_schema_types.specs.AttributeLists.{declared_pairs}
use Rattle.cedar_schema_types.proofs.InOrder.{entries_rise}
use Rattle.cedar_schema_types.proofs.types.Attributes.iter.Goals as goal

pub returns-clause-rising : goal.returns-clause-rising
returns-clause-rising c = ap (λ es. names_rise (declared_pairs es)) c.iter.ensures.rest ∙ entries_rise c.deref.result.now.entries c.iter.ensures.ordered
