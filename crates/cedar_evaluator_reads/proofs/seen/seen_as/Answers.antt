use Rattle.std.proofs.Common.{sym, ap, ◌∙◌}
use Rattle.cedar_expr_model.specs.Made.{made_record}
use Rattle.cedar_expr_values.specs.Extensions.{extension_of}
use Rattle.cedar_expr_values.specs.Values.{made_kind}
use Rattle.cedar_evaluator_reads.proofs.seen.seen_as.Goals as goal

pub returns-in-Record : goal.returns-in-Record
returns-in-Record c = sym c.value_kind.ensures.value ∙ ap (made_kind extension_of) c.in-Record.is ∙ ap made_record c.as_map.ensures.as_made
