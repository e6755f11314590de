use Rattle.std.proofs.Common.{ap, sym, ◌∙◌}
use Rattle.cedar_expr_values.specs.Extensions.{extension_of}
use Rattle.cedar_evaluator_model.specs.Scope.{value_left}
use Rattle.cedar_evaluator_restricted_exprs.specs.Lefts.{names_in}
use Rattle.cedar_evaluator_restricted_exprs.proofs.Named.{record_is}
use Rattle.cedar_evaluator_restricted_exprs.proofs.records.record_value.Goals as goal

pub returns : goal.returns
returns c = ap value_left (record_is extension_of (names_in c.args.fields.now.entries) c.args.values.items c.in_ok-pairs.pairs.items c.in_ok-pairs.ensures.pairs c.in_ok-pairs.ensures.rising ∙ sym c.in_ok-record.ensures.as_made)
