use Rattle.std.proofs.Common.{ap, ◌∙◌}
use Rattle.cedar_expr_model.specs.Made.{bare, made_record}
use Rattle.cedar_expr_values.specs.Members.{recorded_bare}
use Rattle.cedar_expr_values.proofs.value.ValueKind.record.Goals as goal

pub returns-clause-fields : goal.returns-clause-fields
returns-clause-fields g c = ap (λ fs. bare (made_record fs)) c.in_ok-fields.ensures ∙ recorded_bare g.X.ExtensionValue.seen c.args.pairs.items
