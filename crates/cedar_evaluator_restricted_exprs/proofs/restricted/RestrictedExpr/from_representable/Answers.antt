use Rattle.std.proofs.Common.{◌≡◌, ◌∙◌, ap}
use Rattle.std.specs.Prelude.{is_none}
use Rattle.cedar_expr_model.specs.Restricted.{is_restricted}
use Rattle.cedar_expr_model.proofs.Restricting.{written_restricted}
use Rattle.cedar_expr_values.specs.Extension.{made_of_extension}
use Rattle.cedar_expr_values.specs.Extensions.{with_call}
use Rattle.cedar_evaluator_restricted_exprs.proofs.restricted.RestrictedExpr.from_representable.Goals as goal

pub new_unchecked-requires : goal.new_unchecked-requires
new_unchecked-requires g c =
    ap is_restricted c.in_ok-from_value_kind.ensures.tree ∙ ap is_none (written_restricted (made_of_extension (with_call g.X.ExtensionValue.seen c.in_ok-new.field-0.value)))
