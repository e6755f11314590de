use Rattle.std.proofs.Common.{sym, ap, ◌∙◌}
use Rattle.cedar_expr_model.specs.Name.{is_well_formed}
use Rattle.cedar_expr_values.proofs.Ranged.{each_is_named}
use Rattle.cedar_expr_values.proofs.value.ranges.name_is_well_formed.Goals as goal

pub returns : goal.returns
returns g c = ap is_well_formed (sym c.typename-name.ensures) ∙ each_is_named c.typename-name.result.now
