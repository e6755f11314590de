use Rattle.std.proofs.Common.{ap, sym, ◌∙◌}
use Rattle.cedar_expr_model.specs.ValueParts.{known}
use Rattle.cedar_expr_partial.specs.Parts.{part_of, part_place}
use Rattle.cedar_expr_partial.proofs.partial_value.PartialValueClone.clone.Goals as goal

pub returns-in_ok-clone-in-Value : goal.returns-in_ok-clone-in-Value
returns-in_ok-clone-in-Value g c =
    let h = c.in_ok-clone-in-Value.ensures.cases in
    record { cases = (λ seen. ap known (h.0 seen) ∙ ap (part_of seen) (sym c.in-Value.is), h.1 ∙ ap part_place (sym c.in-Value.is)) }
