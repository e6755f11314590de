use Rattle.std.proofs.Common.{sym, ap, ◌∙◌}
use Rattle.cedar_expr_model.specs.Made.{made_set, made_record}
use Rattle.cedar_expr_values.specs.Values.{made_kind}
use Rattle.cedar_expr_values.proofs.value.ValueKindClone.clone.Goals as goal

pub returns-in_ok-clone-in-Set : goal.returns-in_ok-clone-in-Set
returns-in_ok-clone-in-Set g c = record { cases = λ seen. ap made_set (c.in_ok-clone-in-Set.ensures.cases seen) ∙ sym (ap (made_kind seen) c.in-Set.is) }

pub returns-in_ok-clone-in-Record : goal.returns-in_ok-clone-in-Record
returns-in_ok-clone-in-Record g c = record { cases = λ seen. ap made_record (c.in_ok-clone-in-Record.ensures.cases seen) ∙ sym (ap (made_kind seen) c.in-Record.is) }
