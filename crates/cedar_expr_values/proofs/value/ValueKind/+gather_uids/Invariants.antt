use Rattle.std.proofs.Common.{◌≡◌, ◌||◌, take}
use Rattle.cedar_expr_model.specs.Uid.{Uid}
use Rattle.cedar_expr_values.specs.Uids.{has_uid}
use Rattle.cedar_expr_values.proofs.Gathered.{among}
use Rattle.cedar_expr_values.proofs.value.ValueKind.+gather_uids.Given as goal

abbrev pub invariant-loop-value : goal.invariant-loop-value
invariant-loop-value g l = (u : Uid) → has_uid l.uids u ≡ (has_uid l.initial.uids u || among g.X.ExtensionValue.seen u (take l.value-index l.value-items))

abbrev pub invariant-loop-value-2 : goal.invariant-loop-value-2
invariant-loop-value-2 g l =
    (u : Uid) → (has_uid l.uids u || among g.X.ExtensionValue.seen u l.value-iterator) ≡ (has_uid l.initial.uids u || among g.X.ExtensionValue.seen u l.initial.value-iterator)
