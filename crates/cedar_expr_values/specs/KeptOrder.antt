-- The order of kept sets and records: that of the values that they are.
-- Rule: values and equality (docs/RULES.md).
use Rattle.std.specs.Prelude.{◌≡◌, Bool, true, Some}
use Rattle.std.specs.Cmp.{IsTotalOrder, IsEquivalence, IsPartialOrder, partial_order_from_total}
use Rattle.std.proofs.Common.{ap}
use Rattle.std.proofs.lemmas.Cmp.{on_total, eq_by_cmp_equiv}
use Rattle.std.specs.declared.cmp.Ordering.{Ordering}
use Rattle.cedar_expr_model.specs.Value.{V}
use Rattle.cedar_expr_model.specs.Order.{value_cmp, value_eq}
use Rattle.cedar_expr_model.specs.Made.{made_set, made_record, bare}
use Rattle.cedar_expr_model.proofs.ValueOrder.{value_linear, values_decide}
use Rattle.cedar_expr_values.specs.Inputs.{value_input}
use Rattle.cedar_expr_values.specs.Kept.{KeptSet, KeptRecord}

-- the values that they are
abbrev pub kept_set : KeptSet → V
kept_set s = bare (made_set s.0)

abbrev pub kept_record : KeptRecord → V
kept_record r = bare (made_record r.0)

abbrev pub kept_set_cmp : KeptSet → KeptSet → Ordering
kept_set_cmp s t = value_cmp (kept_set s) (kept_set t)

abbrev pub kept_record_cmp : KeptRecord → KeptRecord → Ordering
kept_record_cmp r q = value_cmp (kept_record r) (kept_record q)

abbrev pub kept_set_eq : KeptSet → KeptSet → Bool
kept_set_eq s t = value_eq (kept_set s) (kept_set t)

abbrev pub kept_record_eq : KeptRecord → KeptRecord → Bool
kept_record_eq r q = value_eq (kept_record r) (kept_record q)

pub sets_total : IsTotalOrder kept_set_cmp
sets_total = on_total kept_set value_linear.total

pub records_total : IsTotalOrder kept_record_cmp
records_total = on_total kept_record value_linear.total

pub sets_equal : IsEquivalence kept_set_eq
sets_equal = eq_by_cmp_equiv sets_total

pub records_equal : IsEquivalence kept_record_eq
records_equal = eq_by_cmp_equiv records_total

pub sets_ordered : IsPartialOrder kept_set_eq (λ s t. Some (kept_set_cmp s t))
sets_ordered = partial_order_from_total sets_total

pub records_ordered : IsPartialOrder kept_record_eq (λ r q. Some (kept_record_cmp r q))
records_ordered = partial_order_from_total records_total

-- equal ones feed a hasher alike
pub sets_hashed : (s t : KeptSet) → kept_set_eq s t ≡ true → value_input (kept_set s) ≡ value_input (kept_set t)
sets_hashed s t e = ap value_input ((values_decide (kept_set s) (kept_set t)).0 e)

pub records_hashed : (r q : KeptRecord) → kept_record_eq r q ≡ true → value_input (kept_record r) ≡ value_input (kept_record q)
records_hashed r q e = ap value_input ((values_decide (kept_record r) (kept_record q)).0 e)
