use Rattle.std.proofs.Common.{sym, refl, ap, ◌∙◌}
use Rattle.std.specs.Prelude.{nat_le}
use Rattle.std.specs.List.{list_all}
use Rattle.cedar_expr_model.specs.Tree.{nesting}
use Rattle.cedar_gate_accepted.proofs.Alone.{repeated_refused, unlinked_refused, slots_refused, unknowns_refused, nesting_refused}
use Rattle.cedar_gate_model.specs.Acceptance.{repeated_policy, unlinked_slot, slot_outside_scope, unknown_in_policy, nests_too_deep}
use Rattle.cedar_gate_rules.specs.Limit.{levels_of}
use Rattle.cedar_gate_rules.specs.Policies.{policies_of}
use Rattle.cedar_store_model.specs.Policy.{condition}
use Rattle.cedarcheck.proofs.faults.add_plain.Goals as goal

pub returns : goal.returns
returns c =
    let ps = policies_of c.args.policies.now in
    let n = levels_of c.args.limit in
    λ s w h.
    c.in_ok-add_unless-5.ensures s (λ e. (nests_too_deep, nesting_refused ps n s w (sym (c.nest_within.ensures ∙ ap (λ k. list_all (λ p. nat_le (nesting (condition p)) k) ps) c.levels.ensures) ∙ e), refl))
    (c.in_ok-add_unless-4.ensures s (λ e. (unknown_in_policy, unknowns_refused ps n s w (sym c.stand_without_unknowns.ensures ∙ e), refl))
    (c.in_ok-add_unless-3.ensures s (λ e. (slot_outside_scope, slots_refused ps n s w (sym c.in_ok-keep_slots.ensures ∙ e), refl))
    (c.in_ok-add_unless-2.ensures s (λ e. (unlinked_slot, unlinked_refused ps n s w (sym c.are_linked.ensures ∙ e), refl))
    (c.in_ok-add_unless.ensures s (λ e. (repeated_policy, repeated_refused ps n s w (sym c.in_ok-are_distinct.ensures ∙ e), refl)) h))))
