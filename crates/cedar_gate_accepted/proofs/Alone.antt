-- The rules that ask no schema: one that is broken is a fault, and where none is the submission is clear of all.
use Rattle.std.proofs.Common.{◌≡◌, ℕ, true, false, ◌&&◌, refl, ap, ◌∙◌}
use Rattle.std.specs.Prelude.{List, not, nat_le, is_none}
use Rattle.std.specs.List.{list_all}
use Rattle.std.specs.Str.{bytes_eq}
use Rattle.cedar_expr_model.specs.Repeats.{repeated}
use Rattle.cedar_expr_model.specs.Tree.{nesting}
use Rattle.cedar_expr_model.specs.Unknowns.{has_unknown}
use Rattle.cedar_gate_accepted.specs.Handed.{HasPolicies}
use Rattle.cedar_gate_accepted.specs.Untyped.{is_clear_of_all, plain_causes}
use Rattle.cedar_gate_accepted.proofs.Refused.{plain_fault}
use Rattle.cedar_gate_model.specs.Acceptance.{Submission, repeated_policy, unlinked_slot, slot_outside_scope, unknown_in_policy, nests_too_deep, is_linked, keeps_slots_in_scope, HasFault}
use Rattle.cedar_store_model.specs.Answer.{ids}
use Rattle.cedar_store_model.specs.Policy.{Policy, condition}

module _ (ps : List Policy) (limit : ℕ) (s : Submission) (w : HasPolicies ps limit s) where
  pub repeated_refused : is_none (repeated bytes_eq (ids ps)) ≡ false → HasFault repeated_policy s
  repeated_refused h = plain_fault s repeated_policy tt refl (ap (λ qs. is_none (repeated bytes_eq (ids qs))) w.policies ∙ h)

  pub unlinked_refused : list_all is_linked ps ≡ false → HasFault unlinked_slot s
  unlinked_refused h = plain_fault s unlinked_slot tt refl (ap (list_all is_linked) w.policies ∙ h)

  pub slots_refused : list_all keeps_slots_in_scope ps ≡ false → HasFault slot_outside_scope s
  slots_refused h = plain_fault s slot_outside_scope tt refl (ap (list_all keeps_slots_in_scope) w.policies ∙ h)

  pub unknowns_refused : list_all (λ p. not (has_unknown (condition p))) ps ≡ false → HasFault unknown_in_policy s
  unknowns_refused h = plain_fault s unknown_in_policy tt refl (ap (list_all (λ p. not (has_unknown (condition p)))) w.policies ∙ h)

  pub nesting_refused : list_all (λ p. nat_le (nesting (condition p)) limit) ps ≡ false → HasFault nests_too_deep s
  nesting_refused h = plain_fault s nests_too_deep tt refl ((λ i. list_all (λ p. nat_le (nesting (condition p)) (w.limit i)) (w.policies i)) ∙ h)

  pub all_kept : is_none (repeated bytes_eq (ids ps)) ≡ true → list_all is_linked ps ≡ true → list_all keeps_slots_in_scope ps ≡ true → list_all (λ p. not (has_unknown (condition p))) ps ≡ true
      → list_all (λ p. nat_le (nesting (condition p)) limit) ps ≡ true → is_clear_of_all plain_causes s ≡ true
  all_kept a b c d e = λ i.
      (ap (λ qs. is_none (repeated bytes_eq (ids qs))) w.policies ∙ a) i
      && ((ap (list_all is_linked) w.policies ∙ b) i
      && ((ap (list_all keeps_slots_in_scope) w.policies ∙ c) i
      && ((ap (list_all (λ p. not (has_unknown (condition p)))) w.policies ∙ d) i
      && (((λ j. list_all (λ p. nat_le (nesting (condition p)) (w.limit j)) (w.policies j)) ∙ e) i && true))))
