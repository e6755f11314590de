use Rattle.std.proofs.Common.{arith, ◌≡◌, ◌⊎◌, inl, inr, ◌+◌, ◌<◌, ◌≤◌, ℕ, [], None, refl, sym, ap, ◌∙◌, add-one}
use Rattle.std.proofs.lemmas.Grind.{common_steps}
use Rattle.std.specs.Prelude.{IsSome}
use Rattle.std.specs.Ordering.{nat_cmp}
use Rattle.std.specs.BTreeMap.{get, btree_map_len}
use Rattle.cedar_gate_wanted.specs.Rows.{found_at, uids, mentions_in, row_of}
use Rattle.cedar_gate_wanted.proofs.Settled.{settle_step, settle_drop, settle_end, carried, carried_once, not_below, no_entries}
use Rattle.std.specs.Option.{option_map_or}
use Rattle.std.specs.Prelude.{is_some}
use Rattle.std.specs.Cmp.{nat_cmp_total}
use Rattle.std.specs.BTreeMap.{keys}
use Rattle.std.proofs.lemmas.List.Elements.{All-contains}
use Rattle.std.proofs.lemmas.Map.Views.{btree_map_contains_key_iff}
use Rattle.std.proofs.lemmas.Map.Lookups.{exact_unsigned}
use Rattle.std.specs.BTreeMap.Range.{IsLtBy}
use Rattle.cedar_gate_wanted.proofs.settle.settle.Goals.{then-has_next+in_ok-step, else-has_next}
use Rattle.cedar_gate_wanted.proofs.settle.settle.Goals as goal

pub rows-preserved : goal.rows-preserved
rows-preserved c =
    let popped : (k : ℕ) → (k ≡ c.in-Some.distance) ⊎ (get nat_cmp c.pop_first.new.self k ≡ get nat_cmp c.rows.pending k) = λ k. grind (arith, common_steps, c.in-Some.ensures.updates) in
    let row : uids c.in-Some.keys.items ≡ row_of (get nat_cmp c.rows.pending) c.in-Some.distance = sym (ap (λ o. option_map_or (λ r. uids r.items) o []) c.in-Some.ensures.value) in
    let above : (q : ℕ) → IsSome (get nat_cmp c.pop_first.new.self q) → c.in-Some.distance + 1 ≤ q = λ q s.
    (let lt : IsLtBy nat_cmp c.in-Some.distance q = All-contains (IsLtBy nat_cmp c.in-Some.distance) (keys c.pop_first.new.self) q c.in-Some.ensures.all_above ((btree_map_contains_key_iff nat_cmp_total exact_unsigned c.pop_first.new.self q).0 s) in
    grind (arith, common_steps, lt)) in
    elim c.if-has_next.branch [
      | then-has_next+in_ok-step w ↦ rw w.near-is rw w.log-is rw w.pending-is rw w.floor-is record {
        settling = λ r s. settle_step r (mentions_in c.args.loaded.now) c.args.level (found_at c.rows.near) (found_at w.step.new.near) (row_of (get nat_cmp c.rows.pending)) (row_of (get nat_cmp w.step.new.pending)) c.in-Some.distance (c.in-Some.distance + 1) (uids w.as_slice.result.now) (row_of (get nat_cmp w.step.new.pending) (c.in-Some.distance + 1)) (let lt : c.in-Some.distance + 1 < c.args.level = c.has_next.ensures.0 w.if-has_next.true in omega arith) (add-one c.in-Some.distance) (ap uids w.as_slice.ensures.value ∙ row) refl
            (carried (get nat_cmp c.rows.pending) (get nat_cmp c.pop_first.new.self) (get nat_cmp w.step.new.pending) c.in-Some.distance (c.in-Some.distance + 1) popped w.in_ok-step.ensures.others w.in_ok-step.ensures.row) w.in_ok-step.ensures.followed (c.rows.invariant.settling r s);
        floor = λ q s. elim (w.in_ok-step.ensures.others q) [ inl this ↦ omega arith | inr same ↦ above q (sym (ap is_some same) ∙ s) ];
        undo = λ f i. w.step.ensures.undo f (c.rows.invariant.undo f i);
      }
      | else-has_next w ↦ rw w.near-is rw w.log-is rw w.pending-is rw w.floor-is record {
        settling = λ r s. settle_drop r (mentions_in c.args.loaded.now) c.args.level (found_at c.rows.near) (row_of (get nat_cmp c.rows.pending)) (row_of (get nat_cmp c.pop_first.new.self)) c.in-Some.distance (not_below _ _ _ c.has_next.ensures w.if-has_next.false) (carried_once (get nat_cmp c.rows.pending) (get nat_cmp c.pop_first.new.self) c.in-Some.distance popped) (c.rows.invariant.settling r s);
        floor = λ q s. elim (popped q) [ inl this ↦ (let h : c.in-Some.distance + 1 ≤ q = above q s in absurd (omega arith)) | inr same ↦ c.rows.invariant.floor q (sym (ap is_some same) ∙ s) ];
        undo = c.rows.invariant.undo;
      }
    ]

pub returns-clause-settled : goal.returns-clause-settled
returns-clause-settled c =
    let empty : 0 < btree_map_len c.rows.pending → ⊥ = λ lt. (let some : IsSome c.pop_first.result = c.pop_first.ensures.variant.1 lt in grind (arith, common_steps, some)) in
    let none : (q : ℕ) → get nat_cmp c.rows.pending q ≡ None = λ q. no_entries c.rows.pending.entries _ empty in
    λ r s. settle_end r (mentions_in c.args.loaded.now) c.args.level (found_at c.rows.near) (row_of (get nat_cmp c.rows.pending)) (λ q. ap (λ o. option_map_or (λ r. uids r.items) o []) (none q)) (c.rows.invariant.settling r s)
