use Rattle.std.proofs.Common.{arith, ◌≡◌, ◌⊎◌, inl, inr, ℕ, [], Some, Contains, sym, subst}
use Rattle.std.proofs.lemmas.Grind.{common_steps}
use Rattle.std.proofs.lemmas.List.Elements.{Contains-append_left, Contains-push}
use Rattle.std.specs.Option.{option_map_or}
use Rattle.std.specs.Ordering.{nat_cmp}
use Rattle.std.specs.BTreeMap.{get}
use Rattle.cedar_expr_names.specs.Views.{uid_of}
use Rattle.cedar_gate_wanted.specs.Rows.{row_of, uids}
use Rattle.cedar_gate_wanted.proofs.Settled.{carried, not_among_none, pushed_row}
use Rattle.cedar_gate_wanted.proofs.distance_rows.put.Goals as goal

pub returns-clause-put : goal.returns-clause-put
returns-clause-put c =
    let here : get nat_cmp c.insert.new.self c.args.distance ≡ Some c.push.new.self = grind (arith, common_steps, c.in_ok-insert.ensures.updates) in
    let at = pushed_row (get nat_cmp c.args.pending.now) (get nat_cmp c.insert.new.self) c.args.distance c.args.uid c.take_row-row.result c.push.new.self here c.in_ok-push.ensures.items c.take_row-row.ensures.row in
    subst (λ zs. Contains zs (uid_of c.args.uid)) (sym at) (Contains-push _ _)

pub returns-clause-kept : goal.returns-clause-kept
returns-clause-kept c =
    let apart : (q : ℕ) → (q ≡ c.args.distance) ⊎ (get nat_cmp c.insert.new.self q ≡ get nat_cmp c.take_row-row.new.pending q) = λ q. grind (arith, common_steps, c.in_ok-insert.ensures.updates) in
    let here : get nat_cmp c.insert.new.self c.args.distance ≡ Some c.push.new.self = grind (arith, common_steps, c.in_ok-insert.ensures.updates) in
    let at = pushed_row (get nat_cmp c.args.pending.now) (get nat_cmp c.insert.new.self) c.args.distance c.args.uid c.take_row-row.result c.push.new.self here c.in_ok-push.ensures.items c.take_row-row.ensures.row in
    λ d x k. elim (carried (get nat_cmp c.args.pending.now) (get nat_cmp c.take_row-row.new.pending) (get nat_cmp c.insert.new.self) c.args.distance c.args.distance c.take_row-row.ensures.others apart (λ y m. absurd (not_among_none y (subst (λ o. Contains (option_map_or (λ r. uids r.items) o []) y) c.take_row-row.ensures.here m))) d) [
      | inl this ↦ subst (λ j. Contains (row_of (get nat_cmp c.insert.new.self) j) x) (sym this) (subst (λ zs. Contains zs x) (sym at) (Contains-append_left _ _ x (subst (λ j. Contains (row_of (get nat_cmp c.args.pending.now) j) x) this k)))
      | inr keep ↦ keep x k
    ]
