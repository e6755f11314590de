use Rattle.std.proofs.Common.{◌+◌, arith, ◌≡◌, ◌∙◌, sym, [], ap, Contains, subst}
use Rattle.std.specs.Option.{option_map_or}
use Rattle.std.proofs.lemmas.Grind.{common_steps}
use Rattle.std.specs.Ordering.{nat_cmp}
use Rattle.std.specs.BTreeMap.{get}
use Rattle.cedar_gate_wanted.specs.Kept.{IsFollowed}
use Rattle.cedar_gate_wanted.specs.Rows.{found_at, mentions_in, uids, row_of}
use Rattle.cedar_gate_wanted.proofs.settle.step.Goals as goal

pub returns-in_ok-insert-clause-row : goal.returns-in_ok-insert-clause-row
returns-in_ok-insert-clause-row c =
    let e : row_of (get nat_cmp c.insert.new.self) (c.args.distance + 1) ≡ uids c.follow.new.next.items = grind (arith, common_steps, c.in_ok-insert.ensures.updates) in
    λ x k. subst (λ zs. Contains zs x) (sym e) (c.follow.ensures.next x (subst (λ zs. Contains zs x) (sym c.take_row-next.ensures.row) k))

pub returns-else-not-is_empty-clause-row : goal.returns-else-not-is_empty-clause-row
returns-else-not-is_empty-clause-row c =
    let e : row_of (get nat_cmp c.take_row-next.new.pending) (c.args.distance + 1) ≡ uids c.follow.new.next.items =
    let none : row_of (get nat_cmp c.take_row-next.new.pending) (c.args.distance + 1) ≡ [] = ap (λ o. option_map_or (λ r. uids r.items) o []) c.take_row-next.ensures.here in
    let bare : c.follow.new.next.items ≡ [] = grind (arith, common_steps) in
    none ∙ sym (ap uids bare) in
    λ x k. subst (λ zs. Contains zs x) (sym e) (c.follow.ensures.next x (subst (λ zs. Contains zs x) (sym c.take_row-next.ensures.row) k))

pub returns-in_err-follow-clause-undo : goal.returns-in_err-follow-clause-undo
returns-in_err-follow-clause-undo c = c.follow.ensures.undo

pub returns-in_err-insert-clause-undo : goal.returns-in_err-insert-clause-undo
returns-in_err-insert-clause-undo c = c.follow.ensures.undo

pub returns-in_ok-insert-clause-undo : goal.returns-in_ok-insert-clause-undo
returns-in_ok-insert-clause-undo c = c.follow.ensures.undo

pub returns-else-not-is_empty-clause-undo : goal.returns-else-not-is_empty-clause-undo
returns-else-not-is_empty-clause-undo c = c.follow.ensures.undo

pub returns-in_ok-insert-clause-followed : goal.returns-in_ok-insert-clause-followed
returns-in_ok-insert-clause-followed c =
    let e : row_of (get nat_cmp c.insert.new.self) (c.args.distance + 1) ≡ uids c.follow.new.next.items = grind (arith, common_steps, c.in_ok-insert.ensures.updates) in
    let mentions = mentions_in c.args.loaded.now in
    subst (IsFollowed mentions (found_at c.args.near.now) (found_at c.follow.new.near) c.args.distance (uids c.args.keys.now)) (sym e) c.in_ok-follow.ensures.followed

pub returns-else-not-is_empty-clause-followed : goal.returns-else-not-is_empty-clause-followed
returns-else-not-is_empty-clause-followed c =
    let none : row_of (get nat_cmp c.take_row-next.new.pending) (c.args.distance + 1) ≡ [] = ap (λ o. option_map_or (λ r. uids r.items) o []) c.take_row-next.ensures.here in
    let bare : c.follow.new.next.items ≡ [] = grind (arith, common_steps) in
    let mentions = mentions_in c.args.loaded.now in
    subst (IsFollowed mentions (found_at c.args.near.now) (found_at c.follow.new.near) c.args.distance (uids c.args.keys.now)) (sym (none ∙ sym (ap uids bare))) c.in_ok-follow.ensures.followed
