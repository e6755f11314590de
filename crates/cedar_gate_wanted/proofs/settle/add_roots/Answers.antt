use Rattle.std.proofs.Common.{arith, ◌≡◌, ◌++◌, [], Some, sym, ap}
use Rattle.std.proofs.lemmas.Grind.{common_steps}
use Rattle.std.specs.Option.{option_map_or}
use Rattle.std.specs.Ordering.{nat_cmp}
use Rattle.std.specs.BTreeMap.{get}
use Rattle.cedar_gate_wanted.specs.Rows.{found_at, uids, row_of, mentions_in}
use Rattle.cedar_gate_wanted.proofs.Rooting.{settling_roots}
use Rattle.cedar_gate_wanted.proofs.settle.add_roots.Goals as goal

pub returns-clause-kept : goal.returns-clause-kept
returns-clause-kept c =
    let here : get nat_cmp c.insert.new.self 0 ≡ Some c.spread.new.next = grind (arith, common_steps, c.in_ok-insert.ensures.updates) in
    λ r k. c.in_ok-settle.ensures.settled (r ++ uids c.args.roots.now)
    (settling_roots r (uids c.args.roots.now) (mentions_in c.args.loaded.now) c.args.level (found_at c.args.near.now) (found_at c.spread.new.near) (row_of (get nat_cmp c.insert.new.self)) (uids c.spread.new.next.items) (omega arith)
    (sym (ap (λ o. option_map_or (λ r. uids r.items) o []) here)) c.in_ok-spread.ensures.spread k)
