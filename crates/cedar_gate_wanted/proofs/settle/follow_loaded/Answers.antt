use Rattle.std.proofs.Common.{inl, inr}
use Rattle.std.specs.Ordering.{nat_cmp}
use Rattle.std.specs.BTreeMap.{get}
use Rattle.cedar_gate_wanted.specs.Rows.{found_at, row_of, mentions_in, IsPending}
use Rattle.cedar_gate_wanted.proofs.Settling.{settling_loaded}
use Rattle.cedar_gate_wanted.proofs.settle.follow_loaded.Goals as goal

pub returns-clause-kept : goal.returns-clause-kept
returns-clause-kept c = λ r m l k. c.in_ok-settle.ensures.settled r
    (settling_loaded r m (mentions_in c.args.loaded.now) c.args.level (found_at c.args.near.now) (IsPending (row_of (get nat_cmp c.in_ok-pending.pending)) (found_at c.args.near.now)) k l.more
    (λ v d at. elim (l.same v) [ inl new ↦ inl (d, at, c.in_ok-pending.ensures v d new at) | inr same ↦ inr same ]))
