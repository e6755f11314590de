use Rattle.std.proofs.lemmas.List.Filters.{dedup_is}
use Rattle.cedar_gate_wanted.proofs.Rising.{rising, members}
use Rattle.cedar_gate_wanted.proofs.next.in_order.Goals as goal

pub returns-clause-rising : goal.returns-clause-rising
returns-clause-rising c = rising c.sort.new.self.items c.dedup.new.self.items c.in_ok-sort.ensures.sorted (dedup_is _ _ _ c.dedup.ensures.filtered)

pub returns-clause-members : goal.returns-clause-members
returns-clause-members c = members c.args.list.items c.sort.new.self.items c.dedup.new.self.items c.sort.ensures.permutation (dedup_is _ _ _ c.dedup.ensures.filtered)
