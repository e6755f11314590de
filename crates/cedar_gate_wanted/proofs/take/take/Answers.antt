use Rattle.std.proofs.Common.{[]}
use Rattle.cedar_expr_model.proofs.Lists.{contains_none}
use Rattle.cedar_gate_wanted.specs.Supplying.{keys_in}
use Rattle.cedar_gate_wanted.specs.Rows.{found_at, uids, writes, row_of}
use Rattle.cedar_gate_wanted.proofs.Opening.{stays}
use Rattle.cedar_gate_wanted.proofs.Taking.{after_supply, loaded_besides, next_fresh}
use Rattle.cedar_gate_wanted.proofs.take.take.Goals as goal

pub returns-in-Ok-clause-exact : goal.returns-in-Ok-clause-exact
returns-in-Ok-clause-exact g c = λ exact keys.
    after_supply (g.S.DeclaredActions.schema c.args.schema.now) (uids c.args.wanted.now) c.args.more.items (found_at c.args.near.now) (found_at c.args.rows.now) exact keys (uids c.in-Ok.wanted.items) c.in_ok-log.log.items
    (found_at c.supply.new.near) (found_at c.put_rows.new.rows) c.in_ok-put_rows.ensures.filled c.in_ok-log.ensures.log c.in-Ok.ensures.members

pub returns-in-Ok-clause-stays : goal.returns-in-Ok-clause-stays
returns-in-Ok-clause-stays g c = λ u k. stays (writes c.in_ok-log.log.items) (found_at c.args.near.now) (found_at c.supply.new.near) u c.in_ok-log.ensures.log k

pub returns-in-Ok-clause-kept : goal.returns-in-Ok-clause-kept
returns-in-Ok-clause-kept g c = λ exact keys r k.
    c.in_ok-log.ensures.kept r (row_of (found_at c.args.rows.now))
    (loaded_besides (g.S.DeclaredActions.schema c.args.schema.now) (uids c.args.wanted.now) c.args.more.items (found_at c.args.near.now) (found_at c.args.rows.now) exact keys (found_at c.put_rows.new.rows) c.in_ok-put_rows.ensures.filled) k

pub returns-in-Ok-clause-fresh : goal.returns-in-Ok-clause-fresh
returns-in-Ok-clause-fresh g c = next_fresh (g.S.DeclaredActions.schema c.args.schema.now) [] (uids c.in-Ok.wanted.items) (keys_in c.in_ok-log.log.items) (found_at c.supply.new.near) (found_at c.put_rows.new.rows) c.in-Ok.ensures.members (λ u k. absurd (contains_none u k))
