use Rattle.std.proofs.Common.{rules, ◌≡◌, [], ◌∷◌, ◌++◌}
use Rattle.cedar_gate_wanted.specs.Rows.{found_at}
use Rattle.cedar_gate_wanted.proofs.Undoing.{undo_unlogged}
use Rattle.cedar_gate_wanted.proofs.near.undo.Goals as goal

pub writes-preserved : goal.writes-preserved
writes-preserved c =
    let e : c.writes.log.items ≡ c.pop.new.self.items ++ (c.in-Some.uid, c.in-Some.was) ∷ [] = search rules in
    λ f i. undo_unlogged c.pop.new.self.items c.writes.log.items c.in-Some.uid c.in-Some.was f (found_at c.writes.near) (found_at c.put_back.new.near) e (c.writes.invariant f i) c.put_back.ensures.here c.put_back.ensures.apart
