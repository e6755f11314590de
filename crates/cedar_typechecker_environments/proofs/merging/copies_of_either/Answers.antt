use Rattle.cedar_typechecker_environments.specs.Merged.{merged}
use Rattle.cedar_typechecker_environments.proofs.Copies.{taken}
use Rattle.cedar_typechecker_environments.proofs.merging.copies_of_either.Goals as goal

pub loop-key-preserved : goal.loop-key-preserved
loop-key-preserved g c =
    taken g.K.Clone.is_clone (merged g.K.Ord.cmp c.args.left.now c.args.right.now) (merged g.K.Ord.cmp c.loop-key.both.left.now c.loop-key.both.right.now) (merged g.K.Ord.cmp c.next_of_either.new.self.left.now c.next_of_either.new.self.right.now) c.loop-key.made.items c.push.new.self.items c.in-Some.key.now c.in_ok-clone.field-0 c.loop-key.invariant c.in-Some.ensures c.in_ok-clone.ensures.cases c.in_ok-push.ensures.items
