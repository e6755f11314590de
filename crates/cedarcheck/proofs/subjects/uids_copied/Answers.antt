use Rattle.std.proofs.Common.{rules, arith}
use Rattle.cedar_typechecker_answers.proofs.Copied.{one_more, all_made, drop_here, none_left}
use Rattle.cedarcheck.proofs.subjects.uids_copied.Goals as goal

pub loop-uid-preserved : goal.loop-uid-preserved
loop-uid-preserved c =
    let here = drop_here c.args.uids.now c.loop-uid.uid-index c.uid-item.result _ c.loop-uid-test.true c.uid-item.is in
    one_more _ _ _ c.loop-uid.copied.items c.push.new.self.items _ _ c.in_ok-clone.field-0 c.uid-item.result c.loop-uid.invariant here c.in_ok-push.ensures.items (search rules)

pub returns : goal.returns
returns c = all_made _ _ _ c.loop-uid.copied.items _ c.loop-uid.invariant (none_left c.args.uids.now c.loop-uid.uid-index (omega (arith, c.loop-uid-test.false)))
