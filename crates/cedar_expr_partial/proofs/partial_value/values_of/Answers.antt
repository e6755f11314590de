use Rattle.cedar_expr_partial.proofs.Parted.{found_more, found_none}
use Rattle.cedar_expr_partial.proofs.partial_value.values_of.Goals as goal

pub loop-item-preserved-in-Continue-branch-2 : goal.loop-item-preserved-in-Continue-branch-2
loop-item-preserved-in-Continue-branch-2 g c =
    found_more g.X.ExtensionValue.seen c.loop-item.yielded c.in-Some.item c.loop-item.values.items c.push.new.self.items c.in-Some-into_value.v c.loop-item.invariant c.in-Some-into_value.ensures c.in_ok-push.ensures.items

pub loop-item-preserved : goal.loop-item-preserved
loop-item-preserved g c = found_none g.X.ExtensionValue.seen c.loop-item.yielded c.in-Some.item c.loop-item.values.items c.into_value.result c.loop-item.invariant c.into_value.ensures c.in_default.is
