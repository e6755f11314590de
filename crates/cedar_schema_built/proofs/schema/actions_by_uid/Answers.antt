use Rattle.std.proofs.Common.{◌∙◌}
use Rattle.cedar_schema_built.proofs.Named.{action_more, action_named}
use Rattle.cedar_schema_built.proofs.schema.actions_by_uid.Goals as goal

pub loop-action-preserved : goal.loop-action-preserved
loop-action-preserved c =
    let own = c.in_ok-uid.ensures.cases.0 ∙ c.name.ensures in
    record {
      kept = action_more c.loop-action.by_uid.entries c.insert.new.self.entries c.in_ok-uid.uid c.in-Some.action c.loop-action.yielded own c.loop-action.invariant.named c.loop-action.invariant.kept c.in_ok-insert.ensures.entries;
      named = action_named c.loop-action.by_uid.entries c.insert.new.self.entries c.in_ok-uid.uid c.in-Some.action own c.loop-action.invariant.named c.in_ok-insert.ensures.entries;
    }

pub loop-action-preserved-in_ok-insert : goal.loop-action-preserved-in_ok-insert
loop-action-preserved-in_ok-insert c =
    let own = c.in_ok-uid.ensures.cases.0 ∙ c.name.ensures in
    record {
      kept = action_more c.loop-action.by_uid.entries c.insert.new.self.entries c.in_ok-uid.uid c.in-Some.action c.loop-action.yielded own c.loop-action.invariant.named c.loop-action.invariant.kept c.in_ok-insert.ensures.entries;
      named = action_named c.loop-action.by_uid.entries c.insert.new.self.entries c.in_ok-uid.uid c.in-Some.action own c.loop-action.invariant.named c.in_ok-insert.ensures.entries;
    }
