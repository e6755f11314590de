use Rattle.std.specs.BTreeMap.{get}
use Rattle.cedar_expr_model.specs.Uid.{uid_eq}
use Rattle.cedar_expr_names.specs.Views.{uid_of}
use Rattle.cedar_schema_model.specs.Kept.{KeptAction}
use Rattle.cedar_schema_entries.specs.Views.{action_seen}
use Rattle.cedar_schema_built.specs.Ancestors.{uids_by}
use Rattle.cedar_schema_built.proofs.Below.{one_above}
use Rattle.cedar_schema_built.proofs.entities.above.Goals as goal

pub loop-action-preserved : goal.loop-action-preserved
loop-action-preserved c = record {
  each = λ q. one_above uid_of uid_eq (λ (a : KeptAction). a.uid) (λ a. a.descendants) action_seen c.loop-action.action-iterator c.next.new.self c.in-Some.action.now c.in-Some.ensures.steps
      (get uids_by c.loop-action.above) (get uids_by c.add_below.new.above) c.in_ok-add_below.ensures q _ (c.loop-action.invariant.each q);
}
