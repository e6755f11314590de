use Rattle.std.proofs.Common.{◌∙◌}
use Rattle.std.specs.BTreeMap.{get}
use Rattle.cedar_expr_model.specs.Uid.{uid_eq}
use Rattle.cedar_expr_model.proofs.Equality.{uid_eq-Decides}
use Rattle.cedar_expr_names.specs.Views.{uid_of}
use Rattle.cedar_schema_model.specs.Kept.{KeptAction}
use Rattle.cedar_schema_entries.specs.Views.{action_seen}
use Rattle.cedar_schema_entries.proofs.Among.{same_uid}
use Rattle.cedar_schema_built.specs.Ancestors.{uids_by}
use Rattle.cedar_schema_built.proofs.Below.{one_below, all_below}
use Rattle.cedar_schema_built.proofs.Gathered.{action_once}
use Rattle.cedar_schema_built.proofs.entities.add_below.Goals as goal

pub loop-descendant-preserved : goal.loop-descendant-preserved
loop-descendant-preserved c = record {
  each = λ q. one_below uid_of uid_eq uids_by same_uid (get uids_by c.loop-descendant.above) (get uids_by c.add_above.new.above) c.in_ok-key.key c.in_ok-ancestor.ancestor c.in_ok-add_above.ensures
      (action_seen c.args.action.now).uid c.loop-descendant.descendant-iterator c.next.new.self c.in-Some.descendant.now c.in-Some.ensures.steps (c.in_ok-ancestor.ensures.cases.0 ∙ c.name.ensures) c.in_ok-key.ensures.cases.0
      q _ (c.loop-descendant.invariant.each q);
}

pub returns : goal.returns
returns c =
    let a = action_seen c.args.action.now in
    all_below uid_of uid_eq (λ (a : KeptAction). a.uid) (λ a. a.descendants) uid_eq-Decides a (action_once a c.actions_are_in_order.ensures)
    (get uids_by c.args.above.now) (get uids_by c.loop-descendant.above) c.loop-descendant.descendant-iterator c.in-None.ensures.steps.0 c.loop-descendant.invariant.each
