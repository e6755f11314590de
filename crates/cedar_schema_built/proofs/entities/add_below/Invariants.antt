use Rattle.std.proofs.Common.{◌≡◌, map}
use Rattle.std.specs.BTreeMap.{get}
use Rattle.cedar_expr_model.specs.Uid.{uid_eq}
use Rattle.cedar_expr_names.specs.Views.{uid_of}
use Rattle.cedar_expr_names.specs.declared.entity.EntityUID.{EntityUID}
use Rattle.cedar_schema_entries.specs.Views.{action_seen}
use Rattle.cedar_schema_built.specs.Ancestors.{uids_by}
use Rattle.cedar_schema_built.proofs.Below.{all_above, seen_above}
use Rattle.cedar_schema_built.proofs.entities.add_below.Given as goal

abbrev pub invariant-loop-descendant : goal.invariant-loop-descendant
invariant-loop-descendant l = record {
  each : (q : EntityUID) → all_above uid_eq (uid_of q) (action_seen l.action).uid (map uid_of l.descendant-iterator) (seen_above uid_of uid_eq (get uids_by l.above) q) ≡ all_above uid_eq (uid_of q) (action_seen l.action).uid (action_seen l.action).descendants (seen_above uid_of uid_eq (get uids_by l.initial.above) q);
}
