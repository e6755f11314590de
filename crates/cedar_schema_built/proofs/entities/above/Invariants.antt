use Rattle.std.proofs.Common.{◌≡◌, ◌++◌, map}
use Rattle.std.specs.BTreeMap.{get}
use Rattle.cedar_expr_model.specs.Uid.{uid_eq}
use Rattle.cedar_expr_names.specs.Views.{uid_of}
use Rattle.cedar_expr_names.specs.declared.entity.EntityUID.{EntityUID}
use Rattle.cedar_schema_model.specs.Kept.{KeptAction}
use Rattle.cedar_schema_entries.specs.Views.{action_seen}
use Rattle.cedar_schema_built.specs.Above.{above_among}
use Rattle.cedar_schema_built.specs.Ancestors.{uids_by}
use Rattle.cedar_schema_built.specs.Views.{schema_kept}
use Rattle.cedar_schema_built.proofs.Below.{seen_above}
use Rattle.cedar_schema_built.proofs.entities.above.Given as goal

abbrev pub invariant-loop-action : goal.invariant-loop-action
invariant-loop-action l = record {
  each : (q : EntityUID) → (seen_above uid_of uid_eq (get uids_by l.above) q ++ above_among uid_eq (λ (a : KeptAction). a.uid) (λ a. a.descendants) (uid_of q) (map action_seen l.action-iterator)) ≡ above_among uid_eq (λ (a : KeptAction). a.uid) (λ a. a.descendants) (uid_of q) (schema_kept l.schema).actions;
}
