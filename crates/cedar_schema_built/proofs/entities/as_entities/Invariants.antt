use Rattle.std.proofs.Common.{◌≡◌, ◌++◌, map, true}
use Rattle.std.specs.Prelude.{Contains}
use Rattle.std.specs.BTreeMap.{get}
use Rattle.std.specs.List.{list_all}
use Rattle.cedar_expr_names.specs.Views.{uid_of}
use Rattle.cedar_expr_names.specs.declared.entity.EntityUID.{EntityUID}
use Rattle.cedar_schema_model.specs.BagLaws.{HasTwice}
use Rattle.cedar_store_entities.specs.Views.{entity_pair, kin_seen}
use Rattle.cedar_schema_model.specs.Kept.{kept_as_entity, kept_action_entities, kept_action_ancestors}
use Rattle.cedar_schema_built.specs.Above.{row_of}
use Rattle.cedar_schema_built.specs.Ancestors.{uids_by}
use Rattle.cedar_schema_built.specs.Entities.{are_indirect}
use Rattle.cedar_schema_built.specs.Views.{schema_kept}
use Rattle.cedar_schema_built.proofs.entities.as_entities.Given as goal

abbrev pub invariant-loop-uid : goal.invariant-loop-uid
invariant-loop-uid l = record {
  indirect : list_all (λ e. are_indirect (kin_seen e)) l.entities.items ≡ true;
  made : (map entity_pair l.entities.items ++ map (λ u. (u, kept_as_entity (schema_kept l.schema) u)) (map uid_of l.uid-iterator)) ≡ kept_action_entities (schema_kept l.schema);
  left : (q : EntityUID) → Contains (map uid_of l.uid-iterator) (uid_of q) → map uid_of (row_of (get uids_by l.above) q) ≡ kept_action_ancestors (schema_kept l.schema) (uid_of q);
  once : HasTwice (map uid_of l.uid-iterator) → ⊥;
}
