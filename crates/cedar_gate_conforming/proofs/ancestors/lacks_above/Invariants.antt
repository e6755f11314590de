use Rattle.std.proofs.Common.{◌≡◌, map}
use Rattle.std.specs.List.{list_any}
use Rattle.cedar_gate_model.specs.Asked.{is_lacking}
use Rattle.cedar_schema_built.specs.Views.{schema_kept}
use Rattle.cedar_schema_entries.specs.Views.{action_seen}
use Rattle.cedar_store_entities.specs.Views.{entity_uid, entity_of}
use Rattle.cedar_gate_conforming.proofs.ancestors.lacks_above.Given as goal

abbrev pub invariant-loop-action : goal.invariant-loop-action
invariant-loop-action l =
    list_any (is_lacking (entity_uid l.entity) (entity_of l.entity).ancestors) (map action_seen l.action-iterator)
    ≡ list_any (is_lacking (entity_uid l.entity) (entity_of l.entity).ancestors) (schema_kept l.schema).actions
