use Rattle.std.proofs.Common.{◌≡◌, map}
use Rattle.std.specs.Slice.Iter.{iter_rest}
use Rattle.cedar_expr_names.specs.Views.{uid_of}
use Rattle.cedar_gate_model.specs.Asked.{has_wrong_ancestor}
use Rattle.cedar_schema_built.specs.Views.{schema_kept}
use Rattle.cedar_schema_entries.specs.Views.{entity_type_seen}
use Rattle.cedar_schema_model.specs.Conforming.{of_kind}
use Rattle.cedar_store_entities.specs.Views.{entity_uid, entity_of}
use Rattle.cedar_gate_conforming.proofs.ancestors.has_wrong_ancestor.Given as goal

abbrev pub invariant-loop-above : goal.invariant-loop-above
invariant-loop-above l =
    has_wrong_ancestor (schema_kept l.schema) (entity_uid l.entity) (of_kind (entity_type_seen l.ty).kind) (map uid_of (iter_rest l.above-iterator))
    ≡ has_wrong_ancestor (schema_kept l.schema) (entity_uid l.entity) (of_kind (entity_type_seen l.ty).kind) (entity_of l.entity).ancestors
