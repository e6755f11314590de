use Rattle.std.proofs.Common.{◌∙◌}
use Rattle.cedar_schema_entries.specs.Views.{entity_type_seen}
use Rattle.cedar_schema_model.specs.Conforming.{of_kind, attributes_at, is_no_member}
use Rattle.cedar_gate_conforming.proofs.members.is_no_member.Goals as goal

pub returns : goal.returns
returns c = c.lacks_id.ensures (attributes_at (of_kind (entity_type_seen c.args.ty.now).kind)) ∙ (λ i. is_no_member (of_kind (c.kind.ensures i)) (c.eid.ensures i))
