use Rattle.std.proofs.Common.{ap, ◌∙◌}
use Rattle.cedar_schema_entries.specs.Views.{entity_type_seen}
use Rattle.cedar_schema_model.specs.Conforming.{of_kind, attributes_at}
use Rattle.cedar_gate_conforming.specs.Views.{is_enumerated}
use Rattle.cedar_gate_conforming.proofs.members.is_of_enumerated.Goals as goal

pub returns : goal.returns
returns c = c.is_enumerated.ensures (attributes_at (of_kind (entity_type_seen c.args.ty.now).kind)) ∙ ap is_enumerated c.kind.ensures
