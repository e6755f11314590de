use Rattle.std.proofs.Common.{ap, not, ◌∙◌}
use Rattle.std.specs.Prelude.{nat_eq}
use Rattle.cedar_store_entities.specs.Views.{entity_seen}
use Rattle.cedar_gate_conforming.proofs.Whole.{some_attributes}
use Rattle.cedar_gate_conforming.proofs.entities.has_attributes.Goals as goal

pub returns : goal.returns
returns c = ap (λ n. not (nat_eq n 0)) c.attrs_len.ensures ∙ some_attributes (entity_seen c.args.entity.now).attributes
