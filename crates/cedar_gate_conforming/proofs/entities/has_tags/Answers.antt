use Rattle.std.proofs.Common.{ap, not, ◌∙◌}
use Rattle.std.specs.Prelude.{nat_eq}
use Rattle.cedar_store_entities.specs.Views.{entity_seen}
use Rattle.cedar_gate_conforming.proofs.Whole.{some_tags}
use Rattle.cedar_gate_conforming.proofs.entities.has_tags.Goals as goal

pub returns : goal.returns
returns c = ap (λ n. not (nat_eq n 0)) c.tags_len.ensures ∙ some_tags (entity_seen c.args.entity.now).tags
