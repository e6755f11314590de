use Rattle.cedar_store_parts.specs.Parts.{annotation_text, annotation_seen}
use Rattle.cedar_store_parts.proofs.Annotated.{seen_found}
use Rattle.cedar_store_parts.proofs.annotation.Annotations.get.Goals as goal

pub returns-clause-text : goal.returns-clause-text
returns-clause-text c = seen_found annotation_text c.args.name.now c.args.self.now.0.entries c.get.result c.get.ensures.value

pub returns-clause-seen : goal.returns-clause-seen
returns-clause-seen c = seen_found annotation_seen c.args.name.now c.args.self.now.0.entries c.get.result c.get.ensures.value
