use Rattle.std.proofs.Common.{map, ap, ◌∙◌}
use Rattle.cedar_store_parts.specs.Parts.{annotation_text, annotation_pair, annotation_seen, seen_pair}
use Rattle.cedar_store_parts.proofs.Annotated.{pairs_put}
use Rattle.cedar_store_parts.proofs.annotation.Annotations.insert.Goals as goal

pub returns-clause-put : goal.returns-clause-put
returns-clause-put c = ap (map annotation_pair) c.in_ok-insert.ensures.entries ∙ pairs_put annotation_text c.args.self.now.0.entries c.args.name c.args.annotation

pub returns-clause-seen : goal.returns-clause-seen
returns-clause-seen c = ap (map seen_pair) c.in_ok-insert.ensures.entries ∙ pairs_put annotation_seen c.args.self.now.0.entries c.args.name c.args.annotation
