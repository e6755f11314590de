use Rattle.std.proofs.Common.{◌∙◌, subst}
use Rattle.std.specs.Map.{lookup}
use Rattle.std.specs.Rc.{rc_str_bytes}
use Rattle.std.specs.Str.{bytes_eq}
use Rattle.cedar_expr_names.specs.Views.{uid_of}
use Rattle.cedar_store_entities.specs.Views.{entity_seen}
use Rattle.cedar_evaluator_reads.specs.Scopes.{scope_seen}
use Rattle.cedar_evaluator_core.specs.Lent.{part_found, Lends}
use Rattle.cedar_evaluator_core.proofs.Lent.{attribute_held}
use Rattle.cedar_evaluator_core.proofs.lending.entity_attribute.Goals as goal

pub returns-in-Ok-Data : goal.returns-in-Ok-Data
returns-in-Ok-Data g c =
    let s = scope_seen c.args.known.now in
    let e = c.in-Ok-Data.entity in
    attribute_held s (rc_str_bytes c.args.attr.now) (uid_of c.args.uid.now) c.in-Ok-Data.field-0 e c.of_part.result c.in-Ok-Data.ensures c.in-Ok-Data.field-0-is
    (subst (λ o. Lends (part_found s o) c.of_part.result) (c.get.ensures.value ∙ (λ i. lookup (bytes_eq (c.as_str.ensures.value i)) (entity_seen e.now).attributes)) (c.of_part.ensures s))
