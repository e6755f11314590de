use Rattle.std.proofs.Common.{ap, ◌∙◌}
use Rattle.cedar_schema_types.specs.AttributeLists.{attributes_from, declared_pairs}
use Rattle.cedar_schema_types.proofs.Entries.{attributes_made}
use Rattle.cedar_schema_types.proofs.InOrder.{pairs_in_order}
use Rattle.cedar_schema_types.proofs.types.Attributes.with_attributes.Goals as goal

pub returns : goal.returns
returns c =
    attributes_made c.in_ok-attrs-2.attrs
    ∙ ap (λ m. attributes_from (declared_pairs m.entries)) c.in_ok-attrs-2.ensures.ok
    ∙ ap attributes_from (pairs_in_order c.in_ok-attrs.attrs.entries c.args.attrs.items c.in_ok-attrs.ensures)
