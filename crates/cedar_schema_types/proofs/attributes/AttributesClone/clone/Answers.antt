use Rattle.std.proofs.Common.{sym, ap, ◌∙◌}
use Rattle.cedar_schema_types.specs.AttributeLists.{attributes_from, declared_pairs}
use Rattle.cedar_schema_types.proofs.Entries.{attributes_are, attributes_made}
use Rattle.cedar_schema_types.proofs.attributes.AttributesClone.clone.Goals as goal

pub returns : goal.returns
returns c = record {
  cases = attributes_made c.in_ok-clone.field-0
      ∙ ap (λ m. attributes_from (declared_pairs m.entries)) c.in_ok-clone.ensures.cases
      ∙ sym (attributes_are c.args.self.now);
}
