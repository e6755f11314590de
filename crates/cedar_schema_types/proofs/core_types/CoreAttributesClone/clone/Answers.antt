use Rattle.std.proofs.Common.{ap, sym, ◌∙◌}
use Rattle.cedar_schema_types.specs.CoreTypes.{core_attributes_from}
use Rattle.cedar_schema_types.specs.Views.{core_pairs}
use Rattle.cedar_schema_types.proofs.CoreEntries.{attributes_made, attributes_are}
use Rattle.cedar_schema_types.proofs.core_types.CoreAttributesClone.clone.Goals as goal

pub returns : goal.returns
returns c = record {
  cases = attributes_made c.in_ok-clone.field-0 ∙ ap (λ m. core_attributes_from (core_pairs m.entries)) c.in_ok-clone.ensures.cases ∙ sym (attributes_are c.args.self.now);
}
