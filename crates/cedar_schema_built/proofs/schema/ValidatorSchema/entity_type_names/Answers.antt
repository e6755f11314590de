use Rattle.std.proofs.Common.{map, ap, ◌∙◌}
use Rattle.cedar_expr_names.specs.Views.{type_name_of}
use Rattle.cedar_schema_model.specs.Kept.{KeptType}
use Rattle.cedar_schema_entries.specs.Views.{entity_type_seen}
use Rattle.cedar_schema_built.proofs.Putting.{of_keys, of_names}
use Rattle.cedar_schema_built.proofs.schema.ValidatorSchema.entity_type_names.Goals as goal

pub returns : goal.returns
returns c =
    ap (map type_name_of) c.keys.ensures.rest
    ∙ of_keys type_name_of c.args.self.now.entity_types.entries
    ∙ c.args.self.now.types_named
    ∙ of_names entity_type_seen (λ (t : KeptType). t.name) c.args.self.now.entity_types.entries
