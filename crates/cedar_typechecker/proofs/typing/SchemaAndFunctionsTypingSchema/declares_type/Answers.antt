use Rattle.std.proofs.Common.{◌∙◌}
use Rattle.std.specs.Borrow.{Bor}
use Rattle.cedar_expr_names.specs.Views.{type_name_of}
use Rattle.cedar_schema_entries.specs.Views.{entity_type_seen}
use Rattle.cedar_schema_built.specs.Views.{schema_kept}
use Rattle.cedar_schema_entries.specs.declared.entity_type.ValidatorEntityType.{ValidatorEntityType}
use Rattle.cedar_typechecker_model.proofs.Seen.Told.{type_there}
use Rattle.cedar_typechecker.proofs.typing.SchemaAndFunctionsTypingSchema.declares_type.Goals as goal

pub returns : goal.returns
returns g c = c.is_some.ensures ∙ type_there (schema_kept c.args.self.now.schema.now) (type_name_of c.args.ty.now) (λ (t : Bor ValidatorEntityType). entity_type_seen t.now) c.get_entity_type.result c.get_entity_type.ensures
