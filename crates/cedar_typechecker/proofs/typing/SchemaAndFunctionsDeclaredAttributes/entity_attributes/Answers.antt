use Rattle.std.proofs.Common.{Some, ap, ◌∙◌}
use Rattle.cedar_expr_names.specs.Views.{type_name_of}
use Rattle.cedar_schema_entries.specs.Views.{entity_type_seen}
use Rattle.cedar_schema_built.specs.Views.{schema_kept}
use Rattle.cedar_typechecker_model.proofs.Seen.Told.{attributes_found, attributes_none}
use Rattle.cedar_typechecker.proofs.typing.SchemaAndFunctionsDeclaredAttributes.entity_attributes.Goals as goal

pub returns-in-Some : goal.returns-in-Some
returns-in-Some g c = ap Some c.attributes.ensures ∙ attributes_found (schema_kept c.args.self.now.schema.now) (type_name_of c.args.ty.now) (entity_type_seen c.in-Some.entity_type.now) c.in-Some.ensures

pub returns-in-None : goal.returns-in-None
returns-in-None g c = attributes_none (schema_kept c.args.self.now.schema.now) (type_name_of c.args.ty.now) c.in-None.ensures
