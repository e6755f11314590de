use Rattle.cedar_expr_names.specs.Views.{name_of}
use Rattle.cedar_schema_decl.specs.Trees.{record_fields}
use Rattle.cedar_schema_types.specs.Types.{attributes_of}
use Rattle.cedar_schema_resolver.specs.Meanings.{setting_of}
use Rattle.cedar_schema_resolver.proofs.Outcome.{fields_told_are, fields_known, fields_tell}
use Rattle.cedar_schema_resolver.proofs.resolver.TypeResolver.try_into_validator_attributes.Goals as goal

pub returns-in-Ok-clause-told : goal.returns-in-Ok-clause-told
returns-in-Ok-clause-told c = fields_told_are (setting_of c.args.self.now) (record_fields name_of c.args.fields.now) (attributes_of c.in-Ok.attrs) c.in-Ok.ensures.made

pub returns-in-Ok-clause-known : goal.returns-in-Ok-clause-known
returns-in-Ok-clause-known c = fields_known (setting_of c.args.self.now) (record_fields name_of c.args.fields.now) (attributes_of c.in-Ok.attrs) c.in-Ok.ensures.made

pub returns-in-Err-clause-refused : goal.returns-in-Err-clause-refused
returns-in-Err-clause-refused c = fields_tell (setting_of c.args.self.now) (record_fields name_of c.args.fields.now) c.in-Err.error c.in-Err.ensures.refused
