use Rattle.cedar_expr_names.specs.Views.{name_of}
use Rattle.cedar_schema_decl.specs.Trees.{type_form}
use Rattle.cedar_schema_types.specs.Types.{type_of}
use Rattle.cedar_schema_resolver.specs.Meanings.{setting_of}
use Rattle.cedar_schema_resolver.proofs.Outcome.{type_told_is, type_known, type_tells}
use Rattle.cedar_schema_resolver.proofs.resolver.TypeResolver.try_into_validator_type.Goals as goal

pub returns-in-Ok-clause-told : goal.returns-in-Ok-clause-told
returns-in-Ok-clause-told c = type_told_is (setting_of c.args.self.now) (type_form name_of c.args.ty.now) (type_of c.in-Ok.ty) c.in-Ok.ensures.made

pub returns-in-Ok-clause-known : goal.returns-in-Ok-clause-known
returns-in-Ok-clause-known c = type_known (setting_of c.args.self.now) (type_form name_of c.args.ty.now) (type_of c.in-Ok.ty) c.in-Ok.ensures.made

pub returns-in-Err-clause-refused : goal.returns-in-Err-clause-refused
returns-in-Err-clause-refused c = type_tells (setting_of c.args.self.now) (type_form name_of c.args.ty.now) c.in-Err.error c.in-Err.ensures.refused
