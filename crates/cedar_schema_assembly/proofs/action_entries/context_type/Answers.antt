use Rattle.cedar_expr_names.specs.Views.{name_of, uid_of}
use Rattle.cedar_schema_decl.specs.Trees.{type_form}
use Rattle.cedar_schema_resolver.specs.Meanings.{setting_of}
use Rattle.cedar_schema_assembly.proofs.Telling.{context_tells}
use Rattle.cedar_schema_assembly.proofs.action_entries.context_type.Goals as goal

pub returns-in-Err-clause-refused : goal.returns-in-Err-clause-refused
returns-in-Err-clause-refused c = context_tells (setting_of c.args.resolver.now) (uid_of c.args.uid.now) (type_form name_of c.args.context.now) c.in-Err.error c.in-Err.ensures.refused
