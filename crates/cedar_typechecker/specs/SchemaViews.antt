-- A built schema with a table of extension functions, as the model's.
-- Rule: schemas; extension functions (docs/RULES.md).
use Rattle.std.specs.Prelude.{List}
use Rattle.cedar_expr_model.specs.Name.{Name}
use Rattle.cedar_expr_model.specs.Table.{Called, fails, Table}
use Rattle.cedar_expr_model.specs.Value.{V}
use Rattle.cedar_expr_functions.specs.Tables.{table_of}
use Rattle.cedar_schema_model.specs.Schema.{Schema}
use Rattle.cedar_schema_built.specs.Views.{schema_kept}
use Rattle.cedar_typechecker.specs.declared.schema_and_functions.SchemaAndFunctions.{SchemaAndFunctions}
use Rattle.cedar_typechecker_model.specs.Seen.{schema_seen}

-- no call is made
abbrev pub silent : Name → List V → Called
silent f vs = fails f

abbrev pub schema_of : {B : _} {F : _} {g : _} → SchemaAndFunctions B F g → Schema
schema_of s = schema_seen (schema_kept s.schema.now)

-- the table of these functions; what they answer isn't asked
abbrev pub table_seen : {B : _} {F : _} {g : _} → SchemaAndFunctions B F g → Table
table_seen s = table_of s.functions.now silent
