use Rattle.cedar_expr_functions.specs.Tables.{table_of}
use Rattle.cedar_expr_names.specs.Views.{plain_name_of, plain_name_loc}
use Rattle.cedar_expr_values.specs.Types.{core_of}
use Rattle.cedar_schema_joins.proofs.Giving.{any_answers, refused, given, not_given}
use Rattle.cedar_schema_joins.proofs.functions.gives.Goals as goal

pub returns-in-Some : goal.returns-in-Some
returns-in-Some g c =
    given (table_of c.args.table.now any_answers) (plain_name_of c.args.function.now) (plain_name_of c.args.name.now) _ (core_of c.in-Some.ty.now) c.is_extension.result (c.in-Ok.ensures.found any_answers) c.in-Some.ensures c.is_extension.ensures

pub returns-in-None : goal.returns-in-None
returns-in-None g c =
    not_given (table_of c.args.table.now any_answers) (plain_name_of c.args.function.now) (plain_name_of c.args.name.now) _ (c.in-Ok.ensures.found any_answers) c.in-None.ensures

pub returns-in-Err : goal.returns-in-Err
returns-in-Err g c =
    refused (table_of c.args.table.now any_answers) (plain_name_of c.args.function.now) (plain_name_of c.args.name.now) (plain_name_loc c.args.function.now) c.in-Err.e (c.in-Err.ensures.refused any_answers)
