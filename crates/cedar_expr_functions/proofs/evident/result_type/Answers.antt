use Rattle.std.proofs.Common.{Some, ap, ◌∙◌}
use Rattle.cedar_expr_names.specs.Views.{plain_name_of}
use Rattle.cedar_expr_functions.specs.Tables.{functions_of}
use Rattle.cedar_expr_functions.proofs.Wrong.{any_answers}
use Rattle.cedar_expr_functions.proofs.Shown.{result_is, no_result}
use Rattle.cedar_expr_functions.proofs.evident.result_type.Goals as goal

pub returns-in-Err-FuncDoesNotExist : goal.returns-in-Err-FuncDoesNotExist
returns-in-Err-FuncDoesNotExist g c =
    let refused = c.in-Err-FuncDoesNotExist.ensures.refused any_answers in
    let here = rw c.in-Err-FuncDoesNotExist.field-0-is at refused in
    no_result (functions_of c.args.table.now) (plain_name_of c.args.name.now) here.0

pub returns-in_ok-clone-in-Some : goal.returns-in_ok-clone-in-Some
returns-in_ok-clone-in-Some g c = result_is (functions_of c.args.table.now) (plain_name_of c.args.name.now) _ _ (c.in-Ok.ensures.found any_answers) (ap Some c.in_ok-clone-in-Some.ensures.cases ∙ c.in-Some.ensures)

pub returns-in-None : goal.returns-in-None
returns-in-None g c = result_is (functions_of c.args.table.now) (plain_name_of c.args.name.now) _ _ (c.in-Ok.ensures.found any_answers) c.in-None.ensures
