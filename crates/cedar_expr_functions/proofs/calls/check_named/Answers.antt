use Rattle.std.proofs.Common.{length, sym, ap, ◌∙◌}
use Rattle.cedar_expr_names.specs.Views.{plain_name_of}
use Rattle.cedar_expr_values.specs.Types.{core_of}
use Rattle.cedar_expr_functions.specs.Tables.{functions_of}
use Rattle.cedar_expr_functions.proofs.Wrong.{any_answers, not_wrong, wrong_name, wrong_number, same_length}
use Rattle.cedar_expr_functions.proofs.calls.check_named.Goals as goal

pub returns-in-Err-FuncDoesNotExist-clause-refused : goal.returns-in-Err-FuncDoesNotExist-clause-refused
returns-in-Err-FuncDoesNotExist-clause-refused g c =
    let refused = c.in-Err-FuncDoesNotExist.ensures.refused any_answers in
    let here = rw c.in-Err-FuncDoesNotExist.field-0-is at refused in
    wrong_name (functions_of c.args.table.now) (plain_name_of c.args.name.now) (plain_name_of c.in-Err-FuncDoesNotExist.e.name) c.args.count here.0 here.1

pub returns-then-takes_count-clause-none : goal.returns-then-takes_count-clause-none
returns-then-takes_count-clause-none g c =
    not_wrong (functions_of c.args.table.now) (plain_name_of c.args.name.now) c.args.count _ c.takes_count.result (c.in-Ok.ensures.found any_answers) c.takes_count.ensures c.if-takes_count.true

pub returns-clause-refused : goal.returns-clause-refused
returns-clause-refused g c =
    wrong_number (functions_of c.args.table.now) (plain_name_of c.args.name.now) (plain_name_of c.in_ok-clone.field-0) c.args.count (length c.arg_types.result.now) _ c.takes_count.result (c.in-Ok.ensures.found any_answers) c.takes_count.ensures c.if-takes_count.false c.in_ok-clone.ensures.cases.0
    (sym (same_length core_of c.arg_types.result.now) ∙ ap length c.arg_types.ensures.types)
