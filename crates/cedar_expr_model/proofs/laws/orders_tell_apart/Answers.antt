use Rattle.cedar_expr_model.proofs.Linear.{linear_of, text_total, text_exact, name_total, name_exact, uid_total, uid_exact}
use Rattle.cedar_expr_model.proofs.ValueOrder.{literal_linear, value_linear, values_decide}
use Rattle.cedar_expr_model.specs.Order.{text_cmp, name_order, uid_order}
use Rattle.cedar_expr_model.proofs.laws.orders_tell_apart.Goals as goal

pub returns-clause-texts : goal.returns-clause-texts
returns-clause-texts c = linear_of text_cmp text_total text_exact

pub returns-clause-names : goal.returns-clause-names
returns-clause-names c = linear_of name_order name_total name_exact

pub returns-clause-uids : goal.returns-clause-uids
returns-clause-uids c = linear_of uid_order uid_total uid_exact

pub returns-clause-literals : goal.returns-clause-literals
returns-clause-literals c = literal_linear

pub returns-clause-values : goal.returns-clause-values
returns-clause-values c = value_linear

pub returns-clause-equality : goal.returns-clause-equality
returns-clause-equality c = values_decide
