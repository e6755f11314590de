use Rattle.cedar_expr_functions.proofs.Distinct.{types_again, refused_key}
use Rattle.std.specs.Map.{keys_of}
use Rattle.cedar_expr_values.specs.contracts.types.TypeOrd.TheImpl as type_order
use Rattle.std.proofs.Common.{Some, None}
use Rattle.cedar_expr_functions.proofs.gathered.refuse_two_constructors.Goals as goal

pub returns-in-Ok-clause-distinct : goal.returns-in-Ok-clause-distinct
returns-in-Ok-clause-distinct g c = types_again c.in_ok-types.types.items _ None c.in_ok-types.ensures c.in-Ok.ensures.distinct

pub returns-clause-refused : goal.returns-clause-refused
returns-clause-refused g c = types_again c.in_ok-types.types.items _ (Some c.in-Err-Repeated.return_type) c.in_ok-types.ensures (refused_key (type_order.ghosts).cmp (keys_of c.in_ok-types.types.items) c.in-Err-Repeated.field-0 c.in-Err-Repeated.return_type c.in-Err-Repeated.field-0-is c.in-Err-Repeated.ensures.refused)
