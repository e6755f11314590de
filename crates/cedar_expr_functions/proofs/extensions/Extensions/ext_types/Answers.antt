use Rattle.std.proofs.Common.{◌∙◌}
use Rattle.std.specs.Slice.Iter.{iter_rest}
use Rattle.cedar_expr_functions.proofs.Found.{types_given}
use Rattle.cedar_expr_functions.proofs.extensions.Extensions.ext_types.Goals as goal

pub returns : goal.returns
returns g c = types_given (iter_rest c.iter.result) c.args.self.now.functions.items (c.iter.ensures.rest ∙ c.deref.ensures.value)
