-- What the law of wrong calls says.
-- Rule: extension functions (docs/RULES.md).
use Rattle.std.specs.Prelude.{◌≡◌, is_none}
use Rattle.cedar_expr_model.specs.Evident.{has_valid_calls}
use Rattle.cedar_expr_model.specs.Table.{Table}
use Rattle.cedar_expr_model.specs.Tree.{Tree}
use Rattle.cedar_expr_functions.specs.Calls.{first_wrong_call}

-- there is no wrong call exactly where all calls are right
abbrev pub NoFaultDecides : Type 0
NoFaultDecides = (x : Table) (t : Tree) → is_none (first_wrong_call x.functions t) ≡ has_valid_calls x t
