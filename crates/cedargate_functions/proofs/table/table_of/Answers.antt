use Rattle.std.proofs.Common.{subst, ap, ◌∙◌}
use Rattle.std.specs.Prelude.{IsPermutation}
use Rattle.cedar_expr_functions.specs.Named.{all_functions, all_signatures, all_ordered}
use Rattle.cedar_expr_functions.specs.Tables.{table_of, functions_of, stored_in}
use Rattle.cedargate_functions.specs.Ranks.{rank_answers}
use Rattle.cedargate_functions.proofs.Made.{table_made, table_holds, table_typed}
use Rattle.cedargate_functions.proofs.table.table_of.Goals as goal

pub returns-in-Ok-clause-made : goal.returns-in-Ok-clause-made
returns-in-Ok-clause-made g c =
    table_made c.args.extension.now c.in-Ok.table c.requires.functions (subst (λ es. IsPermutation (all_functions es) (stored_in c.in-Ok.table)) c.from_ref.ensures.value c.in-Ok.ensures.stored)

pub returns-in-Ok-clause-typed : goal.returns-in-Ok-clause-typed
returns-in-Ok-clause-typed g c =
    table_typed (table_of c.in-Ok.table rank_answers)
    (table_holds c.args.extension.now c.in-Ok.table c.requires.functions c.requires.ordered
    (subst (λ es. IsPermutation (all_signatures es) (functions_of c.in-Ok.table)) c.from_ref.ensures.value c.in-Ok.ensures.functions)
    (c.in-Ok.ensures.ordered ∙ ap all_ordered c.from_ref.ensures.value))
