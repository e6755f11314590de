use Rattle.std.proofs.Common.{codes, Some, ◌≡◌}
use Rattle.cedar_expr_model.specs.Tree.{bool_core, long_core, unknown, record_literal, no_tree_fields, tree_field}
use Rattle.cedar_store_model.specs.Outcome.{val}
use Rattle.cedar_store_model.proofs.Meaning.{means_outcome}
use Rattle.cedar_evaluator_model.specs.Worked.{no_slot, unknown_u}
use Rattle.cedar_evaluator_model.specs.WorkedCompletions.{completed}
use Rattle.cedar_evaluator_model.proofs.Named.{fits_in}
use Rattle.cedar_evaluator_model.proofs.worked_completions.worked_parts.Goals as goal

-- the record has a field
pub returns-clause-context : goal.returns-clause-context
returns-clause-context c h = let m = means_outcome completed (record_literal (tree_field (codes "x") unknown_u no_tree_fields)) (val h.0) (h.2.0 no_slot) in let e = h.1 in cc

-- what `u` means is no whole number
pub returns-clause-residual_misfit : goal.returns-clause-residual_misfit
returns-clause-residual_misfit c h = let k : long_core ≡ bool_core = fits_in completed (unknown (codes "u") (Some long_core)) (h.2).1 in cc

-- the unknown means true
pub returns-clause-other_value : goal.returns-clause-other_value
returns-clause-other_value c h = let m = means_outcome completed unknown_u (val h.0) (h.2.0 no_slot) in let e = h.1 in cc

-- where the slot isn't bound it errs
pub returns-clause-slot : goal.returns-clause-slot
returns-clause-slot c h = let m = h.2.0 no_slot in cc
