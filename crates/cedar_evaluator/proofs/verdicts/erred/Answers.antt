use Rattle.std.proofs.Common.{sym, ◌∙◌}
use Rattle.cedar_evaluator.proofs.Told.{told_error}
use Rattle.cedar_evaluator.proofs.verdicts.erred.Goals as goal

pub returns-else-is_out_of_memory : goal.returns-else-is_out_of_memory
returns-else-is_out_of_memory c = λ f l h. told_error f l c.args.error (sym c.is_out_of_memory.ensures ∙ c.if-is_out_of_memory.false) h
