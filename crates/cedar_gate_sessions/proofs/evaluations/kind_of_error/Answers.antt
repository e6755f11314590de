use Rattle.std.proofs.Common.{sym, ◌∙◌}
use Rattle.cedar_gate_sessions.proofs.Told.{kind_told}
use Rattle.cedar_gate_sessions.proofs.evaluations.kind_of_error.Goals as goal

pub returns-else-is_out_of_memory : goal.returns-else-is_out_of_memory
returns-else-is_out_of_memory c = λ l h. c.named_kind.ensures ∙ kind_told l c.args.error.now (sym c.is_out_of_memory.ensures ∙ c.if-is_out_of_memory.false) h
