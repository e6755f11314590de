use Rattle.cedar_gate_sessions.proofs.Absences.{same_again}
use Rattle.cedar_gate_sessions.proofs.supplied.take_in.Goals as goal

pub returns-in-Err-clause-stays : goal.returns-in-Err-clause-stays
returns-in-Err-clause-stays g c =
    same_again c.args.loaded.now c.take.new.loaded c.reset.new.self _ _ c.take.ensures.grown c.mark-mark.ensures.entities c.mark-mark.ensures.absences c.reset.ensures.entities c.reset.ensures.absent c.reset.ensures.extent
