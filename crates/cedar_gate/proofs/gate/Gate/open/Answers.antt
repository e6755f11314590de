use Rattle.std.proofs.lemmas.Result.{IfOk-weaker}
use Rattle.cedar_gate_model.specs.RunsAnswer.{session_of}
use Rattle.cedar_gate.proofs.Courses.{admitted_at, course_setup, policies_at}
use Rattle.cedar_gate.proofs.gate.Gate.open.Goals as goal

pub returns-clause-stands : goal.returns-clause-stands
returns-clause-stands g c = IfOk-weaker c.open.result _ _ (λ e h d steps at.
    let gate = c.args.self.now in
    let q = c.args.request in
    h d (course_setup gate q steps d at) (admitted_at gate q steps d c.context_is_made.ensures at) at.fair.fair (policies_at gate q steps d at)) c.open.ensures.stands
