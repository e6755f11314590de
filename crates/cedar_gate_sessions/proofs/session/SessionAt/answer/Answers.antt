use Rattle.cedar_gate_model.specs.RunsAnswer.{session_of}
use Rattle.cedar_gate_sessions.proofs.AtState.{nothing_wanted, answer_fits}
use Rattle.cedar_gate_sessions.proofs.session.SessionAt.answer.Goals as goal

pub returns-clause-answer : goal.returns-clause-answer
returns-clause-answer g c = λ r s admitted at is.
    let x = session_of r in
    let d = c.args.self.now in
    let schema = c.schema_is.ensures x (at.setup).gate in
    let given = c.in_ok-check_answer.ensures.given in
    c.in_ok-respond.ensures r s admitted at is (nothing_wanted g.G.GateCalls.suits x s d at g.G.DeclaredActions.schema schema given) (answer_fits g.G.GateCalls.suits x s d at g.G.DeclaredActions.schema schema given)
