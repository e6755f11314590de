use Rattle.cedar_gate_sessions.proofs.AnswersLeft.{answered_is}
use Rattle.cedar_gate_sessions.proofs.Sessions.{session_answers}
use Rattle.cedar_gate_sessions.proofs.laws.answers_are_the_meaning.Goals as goal

pub returns-clause-meaning : goal.returns-clause-meaning
returns-clause-meaning c = λ s agrees known loaded n ps within. answered_is s n agrees known loaded ps within

pub returns-clause-sessions : goal.returns-clause-sessions
returns-clause-sessions c = session_answers
