use Rattle.cedar_gate_sessions.proofs.Standing.{wanted_list}
use Rattle.cedar_gate_sessions.proofs.session.SessionAt.wanted.Goals as goal

pub returns-clause-exact : goal.returns-clause-exact
returns-clause-exact g c = λ x s at. wanted_list x s (c.args.self.now).loading at.wanting at.near
