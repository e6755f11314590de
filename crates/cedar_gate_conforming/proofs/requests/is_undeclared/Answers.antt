use Rattle.std.proofs.Common.{ap}
use Rattle.std.specs.Prelude.{is_none}
use Rattle.cedar_gate_conforming.proofs.requests.is_undeclared.Goals as goal

pub returns-in-Some : goal.returns-in-Some
returns-in-Some c = ap is_none c.in-Some.ensures

pub returns-in-None : goal.returns-in-None
returns-in-None c = ap is_none c.in-None.ensures
