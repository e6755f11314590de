use Rattle.std.proofs.Common.{rules, ◌≡◌, true, false}
use Rattle.cedar_gate_sessions.proofs.bound.request_bound.Goals as goal

pub returns-clause-evaluates : goal.returns-clause-evaluates
returns-clause-evaluates g c = λ x a s v. (let fine : c.in_ok-made.made.1 ≡ false = search rules in c.in_ok-made.ensures.evaluates x a fine s v)

pub returns-then-made-clause-refused : goal.returns-then-made-clause-refused
returns-then-made-clause-refused g c = λ x a s v. (let fails : c.in_ok-made.made.1 ≡ true = search rules in c.in_ok-made.ensures.fails x a fails s v)
