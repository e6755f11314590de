use Rattle.cedar_gate_rules.specs.Policies.{policies_of}
use Rattle.cedar_gate_accepted.proofs.Together.{typed_by_same}
use Rattle.cedar_gate_accepted.proofs.judged.judge.Goals as goal

pub returns-clause-kept : goal.returns-clause-kept
returns-clause-kept g c = λ s w. c.judge_by.ensures.kept s (typed_by_same (policies_of c.args.policies.now) c.args.level s c.in_ok-asked.ensures.schema c.in_ok-asked.ensures.table w)

pub returns-clause-warnings : goal.returns-clause-warnings
returns-clause-warnings g c = λ s w. c.judge_by.ensures.warnings s (typed_by_same (policies_of c.args.policies.now) c.args.level s c.in_ok-asked.ensures.schema c.in_ok-asked.ensures.table w)

pub returns-clause-refused : goal.returns-clause-refused
returns-clause-refused g c = λ s w h. c.judge_by.ensures.refused s (typed_by_same (policies_of c.args.policies.now) c.args.level s c.in_ok-asked.ensures.schema c.in_ok-asked.ensures.table w) h
