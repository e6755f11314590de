use Rattle.cedar_typechecker_model.proofs.Levels.{violations_are_listed, counts_are_exact, targets_are_listed}
use Rattle.cedar_typechecker_model.proofs.Larger.{policy_violations_are_listed}
use Rattle.cedar_typechecker_model.proofs.laws.violations_are_listed.Goals as goal

pub returns-clause-expressions : goal.returns-clause-expressions
returns-clause-expressions c = violations_are_listed

pub returns-clause-counts : goal.returns-clause-counts
returns-clause-counts c = counts_are_exact

pub returns-clause-targets : goal.returns-clause-targets
returns-clause-targets c = targets_are_listed

pub returns-clause-policies : goal.returns-clause-policies
returns-clause-policies c = policy_violations_are_listed
