use Rattle.cedar_typechecker_model.proofs.Larger.{larger_levels_keep, larger_levels_pass, larger_levels_pass_policies}
use Rattle.cedar_typechecker_model.proofs.laws.larger_levels_pass.Goals as goal

pub returns-clause-each : goal.returns-clause-each
returns-clause-each c = larger_levels_keep

pub returns-clause-expressions : goal.returns-clause-expressions
returns-clause-expressions c = larger_levels_pass

pub returns-clause-policies : goal.returns-clause-policies
returns-clause-policies c = larger_levels_pass_policies
