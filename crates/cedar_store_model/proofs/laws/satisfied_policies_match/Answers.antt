use Rattle.cedar_store_model.proofs.Conditions.{satisfied_by_parts}
use Rattle.cedar_store_model.proofs.Matching.{satisfied_by_matching}
use Rattle.cedar_store_model.proofs.laws.satisfied_policies_match.Goals as goal

pub returns-clause-parts : goal.returns-clause-parts
returns-clause-parts c = satisfied_by_parts

pub returns-clause-matching : goal.returns-clause-matching
returns-clause-matching c = satisfied_by_matching
