use Rattle.cedar_schema_built.proofs.External.{first_is_fault, complete_is_faultless}
use Rattle.cedar_schema_built.proofs.laws.external_declarations_are_refused.Goals as goal

pub returns-clause-refused : goal.returns-clause-refused
returns-clause-refused c = first_is_fault c.external_declarations_are_kept.ensures.kept c.external_declarations_are_kept.ensures.fault

pub returns-clause-complete : goal.returns-clause-complete
returns-clause-complete c = complete_is_faultless c.external_declarations_are_kept.ensures.kept c.external_declarations_are_kept.ensures.fault
