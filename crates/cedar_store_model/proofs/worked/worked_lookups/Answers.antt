use Rattle.cedar_store_model.proofs.Instances.{looks_at_principal, looks_on_the_way, looks_after_true, looks_left_alone, not_after_false}
use Rattle.cedar_store_model.proofs.worked.worked_lookups.Goals as goal

pub returns-clause-principal_attribute : goal.returns-clause-principal_attribute
returns-clause-principal_attribute c = looks_at_principal

pub returns-clause-on_the_way : goal.returns-clause-on_the_way
returns-clause-on_the_way c = looks_on_the_way

pub returns-clause-after_true : goal.returns-clause-after_true
returns-clause-after_true c = looks_after_true

pub returns-clause-left_alone : goal.returns-clause-left_alone
returns-clause-left_alone c = looks_left_alone

pub returns-clause-not_after_false : goal.returns-clause-not_after_false
returns-clause-not_after_false c = not_after_false
