use Rattle.std.proofs.Common.{refl}
use Rattle.serde_json.proofs.OnLiterals.{serde_json_on_literals}
use Rattle.cedar_gate_model.proofs.reading_worked.worked_forms.Goals as goal

pub returns-clause-word : goal.returns-clause-word
unfolding serde_json_on_literals
returns-clause-word c = refl

pub returns-clause-no_words : goal.returns-clause-no_words
unfolding serde_json_on_literals
returns-clause-no_words c = refl

pub returns-clause-alone : goal.returns-clause-alone
unfolding serde_json_on_literals
returns-clause-alone c = refl

pub returns-clause-not_alone : goal.returns-clause-not_alone
unfolding serde_json_on_literals
returns-clause-not_alone c = refl

pub returns-clause-one_form : goal.returns-clause-one_form
unfolding serde_json_on_literals
returns-clause-one_form c = refl

pub returns-clause-another_form : goal.returns-clause-another_form
unfolding serde_json_on_literals
returns-clause-another_form c = refl

pub returns-clause-no_form : goal.returns-clause-no_form
unfolding serde_json_on_literals
returns-clause-no_form c = refl

pub returns-clause-passing : goal.returns-clause-passing
unfolding serde_json_on_literals
returns-clause-passing c = refl

pub returns-clause-not_passing : goal.returns-clause-not_passing
unfolding serde_json_on_literals
returns-clause-not_passing c = refl

pub returns-clause-this_number : goal.returns-clause-this_number
unfolding serde_json_on_literals
returns-clause-this_number c = refl

pub returns-clause-another_number : goal.returns-clause-another_number
unfolding serde_json_on_literals
returns-clause-another_number c = refl

pub returns-clause-no_number : goal.returns-clause-no_number
unfolding serde_json_on_literals
returns-clause-no_number c = refl
