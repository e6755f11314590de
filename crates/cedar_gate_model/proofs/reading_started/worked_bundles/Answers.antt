use Rattle.std.proofs.Common.{refl}
use Rattle.serde_json.proofs.OnLiterals.{serde_json_on_literals}
use Rattle.cedar_gate_model.proofs.reading_started.worked_bundles.Goals as goal

pub returns-clause-usual : goal.returns-clause-usual
unfolding serde_json_on_literals
returns-clause-usual c = refl

pub returns-clause-level : goal.returns-clause-level
unfolding serde_json_on_literals
returns-clause-level c = refl

pub returns-clause-least_level : goal.returns-clause-least_level
unfolding serde_json_on_literals
returns-clause-least_level c = refl

pub returns-clause-no_levels : goal.returns-clause-no_levels
unfolding serde_json_on_literals
returns-clause-no_levels c = refl

pub returns-clause-limit : goal.returns-clause-limit
unfolding serde_json_on_literals
returns-clause-limit c = refl

pub returns-clause-no_limits : goal.returns-clause-no_limits
unfolding serde_json_on_literals
returns-clause-no_limits c = refl

pub returns-clause-first_version : goal.returns-clause-first_version
unfolding serde_json_on_literals
returns-clause-first_version c = refl

pub returns-clause-second_version : goal.returns-clause-second_version
unfolding serde_json_on_literals
returns-clause-second_version c = refl

pub returns-clause-no_versions : goal.returns-clause-no_versions
unfolding serde_json_on_literals
returns-clause-no_versions c = refl

pub returns-clause-another_version : goal.returns-clause-another_version
unfolding serde_json_on_literals
returns-clause-another_version c = refl

pub returns-clause-no_other_versions : goal.returns-clause-no_other_versions
unfolding serde_json_on_literals
returns-clause-no_other_versions c = refl

pub returns-clause-rem_in_second : goal.returns-clause-rem_in_second
unfolding serde_json_on_literals
returns-clause-rem_in_second c = refl

pub returns-clause-no_rem_in_first : goal.returns-clause-no_rem_in_first
unfolding serde_json_on_literals
returns-clause-no_rem_in_first c = refl

pub returns-clause-levels : goal.returns-clause-levels
unfolding serde_json_on_literals
returns-clause-levels c = refl

pub returns-clause-other_levels : goal.returns-clause-other_levels
unfolding serde_json_on_literals
returns-clause-other_levels c = refl

pub returns-clause-parts : goal.returns-clause-parts
unfolding serde_json_on_literals
returns-clause-parts c = refl

pub returns-clause-policies : goal.returns-clause-policies
unfolding serde_json_on_literals
returns-clause-policies c = refl

pub returns-clause-two_of_one_id : goal.returns-clause-two_of_one_id
unfolding serde_json_on_literals
returns-clause-two_of_one_id c = refl

pub returns-clause-steps : goal.returns-clause-steps
unfolding serde_json_on_literals
returns-clause-steps c = refl

pub returns-clause-bad_last_step : goal.returns-clause-bad_last_step
unfolding serde_json_on_literals
returns-clause-bad_last_step c = refl

pub returns-clause-stored : goal.returns-clause-stored
unfolding serde_json_on_literals
returns-clause-stored c = refl

pub returns-clause-another_key : goal.returns-clause-another_key
unfolding serde_json_on_literals
returns-clause-another_key c = refl

pub returns-clause-lacking_parts : goal.returns-clause-lacking_parts
unfolding serde_json_on_literals
returns-clause-lacking_parts c = refl

pub returns-clause-not_an_object : goal.returns-clause-not_an_object
unfolding serde_json_on_literals
returns-clause-not_an_object c = refl
