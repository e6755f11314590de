use Rattle.std.proofs.Common.{refl}
use Rattle.serde_json.proofs.OnLiterals.{serde_json_on_literals}
use Rattle.cedar_gate_model.proofs.reading_worked.worked_operators.Goals as goal

pub returns-clause-folded : goal.returns-clause-folded
unfolding serde_json_on_literals
returns-clause-folded c = refl

pub returns-clause-folded_or : goal.returns-clause-folded_or
unfolding serde_json_on_literals
returns-clause-folded_or c = refl

pub returns-clause-kept : goal.returns-clause-kept
unfolding serde_json_on_literals
returns-clause-kept c = refl

pub returns-clause-kept_or : goal.returns-clause-kept_or
unfolding serde_json_on_literals
returns-clause-kept_or c = refl

pub returns-clause-not_folded : goal.returns-clause-not_folded
unfolding serde_json_on_literals
returns-clause-not_folded c = refl

pub returns-clause-neg : goal.returns-clause-neg
unfolding serde_json_on_literals
returns-clause-neg c = refl

pub returns-clause-empty : goal.returns-clause-empty
unfolding serde_json_on_literals
returns-clause-empty c = refl

pub returns-clause-choice : goal.returns-clause-choice
unfolding serde_json_on_literals
returns-clause-choice c = refl

pub returns-clause-eq : goal.returns-clause-eq
unfolding serde_json_on_literals
returns-clause-eq c = refl

pub returns-clause-less : goal.returns-clause-less
unfolding serde_json_on_literals
returns-clause-less c = refl

pub returns-clause-lesseq : goal.returns-clause-lesseq
unfolding serde_json_on_literals
returns-clause-lesseq c = refl

pub returns-clause-add : goal.returns-clause-add
unfolding serde_json_on_literals
returns-clause-add c = refl

pub returns-clause-sub : goal.returns-clause-sub
unfolding serde_json_on_literals
returns-clause-sub c = refl

pub returns-clause-mul : goal.returns-clause-mul
unfolding serde_json_on_literals
returns-clause-mul c = refl

pub returns-clause-rem : goal.returns-clause-rem
unfolding serde_json_on_literals
returns-clause-rem c = refl

pub returns-clause-rem_in_others : goal.returns-clause-rem_in_others
unfolding serde_json_on_literals
returns-clause-rem_in_others c = refl

pub returns-clause-no_rem : goal.returns-clause-no_rem
unfolding serde_json_on_literals
returns-clause-no_rem c = refl

pub returns-clause-no_rem_either : goal.returns-clause-no_rem_either
unfolding serde_json_on_literals
returns-clause-no_rem_either c = refl

pub returns-clause-others_in_second : goal.returns-clause-others_in_second
unfolding serde_json_on_literals
returns-clause-others_in_second c = refl

pub returns-clause-is_in : goal.returns-clause-is_in
unfolding serde_json_on_literals
returns-clause-is_in c = refl

pub returns-clause-contains : goal.returns-clause-contains
unfolding serde_json_on_literals
returns-clause-contains c = refl

pub returns-clause-contains_all : goal.returns-clause-contains_all
unfolding serde_json_on_literals
returns-clause-contains_all c = refl

pub returns-clause-contains_any : goal.returns-clause-contains_any
unfolding serde_json_on_literals
returns-clause-contains_any c = refl

pub returns-clause-get_tag : goal.returns-clause-get_tag
unfolding serde_json_on_literals
returns-clause-get_tag c = refl

pub returns-clause-has_tag : goal.returns-clause-has_tag
unfolding serde_json_on_literals
returns-clause-has_tag c = refl

pub returns-clause-wrong_counts : goal.returns-clause-wrong_counts
unfolding serde_json_on_literals
returns-clause-wrong_counts c = refl

pub returns-clause-wrong_parts : goal.returns-clause-wrong_parts
unfolding serde_json_on_literals
returns-clause-wrong_parts c = refl
