use Rattle.std.proofs.Common.{refl}
use Rattle.std.specs.Str.{chars}
use Rattle.serde_json.proofs.OnLiterals.{serde_json_on_literals}
use Rattle.cedar_gate_model.proofs.reading_worked.worked_patterns.Goals as goal

pub returns-clause-elements : goal.returns-clause-elements
unfolding serde_json_on_literals chars
returns-clause-elements c = refl

pub returns-clause-empty : goal.returns-clause-empty
unfolding serde_json_on_literals chars
returns-clause-empty c = refl

pub returns-clause-empty_texts : goal.returns-clause-empty_texts
unfolding serde_json_on_literals chars
returns-clause-empty_texts c = refl

pub returns-clause-no_patterns : goal.returns-clause-no_patterns
unfolding serde_json_on_literals chars
returns-clause-no_patterns c = refl

pub returns-clause-like : goal.returns-clause-like
unfolding serde_json_on_literals chars
returns-clause-like c = refl

pub returns-clause-like_empty : goal.returns-clause-like_empty
unfolding serde_json_on_literals chars
returns-clause-like_empty c = refl

pub returns-clause-no_like : goal.returns-clause-no_like
unfolding serde_json_on_literals chars
returns-clause-no_like c = refl
