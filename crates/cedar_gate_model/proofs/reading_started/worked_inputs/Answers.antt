use Rattle.std.proofs.Common.{refl}
use Rattle.std.specs.Str.{is_utf8, chars}
use Rattle.std.specs.Char.{encode_utf8}
use Rattle.serde_json.proofs.OnLiterals.{serde_json_on_literals}
use Rattle.cedar_gate_model.specs.ReadingBundle.{input_read}
use Rattle.cedar_gate_model.proofs.reading_started.worked_inputs.Goals as goal

pub returns-clause-usual : goal.returns-clause-usual
unfolding serde_json_on_literals input_read is_utf8 chars encode_utf8
returns-clause-usual c = refl

pub returns-clause-without_its_end : goal.returns-clause-without_its_end
unfolding serde_json_on_literals input_read is_utf8 chars encode_utf8
returns-clause-without_its_end c = refl

pub returns-clause-empty : goal.returns-clause-empty
unfolding serde_json_on_literals input_read is_utf8 chars encode_utf8
returns-clause-empty c = refl

pub returns-clause-byte_order_mark : goal.returns-clause-byte_order_mark
unfolding serde_json_on_literals input_read is_utf8 chars encode_utf8
returns-clause-byte_order_mark c = refl

pub returns-clause-an_id : goal.returns-clause-an_id
unfolding serde_json_on_literals input_read is_utf8 chars encode_utf8
returns-clause-an_id c = refl

pub returns-clause-no_utf8 : goal.returns-clause-no_utf8
unfolding serde_json_on_literals input_read is_utf8 chars encode_utf8
returns-clause-no_utf8 c = refl

pub returns-clause-lone_surrogate : goal.returns-clause-lone_surrogate
unfolding serde_json_on_literals input_read is_utf8 chars encode_utf8
returns-clause-lone_surrogate c = refl

pub returns-clause-followed : goal.returns-clause-followed
unfolding serde_json_on_literals input_read is_utf8 chars encode_utf8
returns-clause-followed c = refl

pub returns-clause-spaced : goal.returns-clause-spaced
unfolding serde_json_on_literals input_read is_utf8 chars encode_utf8
returns-clause-spaced c = refl

pub returns-clause-brackets : goal.returns-clause-brackets
unfolding serde_json_on_literals input_read is_utf8 chars encode_utf8
returns-clause-brackets c = refl

pub returns-clause-brackets_of_json : goal.returns-clause-brackets_of_json
unfolding serde_json_on_literals input_read is_utf8 chars encode_utf8
returns-clause-brackets_of_json c = refl

pub returns-clause-too_many_brackets : goal.returns-clause-too_many_brackets
unfolding serde_json_on_literals input_read is_utf8 chars encode_utf8
returns-clause-too_many_brackets c = refl

pub returns-clause-last_of_repeated_keys : goal.returns-clause-last_of_repeated_keys
unfolding serde_json_on_literals input_read is_utf8 chars encode_utf8
returns-clause-last_of_repeated_keys c = refl
