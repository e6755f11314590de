use Rattle.cedar_expr_model.proofs.Computed.{text_matches, text_other_end, one_character, no_two_characters}
use Rattle.cedar_expr_model.proofs.worked.worked_text_patterns.Goals as goal

pub returns-clause-between : goal.returns-clause-between
returns-clause-between c = text_matches

pub returns-clause-other_end : goal.returns-clause-other_end
returns-clause-other_end c = text_other_end

pub returns-clause-one_character : goal.returns-clause-one_character
returns-clause-one_character c = one_character

pub returns-clause-two_bytes : goal.returns-clause-two_bytes
returns-clause-two_bytes c = no_two_characters
