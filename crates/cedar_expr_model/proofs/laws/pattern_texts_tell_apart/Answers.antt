use Rattle.cedar_expr_model.proofs.PatternTexts.{pattern_text_apart}
use Rattle.cedar_expr_model.proofs.laws.pattern_texts_tell_apart.Goals as goal

pub returns : goal.returns
returns c = pattern_text_apart
