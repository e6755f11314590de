use Rattle.cedar_expr_model.proofs.Ranges.{text_Decides}
use Rattle.cedar_expr_model.proofs.laws.texts_are_of_characters.Goals as goal

pub returns : goal.returns
returns c = text_Decides
