-- Patterns on texts, computed through the characters that the bytes spell.
use Rattle.std.proofs.Common.{◌≡◌, true, false, [], ◌∷◌, codes, refl}
use Rattle.std.specs.Str.{chars}
use Rattle.cedar_expr_model.specs.Pattern.{character, wildcard, matches_text}
use Rattle.cedar_expr_model.specs.Worked.{f_to_r}

pub text_matches : matches_text f_to_r (codes "foo bar") ≡ true
unfolding chars
text_matches = refl

pub text_other_end : matches_text f_to_r (codes "foo bars") ≡ false
unfolding chars
text_other_end = refl

pub one_character : matches_text (character 233 ∷ []) (195 ∷ 169 ∷ []) ≡ true
unfolding chars
one_character = refl

pub no_two_characters : matches_text (character 195 ∷ wildcard ∷ []) (195 ∷ 169 ∷ []) ≡ false
unfolding chars
no_two_characters = refl
