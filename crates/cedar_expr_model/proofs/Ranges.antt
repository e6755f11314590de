-- A text is UTF-8 exactly where it is made of characters.
use Rattle.std.proofs.Common.{◌≡◌, ℕ, List, [], ◌∷◌, Bool, true, false, ◌&&◌, ◌||◌, refl, sym, ap₂, ◌∙◌, arith}
use Rattle.std.specs.Bool.{Decides}
use Rattle.std.specs.List.{list_all}
use Rattle.std.specs.Char.{is_ascii}
use Rattle.std.specs.Str.{all_scalars, IsUtf8, is_utf8}
use Rattle.std.proofs.Math.Utf8.{scalar}
use Rattle.std.proofs.lemmas.Bool.Decides.{leb_tells}
use Rattle.std.proofs.lemmas.Str.{is_utf8-from_IsUtf8}
use Rattle.cedar_expr_model.specs.Name.{Text}
use Rattle.cedar_expr_model.specs.Uids.{is_text}
use Rattle.cedar_expr_model.specs.Ranges.{is_character}
use Rattle.cedar_expr_model.specs.TextLaws.{IsOfCharacters}
use Rattle.cedar_expr_model.proofs.UidRead.{is_text_utf8}

-- the numbers of characters are the scalar values
character_is : (c : ℕ) → is_character c ≡ scalar c
character_is c = grind (arith, leb_tells)

characters_are : (cs : List ℕ) → list_all is_character cs ≡ all_scalars cs
characters_are [] = refl
characters_are (c ∷ cs) = ap₂ (λ a b. a && b) (character_is c) (characters_are cs)

either_true : (a b : Bool) → b ≡ true → (a || b) ≡ true
either_true true b h = refl
either_true false b h = h

pub utf8_is_text : (t : Text) → IsUtf8 t → is_text t ≡ true
utf8_is_text t u = either_true (list_all is_ascii t) (is_utf8 t) (is_utf8-from_IsUtf8 t u)

pub text_Decides : (t : Text) → Decides (is_text t) (IsOfCharacters t)
text_Decides t = (
  λ h. let u = is_text_utf8 t h in (u.0, characters_are u.0 ∙ u.1.0, u.1.1),
  λ h. utf8_is_text t (h.0, (sym (characters_are h.0) ∙ h.1, h.2)),
)
