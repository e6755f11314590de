-- What the laws of texts, and of the texts of uids and of patterns, say.
-- Rule: values and equality; the uid text and its escape; texts; patterns (docs/RULES.md).
use Rattle.std.specs.Prelude.{◌≡◌, ℕ, List, [], ◌∷◌, true, Option, Some, Contains}
use Rattle.std.specs.Bool.{Decides}
use Rattle.std.specs.List.{list_all}
use Rattle.std.specs.Str.{all_scalars, encode_utf8_all}
use Rattle.cedar_expr_model.specs.Name.{Text}
use Rattle.cedar_expr_model.specs.Uid.{Uid, uid_text}
use Rattle.cedar_expr_model.specs.Uids.{is_text, is_uid}
use Rattle.cedar_expr_model.specs.Ranges.{is_character}
use Rattle.cedar_expr_model.specs.Pattern.{Pattern, character, wildcard}
use Rattle.cedar_expr_model.specs.Texts.{pattern_text}

-- the bytes are the UTF-8 of characters
abbrev pub IsOfCharacters : Text → Type 0
IsOfCharacters t = (cs : List ℕ) × (list_all is_character cs ≡ true) × (encode_utf8_all cs ≡ t)

-- the test of a text decides whether it is made of characters
abbrev pub TextsAreOfCharacters : Type 0
TextsAreOfCharacters = (t : Text) → Decides (is_text t) (IsOfCharacters t)

-- Some reading of texts finds each uid from its text.
abbrev pub UidsAreReadable : Type 0
UidsAreReadable = (read : Text → Option Uid) × ((u : Uid) → is_uid u ≡ true → read (uid_text u) ≡ Some u)

-- The text of a uid holds a double quote, which no name does.
abbrev pub UidsHoldQuotes : Type 0
UidsHoldQuotes = (u : Uid) → Contains (uid_text u) 34

-- the characters that stand in a pattern, in order
abbrev pub characters : Pattern → List ℕ
characters [] = []
characters (character c ∷ p) = c ∷ characters p
characters (wildcard ∷ p) = characters p

-- patterns of characters with the same text are the same
abbrev pub PatternsHaveTheirText : Type 0
PatternsHaveTheirText = (p q : Pattern) → all_scalars (characters p) ≡ true → all_scalars (characters q) ≡ true → pattern_text p ≡ pattern_text q → p ≡ q
