-- What the laws of names and uids say.
-- Rule: identifiers and names; the uid text and its escape (docs/RULES.md).
use Rattle.std.specs.Prelude.{◌≡◌, ◌↔◌, List, Some, true}
use Rattle.std.specs.Bool.{Decides}
use Rattle.cedar_expr_model.specs.Name.{Text, Name, Writes, name_eq, texts_eq, name_read, name_text, is_well_formed}
use Rattle.cedar_expr_model.specs.Uid.{Uid, uid_eq, uid_text}
use Rattle.std.specs.Str.{IsUtf8}

-- the test of two lists of texts decides whether they are the same
abbrev pub TextsDecide : Type 0
TextsDecide = (xs ys : List Text) → Decides (texts_eq xs ys) (xs ≡ ys)

-- the test of two names decides whether they are the same
abbrev pub NamesDecide : Type 0
NamesDecide = (m n : Name) → Decides (name_eq m n) (m ≡ n)

-- the test of two uids decides whether they are the same
abbrev pub UidsDecide : Type 0
UidsDecide = (u v : Uid) → Decides (uid_eq u v) (u ≡ v)

-- reading gives a name exactly where the text writes it
abbrev pub NamesAreRead : Type 0
NamesAreRead = (text : Text) (n : Name) → (name_read text ≡ Some n) ↔ Writes text n

-- well-formed names with the same text are the same
abbrev pub NamesHaveTheirText : Type 0
NamesHaveTheirText = (m n : Name) → is_well_formed m ≡ true → is_well_formed n ≡ true → name_text m ≡ name_text n → m ≡ n

-- uids with the same text are the same, where their types are well-formed names and their ids are texts
abbrev pub UidsHaveTheirText : Type 0
UidsHaveTheirText = (u v : Uid) → is_well_formed u.kind ≡ true → is_well_formed v.kind ≡ true → IsUtf8 u.id → IsUtf8 v.id → uid_text u ≡ uid_text v → u ≡ v
