-- The values of the worked examples.
-- Rule: identifiers and names; the uid text and its escape (docs/RULES.md).
use Rattle.std.specs.Prelude.{[], ◌∷◌, ◌++◌, codes}
use Rattle.cedar_expr_model.specs.Name.{Text, Name}
use Rattle.cedar_expr_model.specs.Uid.{Uid}

-- the name `a::B_1::C`
abbrev pub path_name : Name
path_name = record { path = codes "a" ∷ codes "B_1" ∷ []; base = codes "C" }

-- the name `__cedar::a`
abbrev pub reserved_name : Name
reserved_name = record { path = codes "__cedar" ∷ []; base = codes "a" }

-- the name `User`
abbrev pub user : Name
user = record { path = []; base = codes "User" }

-- the characters a, double quote, b, backslash, line feed and U+00E9, in UTF-8
abbrev pub awkward_id : Text
awkward_id = 97 ∷ 34 ∷ 98 ∷ 92 ∷ 10 ∷ 195 ∷ 169 ∷ []

abbrev pub awkward_uid : Uid
awkward_uid = record { kind = user; id = awkward_id }

-- The text `User::"a\"b\\\u{a}\u{e9}"`: `User`, two colons and a double quote; `a`; a backslash and a double quote; `b`;
-- two backslashes; the numbers of the line feed and of U+00E9 in their escapes; and a double quote.
abbrev pub awkward_text : Text
awkward_text = codes "User::" ++ (34 ∷ 97 ∷ 92 ∷ 34 ∷ 98 ∷ 92 ∷ 92 ∷ 92 ∷ 117 ∷ 123 ∷ 97 ∷ 125 ∷ 92 ∷ 117 ∷ 123 ∷ 101 ∷ 57 ∷ 125 ∷ 34 ∷ [])
