-- Entity uids and their text.
-- Rule: the uid text and its escape (docs/RULES.md).
use Rattle.std.specs.Prelude.{ℕ, ◌==◌, ◌&&◌, false, [], ◌∷◌, ◌++◌, Bool, nat_le, if◌then◌else◌}
use Rattle.std.specs.List.{flat_map}
use Rattle.std.specs.Str.{bytes_eq, chars}
use Rattle.std.specs.Fmt.{digits}
use Rattle.cedar_expr_model.specs.Name.{Text, Name, name_text, name_eq, colons}

-- An entity's uid: its type and its id, which is any text.
pub record Uid : Type 0 where
  pub kind : Name
  pub id : Text
  deriving IsSet as Uid-set

abbrev pub uid_eq : Uid → Uid → Bool
uid_eq u v = name_eq u.kind v.kind && bytes_eq u.id v.id

-- The escape: printable ASCII stands as it is, but the double quote and the backslash have a backslash before them;
-- any other character is its number, in lower-case hexadecimal without leading zeros, in `\u{..}`.
abbrev pub escaped : ℕ → Text
escaped c =
    if c == 34 then 92 ∷ 34 ∷ []
    else (if c == 92 then 92 ∷ 92 ∷ []
    else (if nat_le 32 c && nat_le c 126 then c ∷ []
    else 92 ∷ 117 ∷ 123 ∷ (digits 16 false c ++ 125 ∷ [])))

-- a text in double quotes, escaped
abbrev pub quoted : Text → Text
quoted text = 34 ∷ (flat_map escaped (chars text) ++ 34 ∷ [])

-- the text of a uid: its type, two colons, and its id in quotes
abbrev pub uid_text : Uid → Text
uid_text u = name_text u.kind ++ (colons ++ quoted u.id)
