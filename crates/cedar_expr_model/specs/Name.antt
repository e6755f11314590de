-- Texts, identifiers and names.
-- Rule: identifiers and names (docs/RULES.md).
use Rattle.std.specs.Prelude.{◌≡◌, ℕ, ◌==◌, ◌&&◌, ◌||◌, List, [], ◌∷◌, ◌++◌, Bool, true, false, not, if◌then◌else◌, Option, Some, None, codes}
use Rattle.std.specs.List.{list_all, list_any}
use Rattle.std.specs.Str.{bytes_eq}
use Rattle.std.specs.Char.{is_ascii_alphabetic, is_ascii_digit}

-- a text, as the bytes of its UTF-8
abbrev pub Text : Type 0
Text = List ℕ

-- A name: identifiers joined by `::`. The last is its base, those before it its path.
pub record Name : Type 0 where
  pub path : List Text
  pub base : Text
  deriving IsSet as Name-set

-- what stands between a name and what follows it
abbrev pub colons : Text
colons = 58 ∷ 58 ∷ []

-- the text of the parts, each before the double colon that ends it, and then the last
abbrev pub joined : List Text → Text → Text
joined [] base = base
joined (part ∷ parts) base = part ++ (colons ++ joined parts base)

-- the text of a name
abbrev pub name_text : Name → Text
name_text n = joined n.path n.base

-- the bytes that an identifier may begin with
abbrev pub starts_identifier : ℕ → Bool
starts_identifier b = is_ascii_alphabetic b || (b == 95)

-- the bytes that may follow in an identifier
abbrev pub continues_identifier : ℕ → Bool
continues_identifier b = starts_identifier b || is_ascii_digit b

-- letters, digits and underscores, with no digit first
abbrev pub is_word : Text → Bool
is_word [] = false
is_word (b ∷ bs) = starts_identifier b && list_all continues_identifier bs

-- the words of the expression language
abbrev pub keywords : List Text
keywords = codes "true" ∷ codes "false" ∷ codes "if" ∷ codes "then" ∷ codes "else" ∷ codes "in" ∷ codes "is" ∷ codes "like" ∷ codes "has" ∷ []

-- an identifier: a word that is no keyword
abbrev pub is_identifier : Text → Bool
is_identifier text = is_word text && not (list_any (bytes_eq text) keywords)

-- the part that is reserved
abbrev pub reserved : Text
reserved = codes "__cedar"

-- a name with the reserved part
abbrev pub is_reserved : Name → Bool
is_reserved n = list_any (bytes_eq reserved) n.path || bytes_eq reserved n.base

-- each part of the name is an identifier
abbrev pub is_well_formed : Name → Bool
is_well_formed n = list_all is_identifier n.path && is_identifier n.base

-- This text writes this name.
pub record Writes (text : Text) (n : Name) : Type 0 where
  pub parts : is_well_formed n ≡ true
  pub whole : text ≡ name_text n

-- equal names
abbrev pub texts_eq : List Text → List Text → Bool
texts_eq [] [] = true
texts_eq [] (y ∷ ys) = false
texts_eq (x ∷ xs) [] = false
texts_eq (x ∷ xs) (y ∷ ys) = bytes_eq x y && texts_eq xs ys

abbrev pub name_eq : Name → Name → Bool
name_eq m n = texts_eq m.path n.path && bytes_eq m.base n.base

-- Reading: the parts of a text between its double colons.
abbrev pub with_byte : ℕ → List Text → List Text
with_byte b [] = (b ∷ []) ∷ []
with_byte b (part ∷ parts) = (b ∷ part) ∷ parts

abbrev pub parts : Text → List Text
parts [] = [] ∷ []
parts (b ∷ []) = (b ∷ []) ∷ []
parts (b ∷ c ∷ bs) = if (b == 58) && (c == 58) then [] ∷ parts bs else with_byte b (parts (c ∷ bs))

-- the name whose parts these are
abbrev pub name_of_parts : List Text → List Text → Option Name
name_of_parts before [] = None
name_of_parts before (part ∷ []) = Some (record { path = before; base = part })
name_of_parts before (part ∷ next ∷ more) = name_of_parts (before ++ part ∷ []) (next ∷ more)

-- the name that a text writes, if it writes one
abbrev pub name_read : Text → Option Name
name_read text = if list_all is_identifier (parts text) then name_of_parts [] (parts text) else None
