-- The ranges of whole numbers and of characters, by their bounds, and the values that keep to them.
-- Rule: values and equality (docs/RULES.md).
use Rattle.std.specs.Prelude.{◌&&◌, ℕ, ℤ, pos, neg_ℤ, int_le, nat_le, Bool, true, not}
use Rattle.std.specs.List.{list_all}
use Rattle.cedar_expr_model.specs.Name.{is_well_formed}
use Rattle.cedar_expr_model.specs.Uids.{is_text, is_uid}
use Rattle.cedar_expr_model.specs.Value.{Literal, truth, long, text, entity, V, prim, set_of, record_of, extension, Vs, no_values, value, Fields, no_fields, field}

-- the least and the greatest whole number of 64 bits
abbrev pub least_long : ℤ
least_long = neg_ℤ (pos 9223372036854775808)

abbrev pub greatest_long : ℤ
greatest_long = pos 9223372036854775807

-- whole numbers of 64 bits
abbrev pub is_long : ℤ → Bool
is_long n = int_le least_long n && int_le n greatest_long

-- the greatest number of a character, and the first and the last of those below it that are no character's
abbrev pub greatest_character : ℕ
greatest_character = 0x10_FFFF

abbrev pub first_surrogate : ℕ
first_surrogate = 0xD800

abbrev pub last_surrogate : ℕ
last_surrogate = 0xDFFF

abbrev pub is_surrogate : ℕ → Bool
is_surrogate c = nat_le first_surrogate c && nat_le c last_surrogate

-- the numbers of characters
abbrev pub is_character : ℕ → Bool
is_character c = nat_le c greatest_character && not (is_surrogate c)

-- bytes
abbrev pub greatest_byte : ℕ
greatest_byte = 0xFF

abbrev pub is_byte : ℕ → Bool
is_byte b = nat_le b greatest_byte

-- a literal in range
abbrev pub is_literal_in_range : Literal → Bool
is_literal_in_range (truth b) = true
is_literal_in_range (long n) = is_long n
is_literal_in_range (text t) = is_text t
is_literal_in_range (entity u) = is_uid u

-- A value in range: each whole number in it is one of 64 bits, each text and each name of a field is made of characters, each uid
-- has a name for its type and a text for its id, and each extension value a name for its type and bytes for its key.
abbrev mutual
  pub is_in_range : V → Bool
  is_in_range (prim p) = is_literal_in_range p
  is_in_range (set_of vs) = are_in_range vs
  is_in_range (record_of fs) = have_in_range fs
  is_in_range (extension n k) = is_well_formed n && list_all is_byte k

  pub are_in_range : Vs → Bool
  are_in_range no_values = true
  are_in_range (value v vs) = is_in_range v && are_in_range vs

  pub have_in_range : Fields → Bool
  have_in_range no_fields = true
  have_in_range (field a v fs) = is_text a && (is_in_range v && have_in_range fs)
