-- What names, literals and values feed a hasher: the place of their kind, and then their parts in order. What varies in number
-- is fed after its number.
-- Rule: values and equality (docs/RULES.md).
use Rattle.std.specs.Prelude.{◌++◌, ℕ, ◌+◌, [], pos, length}
use Rattle.std.specs.Hash as fed
use Rattle.std.specs.Hash.{HashWrites}
use Rattle.cedar_expr_model.specs.Name.{Name, name_text}
use Rattle.cedar_expr_model.specs.Value.{Literal, truth, long, text, entity, V, prim, set_of, record_of, extension, Vs, no_values, value, Fields, no_fields, field, values_list}

-- the place of a case among those of its type
abbrev pub place_input : ℕ → HashWrites
place_input n = fed.isize (pos n)

-- names by their texts
abbrev pub name_input : Name → HashWrites
name_input n = fed.str (name_text n)

abbrev pub literal_input : Literal → HashWrites
literal_input (truth b) = place_input 0 ++ fed.bool b
literal_input (long n) = place_input 1 ++ fed.i64 n
literal_input (text s) = place_input 2 ++ fed.str s
literal_input (entity u) = place_input 3 ++ (name_input u.kind ++ fed.str u.id)

-- how many fields
abbrev pub field_count : Fields → ℕ
field_count no_fields = 0
field_count (field a v fs) = field_count fs + 1

-- what a value feeds
abbrev mutual
  pub value_input : V → HashWrites
  value_input (prim p) = fed.u8 0 ++ literal_input p
  value_input (set_of vs) = fed.u8 1 ++ (fed.usize (length (values_list vs)) ++ members_input vs)
  value_input (record_of fs) = fed.u8 2 ++ (fed.usize (field_count fs) ++ fields_input fs)
  value_input (extension n k) = fed.u8 3 ++ (name_input n ++ fed.slice fed.u8 k)

  pub members_input : Vs → HashWrites
  members_input no_values = []
  members_input (value v vs) = value_input v ++ members_input vs

  pub fields_input : Fields → HashWrites
  fields_input no_fields = []
  fields_input (field a v fs) = fed.str a ++ (value_input v ++ fields_input fs)
