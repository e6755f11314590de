-- The order of literals, values and core types: by kind, and in one kind by what it holds.
-- Rule: values and equality (docs/RULES.md).
use Rattle.std.specs.Prelude.{ℕ, Bool}
use Rattle.std.specs.Ordering.{nat_cmp, int_cmp, bool_cmp, ordering_then, is_eq}
use Rattle.std.specs.Cmp.Lexicographic.{slice_cmp}
use Rattle.std.specs.declared.cmp.Ordering.{Ordering}
use Rattle.std.specs.declared.cmp.Ordering.TheVariants.{Less, Equal, Greater}
use Rattle.cedar_expr_model.specs.Name.{Text, Name, name_text}
use Rattle.cedar_expr_model.specs.Uid.{Uid}
use Rattle.cedar_expr_model.specs.Tree.{CoreType, bool_core, long_core, string_core, set_core, record_core, entity_core, extension_core}
use Rattle.cedar_expr_model.specs.Value.{Literal, truth, long, text, entity, V, prim, set_of, record_of, extension, Vs, no_values, value, Fields, no_fields, field}

-- texts in byte order
abbrev pub text_cmp : Text → Text → Ordering
text_cmp s t = slice_cmp nat_cmp s t

-- Names by their texts, in byte order. Well-formed names of one text are the same; any others of one text are told apart by
-- their parts.
abbrev pub name_order : Name → Name → Ordering
name_order m n = ordering_then (text_cmp (name_text m) (name_text n)) (ordering_then (slice_cmp text_cmp m.path n.path) (text_cmp m.base n.base))

-- uids by their types and then by their ids
abbrev pub uid_order : Uid → Uid → Ordering
uid_order u v = ordering_then (name_order u.kind v.kind) (text_cmp u.id v.id)

-- truth values (false first), whole numbers, texts, uids
abbrev pub literal_rank : Literal → ℕ
literal_rank (truth b) = 0
literal_rank (long n) = 1
literal_rank (text s) = 2
literal_rank (entity u) = 3

abbrev pub literal_cmp : Literal → Literal → Ordering
literal_cmp (truth a) (truth b) = bool_cmp a b
literal_cmp (long m) (long n) = int_cmp m n
literal_cmp (text s) (text t) = text_cmp s t
literal_cmp (entity u) (entity v) = uid_order u v
literal_cmp p q = nat_cmp (literal_rank p) (literal_rank q)

-- literals, sets, records, extension values
abbrev pub rank : V → ℕ
rank (prim p) = 0
rank (set_of vs) = 1
rank (record_of fs) = 2
rank (extension n k) = 3

-- Values of one kind by what they hold: members and fields from the first that differs, a field by its name and then
-- its value, an extension value by its type and then its key.
abbrev mutual
  pub value_cmp : V → V → Ordering
  value_cmp (prim p) (prim q) = literal_cmp p q
  value_cmp (set_of vs) (set_of ws) = values_cmp vs ws
  value_cmp (record_of fs) (record_of gs) = fields_cmp fs gs
  value_cmp (extension m j) (extension n k) = ordering_then (name_order m n) (text_cmp j k)
  value_cmp v w = nat_cmp (rank v) (rank w)

  pub values_cmp : Vs → Vs → Ordering
  values_cmp no_values no_values = Equal
  values_cmp no_values (value w ws) = Less
  values_cmp (value v vs) no_values = Greater
  values_cmp (value v vs) (value w ws) = ordering_then (value_cmp v w) (values_cmp vs ws)

  pub fields_cmp : Fields → Fields → Ordering
  fields_cmp no_fields no_fields = Equal
  fields_cmp no_fields (field b w gs) = Less
  fields_cmp (field a v fs) no_fields = Greater
  fields_cmp (field a v fs) (field b w gs) = ordering_then (text_cmp a b) (ordering_then (value_cmp v w) (fields_cmp fs gs))

-- equal values are those between which the order finds no difference
abbrev pub value_eq : V → V → Bool
value_eq v w = is_eq (value_cmp v w)

-- core types: the plain ones, then entities and extension values by name
abbrev pub core_rank : CoreType → ℕ
core_rank bool_core = 0
core_rank long_core = 1
core_rank string_core = 2
core_rank set_core = 3
core_rank record_core = 4
core_rank (entity_core n) = 5
core_rank (extension_core n) = 6

abbrev pub core_cmp : CoreType → CoreType → Ordering
core_cmp (entity_core m) (entity_core n) = name_order m n
core_cmp (extension_core m) (extension_core n) = name_order m n
core_cmp a b = nat_cmp (core_rank a) (core_rank b)

-- equal core types
abbrev pub core_eq : CoreType → CoreType → Bool
core_eq a b = is_eq (core_cmp a b)
