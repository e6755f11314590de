-- Reading names, uids and the types of unknowns. Outside a schema a reserved name is none.
-- Rule: what a bundle reads as (docs/RULES.md).
use Rattle.std.specs.Prelude.{List, [], ◌∷◌, not, codes, Option, None, option_map}
use Rattle.serde_json.specs.Data.{Data, Items, no_items, item}
use Rattle.serde_json.specs.Find.{as_str, as_array}
use Rattle.cedar_expr_model.specs.Name.{Text, Name, name_read, is_reserved}
use Rattle.cedar_expr_model.specs.Uid.{Uid}
use Rattle.cedar_expr_model.specs.Tree.{CoreType, bool_core, long_core, string_core, set_core, record_core, entity_core, extension_core}
use Rattle.cedar_gate_model.specs.Reading.{given}
use Rattle.cedar_gate_model.specs.ReadingForms.{word_of, first_form, alone, if_passing, read_as}

-- a name of the grammar
abbrev pub any_name_read : Data → Option Name
any_name_read d = given (as_str d) name_read

-- a name of the grammar that is no reserved name
abbrev pub plain_name_read : Data → Option Name
plain_name_read d = given (any_name_read d) (if_passing (λ n. not (is_reserved n)))

-- the uid of a type and an id
abbrev pub uid_from : Option Name → Option Text → Option Uid
uid_from kind id = given kind (λ n. option_map (λ text. record { kind = n; id = text }) id)

-- a list of a type, read so, and an id
abbrev pub uid_in : (Data → Option Name) → Items → Option Uid
uid_in kind_read (item kind (item id no_items)) = uid_from (kind_read kind) (as_str id)
uid_in kind_read ds = None

-- a uid
abbrev pub uid_read : Data → Option Uid
uid_read d = given (as_array d) (uid_in plain_name_read)

-- a uid as it stands in a schema
abbrev pub declared_uid_read : Data → Option Uid
declared_uid_read d = given (as_array d) (uid_in any_name_read)

-- the types that are written as one word
abbrev pub core_words : List (Text × CoreType)
core_words = (codes "Bool", bool_core) ∷ (codes "Long", long_core) ∷ (codes "String", string_core) ∷ (codes "Set", set_core) ∷ (codes "Record", record_core) ∷ []

-- the type of an unknown
abbrev pub annotation_read : Data → Option CoreType
annotation_read d = first_form (word_of core_words ∷ alone (codes "entity") (read_as entity_core plain_name_read) ∷ alone (codes "ext") (read_as extension_core plain_name_read) ∷ []) d
