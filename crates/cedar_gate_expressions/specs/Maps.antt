-- What is read under the keys of an object, and what maps by such keys hold.
use Rattle.std.specs.Prelude.{◌≡◌, List, [], map, Option, Some, None, String, option_map}
use Rattle.std.specs.BTreeMap.{insert_entry}
use Rattle.std.specs.Cmp.Lexicographic.{slice_cmp}
use Rattle.std.specs.Ordering.{nat_cmp}
use Rattle.std.specs.Rc.{rc_str_bytes}
use Rattle.std.specs.declared.alloc.Global.{Global}
use Rattle.std.specs.declared.rc.RcStr.{RcStr}
use Rattle.serde_json.specs.Data.{Data}
use Rattle.serde_json.specs.View.{view, members_view}
use Rattle.serde_json.specs.declared.value.Value.{Value}
use Rattle.cedar_expr_model.specs.Name.{Text, is_identifier}
use Rattle.cedar_expr_model.specs.Lists.{when}
use Rattle.cedar_expr_names.specs.Views.{id_text}
use Rattle.cedar_expr_names.specs.declared.id.Id.{Id}
use Rattle.cedar_gate_model.specs.Reading.{each_member, list_of, members_of, optional}
use Rattle.cedar_gate_model.specs.ReadingForms.{read_as}

-- a member, with its key; and one whose key has to be an identifier
abbrev pub under_text : {A : Type 0} → (Data → Option A) → Text → Data → Option (Text × A)
under_text read k d = option_map (λ a. (k, a)) (read d)

abbrev pub under_word : {A : Type 0} → (Data → Option A) → Text → Data → Option (Text × A)
under_word read k d = when (is_identifier k) (under_text read k d)

-- what stands under texts, and under identifiers
abbrev pub texts_seen : {T A : Type 0} → (T → A) → List (RcStr Global × T) → List (Text × A)
texts_seen seen es = map (λ e. (rc_str_bytes e.0, seen e.1)) es

abbrev pub words_seen : {T A : Type 0} → (T → A) → List (Id × T) → List (Text × A)
words_seen seen es = map (λ e. (id_text e.0, seen e.1)) es

-- what is read under texts, or under identifiers, in members and in an object
abbrev pub texts_in : {A : Type 0} → (Data → Option A) → List (String Global × Value) → Option (List (Text × A))
texts_in read members = each_member (under_text read) (members_view members)

abbrev pub words_in : {A : Type 0} → (Data → Option A) → List (String Global × Value) → Option (List (Text × A))
words_in read members = each_member (under_word read) (members_view members)

abbrev pub texts_of : {A : Type 0} → (Data → Option A) → Value → Option (List (Text × A))
texts_of read value = members_of (under_text read) (view value)

abbrev pub words_of : {A : Type 0} → (Data → Option A) → Value → Option (List (Text × A))
words_of read value = members_of (under_word read) (view value)

-- what is read at a key: under texts, under identifiers, of a list, and of a value; nothing where the key is missing
abbrev pub texts_at : {A : Type 0} → Text → (Data → Option A) → Value → Option (List (Text × A))
texts_at key read value = optional key (members_of (under_text read)) [] (view value)

abbrev pub words_at : {A : Type 0} → Text → (Data → Option A) → Value → Option (List (Text × A))
words_at key read value = optional key (members_of (under_word read)) [] (view value)

abbrev pub list_at : {A : Type 0} → Text → (Data → Option A) → Value → Option (List A)
list_at key read value = optional key (list_of read) [] (view value)

abbrev pub value_at : {A : Type 0} → Text → (Data → Option A) → Value → Option (Option A)
value_at key read value = optional key (read_as Some read) None (view value)

-- a field is inserted under this name into a map
abbrev pub InsertsField : {T : Type 0} → Text → T → List (RcStr Global × T) → List (RcStr Global × T) → Type 0
InsertsField name field old new = (k : RcStr Global) × (rc_str_bytes k ≡ name) × (new ≡ insert_entry (λ s t. slice_cmp nat_cmp (rc_str_bytes s) (rc_str_bytes t)) old k field)
