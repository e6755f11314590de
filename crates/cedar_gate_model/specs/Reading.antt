-- Reading JSON: the forms that parts of a bundle share. None says that a form is wrong.
-- Rule: what a bundle reads as (docs/RULES.md).
use Rattle.std.specs.Prelude.{ℕ, ◌&&◌, List, [], ◌∷◌, Bool, true, false, Option, Some, None, option_map, option_and_then, unwrap_or}
use Rattle.std.specs.List.{list_any}
use Rattle.std.specs.Str.{bytes_eq}
use Rattle.serde_json.specs.Data.{Data, Items, no_items, item, Members, no_members, member}
use Rattle.serde_json.specs.Find.{get, as_number, as_u64, as_array, as_object}
use Rattle.cedar_expr_model.specs.Name.{Text}

-- what comes next takes what was read, if it was
abbrev pub given : {A B : Type 0} → Option A → (A → Option B) → Option B
given None next = None
given (Some a) next = next a

-- The value at a key, which has to be there, is read.
abbrev pub required : {A : Type 0} → Text → (Data → Option A) → Data → Option A
required key read d = given (get key d) read

-- what is read at a key that may lack: this where it lacks
abbrev pub if_there : {A : Type 0} → (Data → Option A) → A → Option Data → Option A
if_there read lacking None = Some lacking
if_there read lacking (Some d) = read d

-- The value at a key is read, if there is one.
abbrev pub optional : {A : Type 0} → Text → (Data → Option A) → A → Data → Option A
optional key read lacking d = if_there read lacking (get key d)

-- The value at a key passes the test, or the key lacks.
abbrev pub may_be : Text → (Data → Bool) → Data → Bool
may_be key test d = unwrap_or (option_map test (get key d)) true

-- each key is one of these
abbrev pub are_among : List Text → Members → Bool
are_among keys no_members = true
are_among keys (member k d ms) = list_any (λ key. bytes_eq key k) keys && are_among keys ms

-- an object that has no other key than these
abbrev pub has_only : List Text → Data → Bool
has_only keys d = unwrap_or (option_map (are_among keys) (as_object d)) false

-- an object without members
abbrev pub is_empty_object : Data → Bool
is_empty_object d = has_only [] d

-- no items
abbrev pub is_without_items : Items → Bool
is_without_items no_items = true
is_without_items (item d ds) = false

-- a list without items
abbrev pub is_empty_list : Data → Bool
is_empty_list d = unwrap_or (option_map is_without_items (as_array d)) false

-- Each item is read, in their order.
abbrev pub each : {A : Type 0} → (Data → Option A) → Items → Option (List A)
each read no_items = Some []
each read (item d ds) = given (read d) (λ a. option_map (λ more. a ∷ more) (each read ds))

-- the same of a list
abbrev pub list_of : {A : Type 0} → (Data → Option A) → Data → Option (List A)
list_of read d = given (as_array d) (each read)

-- Each member is read, from its key and its value, in the order of the keys.
abbrev pub each_member : {A : Type 0} → (Text → Data → Option A) → Members → Option (List A)
each_member read no_members = Some []
each_member read (member k d ms) = given (read k d) (λ a. option_map (λ more. a ∷ more) (each_member read ms))

-- the same of an object
abbrev pub members_of : {A : Type 0} → (Text → Data → Option A) → Data → Option (List A)
members_of read d = given (as_object d) (each_member read)

-- a whole number that is not negative
abbrev pub count_read : Data → Option ℕ
count_read d = option_and_then as_u64 (as_number d)
