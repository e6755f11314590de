-- Reading JSON: further forms that parts of a bundle share.
-- Rule: what a bundle reads as (docs/RULES.md).
use Rattle.std.specs.Prelude.{◌&&◌, ◌==◌, ℕ, List, [], ◌∷◌, Bool, false, nat_le, Option, Some, option_map, unwrap_or}
use Rattle.std.specs.Str.{bytes_eq}
use Rattle.serde_json.specs.Data.{Data}
use Rattle.serde_json.specs.Find.{as_str}
use Rattle.cedar_expr_model.specs.Name.{Text}
use Rattle.cedar_gate_model.specs.Reading.{given, required, has_only, count_read}
use Rattle.std.specs.Map.{lookup}
use Rattle.cedar_expr_model.specs.Lists.{first_found, when}

-- a text that is one of these words
abbrev pub word_of : {A : Type 0} → List (Text × A) → Data → Option A
word_of words d = given (as_str d) (λ word. lookup (bytes_eq word) words)

-- the first of these forms that it has
abbrev pub first_form : {A : Type 0} → List (Data → Option A) → Data → Option A
first_form forms d = first_found (λ form. form d) forms

-- what is made of what is read
abbrev pub read_as : {A B : Type 0} → (A → B) → (Data → Option A) → Data → Option B
read_as make read d = option_map make (read d)

-- an object with this key alone, whose value is read
abbrev pub alone : {A : Type 0} → Text → (Data → Option A) → Data → Option A
alone key read d = when (has_only (key ∷ []) d) (required key read d)

-- what was read, where it passes the test
abbrev pub if_passing : {A : Type 0} → (A → Bool) → A → Option A
if_passing test a = when (test a) (Some a)

-- a whole number from low to high
abbrev pub number_between : ℕ → ℕ → Data → Option ℕ
number_between low high d = given (count_read d) (if_passing (λ n. nat_le low n && nat_le n high))

-- this number, and no other
abbrev pub is_number : ℕ → Data → Bool
is_number n d = unwrap_or (option_map (λ m. m == n) (count_read d)) false
