-- What the functions `rank` and `label` answer.
-- Rule: extension functions (docs/RULES.md).
use Rattle.std.specs.Prelude.{ℕ, ◌+◌, ◌*◌, ◌/◌, ◌%◌, ◌&&◌, List, [], ◌∷◌, length, nat_le, Bool, Option, Some, None, if◌then◌else◌, option_and_then, codes}
use Rattle.std.specs.Option.{option_map_or}
use Rattle.std.specs.Str.{all_ascii_digits}
use Rattle.std.specs.Str.Parse.{digits_value}
use Rattle.std.specs.Fmt.{decimal}
use Rattle.cedar_expr_model.specs.Name.{Text, Name, name_eq}
use Rattle.cedar_expr_model.specs.Names.{unqualified}
use Rattle.cedar_expr_model.specs.Made.{Made, made_prim, made_extension, bare}
use Rattle.cedar_expr_model.specs.Table.{Called, gives, fails}
use Rattle.cedar_expr_model.specs.Value.{V, prim, text, extension}
use Rattle.cedar_evaluator_model.specs.Scope.{MadeCalled, makes, faults}

-- the name of the type of ranks, of their extension and of the function that makes them
abbrev pub rank_name : Name
rank_name = unqualified (codes "rank")

abbrev pub label_name : Name
label_name = unqualified (codes "label")

-- one to four digits
abbrev pub writes_rank : Text → Bool
writes_rank t = (nat_le 1 (length t) && nat_le (length t) 4) && all_ascii_digits t

-- the number that these write
abbrev pub rank_read : Text → Option ℕ
rank_read t = if writes_rank t then Some (digits_value 10 t) else None

-- the number in two bytes, the higher first
abbrev pub rank_key : ℕ → Text
rank_key n = n / 256 ∷ n % 256 ∷ []

-- The rank of a number. It is written as the call of `rank` on the number's decimal text.
abbrev pub rank_made : ℕ → Made
rank_made n = made_extension rank_name (rank_key n) rank_name (text (decimal n) ∷ [])

-- the decimal text of a number
abbrev pub label_made : ℕ → Made
label_made n = made_prim (text (decimal n))

-- the number that a single text writes
abbrev pub number_read : List Made → Option ℕ
number_read (made_prim (text t) ∷ []) = rank_read t
number_read ms = None

-- the number in two bytes, the higher first
abbrev pub kept_in : Text → Option ℕ
kept_in (high ∷ low ∷ []) = Some (high * 256 + low)
kept_in t = None

-- the number in the key of a single extension value
abbrev pub number_kept : List Made → Option ℕ
number_kept (made_extension k t f ps ∷ []) = kept_in t
number_kept ms = None

-- what the functions answer: `rank` the rank of the number that a text writes, `label` the text of a rank's number; else a fault
abbrev pub ranked : List Made → MadeCalled
ranked ms = option_map_or (λ n. makes (rank_made n)) (number_read ms) (faults rank_name)

abbrev pub labelled : List Made → MadeCalled
labelled ms = option_map_or (λ n. makes (label_made n)) (number_kept ms) (faults rank_name)

-- what the function of a name answers
abbrev pub rank_calls : Name → List Made → MadeCalled
rank_calls f ms = if name_eq f rank_name then ranked ms else labelled ms

-- what the functions answer for values without the calls that made them
abbrev pub bare_number_read : List V → Option ℕ
bare_number_read (prim (text t) ∷ []) = rank_read t
bare_number_read vs = None

abbrev pub bare_number_kept : List V → Option ℕ
bare_number_kept (extension k t ∷ []) = kept_in t
bare_number_kept vs = None

abbrev pub rank_answers : Name → List V → Called
rank_answers f vs = if name_eq f rank_name then option_map_or (λ n. gives (bare (rank_made n))) (bare_number_read vs) (fails rank_name) else option_map_or (λ n. gives (bare (label_made n))) (bare_number_kept vs) (fails rank_name)
