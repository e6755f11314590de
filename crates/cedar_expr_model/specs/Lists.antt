-- Lists and options: what a test lets through, what a function finds in a list, or gives of it all, and whether a list rises.
-- Rule: values and equality; parts of an expression (docs/RULES.md).
use Rattle.std.specs.Prelude.{◌&&◌, List, [], ◌∷◌, Bool, true, false, Option, Some, None, option_map, option_and_then, if◌then◌else◌}
use Rattle.std.specs.Option.{option_or}
use Rattle.std.specs.Ordering.{is_lt}
use Rattle.std.specs.declared.cmp.Ordering.{Ordering}

-- what was found, where the test holds
abbrev pub when : {A : Type 0} → Bool → Option A → Option A
when test found = if test then found else None

-- it has no item
abbrev pub is_nil : {A : Type 0} → List A → Bool
is_nil [] = true
is_nil (x ∷ xs) = false

-- the first that the function finds in the list
abbrev pub first_found : {A B : Type 0} → (A → Option B) → List A → Option B
first_found f [] = None
first_found f (x ∷ xs) = option_or (f x) (first_found f xs)

-- what the function gives of each, if it gives something of all
abbrev pub all_given : {A B : Type 0} → (A → Option B) → List A → Option (List B)
all_given f [] = Some []
all_given f (x ∷ xs) = option_and_then (λ y. option_map (λ ys. y ∷ ys) (all_given f xs)) (f x)

-- each stands before the next, so none is repeated
abbrev pub rises : {A : Type 0} → (A → A → Ordering) → List A → Bool
rises order [] = true
rises order (x ∷ []) = true
rises order (x ∷ y ∷ ys) = is_lt (order x y) && rises order (y ∷ ys)
