-- Operators at the values of their operands. Where no clause says otherwise the operands have a wrong type.
-- Rule: the meaning (docs/RULES.md).
use Rattle.std.specs.Prelude.{◌&&◌, ℤ, pos, neg_ℤ, int_rem, List, length, Bool, not, Option, Some, option_map, if◌then◌else◌}
use Rattle.std.specs.Option.{option_map_or}
use Rattle.std.specs.Ordering.{int_cmp, int_eq}
use Rattle.std.specs.declared.cmp.Ordering.{Ordering}
use Rattle.cedar_expr_model.specs.Name.{Text, Name, name_eq}
use Rattle.cedar_expr_model.specs.Value.{truth, long, text, entity, V, prim, set_of, extension, Vs, values_list, truth_value}
use Rattle.cedar_expr_model.specs.Ranges.{is_long}
use Rattle.cedar_expr_model.specs.Lists.{is_nil}
use Rattle.cedar_expr_model.specs.Order.{text_cmp}
use Rattle.cedar_expr_model.specs.Canonical.{is_member}
use Rattle.cedar_expr_model.specs.Pattern.{Pattern, matches_text}
use Rattle.cedar_expr_model.specs.Tree.{UnaryOp, negation, minus, is_empty}
use Rattle.cedar_expr_model.specs.Table.{Table, Signature, signature_of, is_ordered, takes_count, are_of_types, Called, gives, fails, leaves}
use Rattle.cedar_store_model.specs.Outcome.{Res, val, err, wrong_type, overflow, zero_divisor, extension_failed, no_function, wrong_count}

-- the number, or an overflow
abbrev pub in_range : ℤ → Res V
in_range n = if is_long n then val (prim (long n)) else err overflow

abbrev pub says : Bool → Res V
says b = val (truth_value b)

-- Not of a truth value, minus of a whole number, emptiness of a set.
abbrev pub applied : UnaryOp → V → Res V
applied negation (prim (truth b)) = says (not b)
applied minus (prim (long n)) = in_range (neg_ℤ n)
applied is_empty (set_of vs) = says (is_nil (values_list vs))
applied o v = err wrong_type

-- Order: of two whole numbers, or of two values of one extension type that is ordered, by their keys.
abbrev pub ordered : Table → (Ordering → Bool) → V → V → Res V
ordered x test (prim (long m)) (prim (long n)) = says (test (int_cmp m n))
ordered x test (extension m j) (extension n k) = if name_eq m n && is_ordered x m then says (test (text_cmp j k)) else err wrong_type
ordered x test v w = err wrong_type

-- What the division of two whole numbers leaves: the quotient is rounded toward zero, so it has the sign of the dividend. The divisor
-- isn't zero.
abbrev pub remains : ℤ → ℤ → Res V
remains m n = if int_eq n (pos 0) then err zero_divisor else val (prim (long (int_rem m n)))

-- an operator of two whole numbers
abbrev pub calculated : (ℤ → ℤ → Res V) → V → V → Res V
calculated f (prim (long m)) (prim (long n)) = f m n
calculated f v w = err wrong_type

abbrev pub among_members : V → V → Res V
among_members (set_of vs) w = says (is_member w vs)
among_members v w = err wrong_type

-- a test of two sets
abbrev pub of_sets : (Vs → Vs → Bool) → V → V → Res V
of_sets test (set_of vs) (set_of ws) = says (test vs ws)
of_sets test v w = err wrong_type

-- the text matches the pattern
abbrev pub like_pattern : Pattern → V → Res V
like_pattern p (prim (text s)) = says (matches_text p s)
like_pattern p v = err wrong_type

-- the entity has the type
abbrev pub of_type : Name → V → Res V
of_type n (prim (entity u)) = says (name_eq u.kind n)
of_type n v = err wrong_type

-- an unknown that a call leaves has its value, if it is bound
abbrev pub answered : (Text → Option V) → Called → Option (Res V)
answered unknowns (gives v) = Some (val v)
answered unknowns (fails e) = Some (err (extension_failed e))
answered unknowns (leaves n) = option_map val (unknowns n)

-- What a call answers at its arguments. The function is looked up; then the count of the arguments and their types are asked for.
abbrev pub called_with : Table → (Text → Option V) → Name → List V → Signature → Option (Res V)
called_with x unknowns f vs s =
    if takes_count s (length vs) then (if are_of_types s.parameters vs then answered unknowns (x.answers f vs) else Some (err wrong_type)) else Some (err wrong_count)

abbrev pub called : Table → (Text → Option V) → Name → List V → Option (Res V)
called x unknowns f vs = option_map_or (called_with x unknowns f vs) (signature_of x f) (Some (err no_function))
