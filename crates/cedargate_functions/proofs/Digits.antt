-- Texts of one to four digits, and the numbers that they write.
use Rattle.std.proofs.Common.{◌≡◌, ℕ, ◌<◌, ◌≤◌, ◌&&◌, Bool, true, false, cond, List, [], ◌∷◌, length, Option, Some, None, Result, Ok, Err, refl, sym, ap, ◌∙◌, subst, arith}
use Rattle.std.specs.Char.{is_ascii_digit}
use Rattle.std.specs.List.{list_all}
use Rattle.std.specs.Prelude.{nat_le}
use Rattle.std.specs.Fmt.{decimal}
use Rattle.std.specs.Str.{all_ascii_digits}
use Rattle.std.specs.Str.Parse.{digits_value, ParsesUnsigned}
use Rattle.std.proofs.lemmas.Bool.{le-leb, leb-true, lt-leb}
use Rattle.std.proofs.lemmas.Option.{none-some, same_Some}
use Rattle.std.proofs.lemmas.Str.Parse.{IsNumeralModel, numerals_by_value, tells_all_ascii_digits, parse_gives, digits_value_short}
use Rattle.std.proofs.lemmas.Fmt.{digits_decimal, digits_value-decimal, length-decimal-le, decimal_nonempty}
use Rattle.cedar_expr_model.specs.Name.{Text}
use Rattle.cedar_expr_model.proofs.Lists.{both_hold, hold_both}
use Rattle.cedargate_functions.specs.Ranks.{writes_rank, rank_read}

own : IsNumeralModel (λ ds. all_ascii_digits ds ≡ true) (digits_value 10)
own = numerals_by_value _ tells_all_ascii_digits

-- what the test of a text says
pub record IsWritten (t : Text) : Type 0 where
  pub some : 1 ≤ length t
  pub few : length t ≤ 4
  pub digits : all_ascii_digits t ≡ true

pub is_written : (t : Text) → writes_rank t ≡ true → IsWritten t
is_written t h =
    let parts = both_hold _ (all_ascii_digits t) h in
    let lengths = both_hold (nat_le 1 (length t)) (nat_le (length t) 4) parts.0 in
    record { some = leb-true 1 (length t) lengths.0; few = leb-true (length t) 4 lengths.1; digits = parts.1 }

below : (t : Text) → IsWritten t → digits_value 10 t < 10000
below t h = digits_value_short own t 4 h.digits h.few

-- such a text is read as the number that it writes
pub read_is : {E : Type 0} (t : Text) (r : Result ℕ E) → writes_rank t ≡ true → ParsesUnsigned 16 10 t r → r ≡ Ok (digits_value 10 t)
read_is t r h p =
    let w = is_written t h in
    let small = below t w in
    parse_gives own 16 t r p w.digits (omega (arith, w.some)) (omega (arith, small))

chosen : (b : Bool) (v n : ℕ) → cond b (Some v) None ≡ Some n → (b ≡ true) × (v ≡ n)
chosen true v n h = (refl, same_Some v n h)
chosen false v n h = absurd (none-some n h)

-- a number that a text writes is below ten thousand
pub read_below : (t : Text) (n : ℕ) → rank_read t ≡ Some n → n < 10000
read_below t n h =
    let parts = chosen (writes_rank t) (digits_value 10 t) n h in
    subst (λ m. m < 10000) parts.1 (below t (is_written t parts.0))

-- the decimal text of such a number writes it
pub decimal_read : (n : ℕ) → n < 10000 → rank_read (decimal n) ≡ Some n
decimal_read n h =
    let some = le-leb 1 (length (decimal n)) (omega (arith, decimal_nonempty n (omega arith))) in
    let few = le-leb (length (decimal n)) 4 (length-decimal-le 4 n (omega arith) (omega arith) (omega arith)) in
    let digits = digits_decimal own n (omega arith) in
    let writes : writes_rank (decimal n) ≡ true = hold_both _ (all_ascii_digits (decimal n)) (hold_both (nat_le 1 (length (decimal n))) (nat_le (length (decimal n)) 4) some few) digits in
    ap (λ b. cond b (Some (digits_value 10 (decimal n))) None) writes ∙ ap Some (digits_value-decimal own n (omega arith))

-- a text of another length writes none
fails_second : (a d : Bool) → ((a && false) && d) ≡ false
fails_second true d = refl
fails_second false d = refl

pub too_short : (t : Text) → length t < 1 → false ≡ writes_rank t
too_short t h = sym (ap (λ b. (b && nat_le (length t) 4) && all_ascii_digits t) (lt-leb 1 (length t) h))

pub too_long : (t : Text) → 4 < length t → false ≡ writes_rank t
too_long t h = sym (ap (λ b. (nat_le 1 (length t) && b) && all_ascii_digits t) (lt-leb (length t) 4 h) ∙ fails_second (nat_le 1 (length t)) (all_ascii_digits t))

-- and of a right length what tells is whether there are digits alone
digits_alone : (t : Text) → list_all is_ascii_digit t ≡ all_ascii_digits t
digits_alone [] = refl
digits_alone (c ∷ cs) = ap (λ b. is_ascii_digit c && b) (digits_alone cs)

pub right_length : (t : Text) → 1 ≤ length t → length t ≤ 4 → list_all is_ascii_digit t ≡ writes_rank t
right_length t some few =
    digits_alone t
    ∙ sym (ap (λ b. (b && nat_le (length t) 4) && all_ascii_digits t) (le-leb 1 (length t) some)
    ∙ ap (λ b. (true && b) && all_ascii_digits t) (le-leb (length t) 4 few))

-- what `parse` gives of a text that is read, and of one that isn't
pub read_there : {E : Type 0} (t : Text) (r : Result ℕ E) (n : ℕ) → writes_rank t ≡ true → ParsesUnsigned 16 10 t r → r ≡ Ok n → Some n ≡ rank_read t
read_there t r n h p e =
    let is = read_is t r h p in
    let same : n ≡ digits_value 10 t = cc in
    ap Some same ∙ sym (ap (λ b. cond b (Some (digits_value 10 t)) None) h)

pub none_there : {E : Type 0} (t : Text) (r : Result ℕ E) (x : E) → writes_rank t ≡ true → ParsesUnsigned 16 10 t r → r ≡ Err x → None ≡ rank_read t
none_there t r x h p e =
    let is = read_is t r h p in
    absurd (cc)
