-- A uid is found again from its text.
use Rattle.std.proofs.Common.{◌≡◌, ◌≢◌, ◌≤◌, ◌<◌, ◌^◌, ℕ, zero, suc, List, [], ◌∷◌, ◌++◌, Bool, true, false, cond, ◌==◌, ◌||◌, Option, Some, length, refl, ap, ◌∙◌, append_assoc, arith}
use Rattle.std.specs.Prelude.{option_map}
use Rattle.std.specs.Char.{is_ascii}
use Rattle.std.specs.List.{flat_map, list_all}
use Rattle.std.specs.Fmt.{digits}
use Rattle.std.specs.Str.{chars, encode_utf8_all, all_scalars, IsAscii, IsUtf8, is_utf8}
use Rattle.std.specs.Str.Parse.{digits_value}
use Rattle.std.proofs.lemmas.Bool.Decides.{Decides-eqb}
use Rattle.std.proofs.lemmas.Fmt.{digits_is_IsNumeral}
use Rattle.std.proofs.lemmas.List.{length-append}
use Rattle.std.proofs.lemmas.Str.{encodes-chars, scalars-chars, IsUtf8-from_ascii, IsUtf8-from_is_utf8}
use Rattle.std.proofs.Common.{lit≤, lit<}
use Rattle.std.proofs.lemmas.Bool.{ltb-true}
use Rattle.cedar_expr_model.specs.Name.{Text, name_read, name_text, colons, is_well_formed}
use Rattle.cedar_expr_model.specs.Uid.{Uid, uid_text, escaped}
use Rattle.cedar_expr_model.specs.Uids.{is_text, is_uid}
use Rattle.cedar_expr_model.proofs.Lists.{both_hold}
use Rattle.cedar_expr_model.proofs.Reading.{writes_read}
use Rattle.cedar_expr_model.proofs.Escapes.{Lacks, Form, quote, slash, plain, number, form, hexed_rest, scalar_small, digits_no_brace}
use Rattle.cedar_expr_model.proofs.UidText.{name_lacks, uid_text_is, inside}

-- what stands before the first such byte, and what stands behind it
abbrev before : ℕ → Text → Text
before q [] = []
before q (b ∷ bs) = cond (b == q) [] (b ∷ before q bs)

abbrev behind : ℕ → Text → Text
behind q [] = []
behind q (b ∷ bs) = cond (b == q) bs (behind q bs)

is_other : (a b : ℕ) (t : Bool) → a == b ≡ t → a ≢ b → t ≡ false
is_other a b true e n = absurd (n ((Decides-eqb a b).0 e))
is_other a b false e n = refl

before_is : (q : ℕ) (a r : Text) → Lacks q a → before q (a ++ q ∷ r) ≡ a
before_is q [] r h = ap (λ t. cond t [] (q ∷ before q r)) ((Decides-eqb q q).1 refl)
before_is q (b ∷ a) r h = ap (λ t. cond t [] (b ∷ before q (a ++ q ∷ r))) (is_other b q (b == q) refl h.0) ∙ ap (λ z. b ∷ z) (before_is q a r h.1)

behind_is : (q : ℕ) (a r : Text) → Lacks q a → behind q (a ++ q ∷ r) ≡ r
behind_is q [] r h = ap (λ t. cond t r (behind q r)) ((Decides-eqb q q).1 refl)
behind_is q (b ∷ a) r h = ap (λ t. cond t (a ++ q ∷ r) (behind q (a ++ q ∷ r))) (is_other b q (b == q) refl h.0) ∙ behind_is q a r h.1

-- all but the last two bytes
abbrev front : Text → Text
front [] = []
front (b ∷ []) = []
front (b ∷ c ∷ []) = []
front (b ∷ c ∷ d ∷ bs) = b ∷ front (c ∷ d ∷ bs)

front_is : (t : Text) (x y : ℕ) → front (t ++ x ∷ y ∷ []) ≡ t
front_is [] x y = refl
front_is (b ∷ []) x y = refl
front_is (b ∷ c ∷ []) x y = refl
front_is (b ∷ c ∷ d ∷ t) x y = ap (λ z. b ∷ z) (front_is (c ∷ d ∷ t) x y)

-- the character that a text begins with, read back from its escape, and what follows it
abbrev numbered : Text → ℕ × Text
numbered bs = (digits_value 16 (before 125 bs), behind 125 bs)

abbrev past : Text → Text
past [] = []
past (b ∷ bs) = bs

abbrev after_slash : Text → ℕ × Text
after_slash [] = (0, [])
after_slash (b ∷ bs) = cond (b == 117) (numbered (past bs)) (b, bs)

abbrev next : Text → ℕ × Text
next [] = (0, [])
next (b ∷ bs) = cond (b == 92) (after_slash bs) (b, bs)

number_is : (c : ℕ) (r : Text) → c < 16 ^ 64 → numbered (digits 16 false c ++ 125 ∷ r) ≡ (c, r)
number_is c r m =
    let u = digits_is_IsNumeral 16 false (lit≤ tt) (lit≤ tt) c m in
    let l = digits_no_brace (digits 16 false c) (u.0).1 in
    λ i. ((ap (digits_value 16) (before_is 125 (digits 16 false c) r l) ∙ u.1) i, behind_is 125 (digits 16 false c) r l i)

next_is : (c : ℕ) (t r : Text) → c < 16 ^ 64 → Form c t → next (t ++ r) ≡ (c, r)
next_is c t r m quote = refl
next_is c t r m slash = refl
next_is c t r m (plain {c = x} p q) = ap (λ z. cond z (after_slash r) (x, r)) (is_other x 92 (x == 92) refl q)
next_is c t r m (number {c = x}) = ap next (hexed_rest x r) ∙ number_is x r m

-- the characters up to the quote that ends a text
abbrev ends : Text → Bool
ends [] = true
ends (b ∷ bs) = b == 34

goes_on : (c : ℕ) (t r : Text) → Form c t → ends (t ++ r) ≡ false
goes_on c t r quote = refl
goes_on c t r slash = refl
goes_on c t r (plain {c = x} p q) = is_other x 34 (x == 34) refl p
goes_on c t r (number {c = x}) = refl

abbrev characters : ℕ → Text → List ℕ
characters zero t = []
characters (suc n) t = cond (ends t) [] ((next t).0 ∷ characters n (next t).1)

characters_are : (n : ℕ) (cs : List ℕ) → length cs < n → all_scalars cs ≡ true → characters n (flat_map escaped cs ++ 34 ∷ []) ≡ cs
characters_are zero cs l h = absurd (omega (arith, l))
characters_are (suc n) [] l h = refl
characters_are (suc n) (c ∷ cs) l h =
    let p = both_hold _ (all_scalars cs) h in
    let r = flat_map escaped cs ++ 34 ∷ [] in
    let is = next_is c (escaped c) r (scalar_small c p.0) (form c) in
    ap (characters (suc n)) (append_assoc (escaped c) (flat_map escaped cs) (34 ∷ []))
    ∙ ap (λ t. cond t [] ((next (escaped c ++ r)).0 ∷ characters n (next (escaped c ++ r)).1)) (goes_on c (escaped c) r (form c))
    ∙ ap (λ z. z.0 ∷ characters n z.1) is
    ∙ ap (λ z. c ∷ z) (characters_are n cs (omega (arith, l)) p.1)

-- there are no more characters than bytes
form_counts : (c : ℕ) (t : Text) → Form c t → 1 ≤ length t
form_counts c t quote = omega arith
form_counts c t slash = omega arith
form_counts c t (plain p q) = omega arith
form_counts c t number = omega arith

counted : (cs : List ℕ) → length cs < length (flat_map escaped cs ++ 34 ∷ [])
counted [] = omega arith
counted (c ∷ cs) =
    let f = form_counts c (escaped c) (form c) in
    let g = counted cs in
    let e = ap length (append_assoc (escaped c) (flat_map escaped cs) (34 ∷ [])) ∙ length-append (escaped c) (flat_map escaped cs ++ 34 ∷ []) in
    omega (arith, f, g, e)

-- a text is UTF-8
all_ascii : (t : Text) → list_all is_ascii t ≡ true → IsAscii t
all_ascii [] h i = lit< tt
all_ascii (b ∷ bs) h zero = ltb-true b 128 (both_hold (is_ascii b) (list_all is_ascii bs) h).0
all_ascii (b ∷ bs) h (suc i) = all_ascii bs (both_hold (is_ascii b) (list_all is_ascii bs) h).1 i

by_text : (t : Text) (a b : Bool) → list_all is_ascii t ≡ a → is_utf8 t ≡ b → (a || b) ≡ true → IsUtf8 t
by_text t true b e f h = IsUtf8-from_ascii t (all_ascii t e)
by_text t false true e f h = IsUtf8-from_is_utf8 t f
by_text t false false e f h = cc

pub is_text_utf8 : (t : Text) → is_text t ≡ true → IsUtf8 t
is_text_utf8 t h = by_text t (list_all is_ascii t) (is_utf8 t) refl refl h

-- the uid that a text is that of
abbrev pub uid_read : Text → Option Uid
uid_read t = option_map (λ k. record { kind = k; id = encode_utf8_all (characters (length (behind 34 t)) (behind 34 t)) }) (name_read (front (before 34 t)))

pub uids_are_read : (u : Uid) → is_uid u ≡ true → uid_read (uid_text u) ≡ Some u
uids_are_read u h =
    let p = both_hold (is_well_formed u.kind) _ h in
    let i = is_text_utf8 u.id p.1 in
    let cs = chars u.id in
    let lacks = name_lacks u.kind p.0 in
    let kind = ap front (before_is 34 (name_text u.kind ++ colons) (inside u) lacks) ∙ front_is (name_text u.kind) 58 58 in
    let rest = behind_is 34 (name_text u.kind ++ colons) (inside u) lacks in
    let read = ap encode_utf8_all (characters_are (length (inside u)) cs (counted cs) (scalars-chars u.id i)) ∙ encodes-chars u.id i in
    ap uid_read (uid_text_is u)
    ∙ ap (λ z. option_map (λ k. record { kind = k; id = encode_utf8_all (characters (length z) z) }) (name_read (front (before 34 ((name_text u.kind ++ colons) ++ 34 ∷ inside u))))) rest
    ∙ ap (λ o. option_map (λ k. record { kind = k; id = encode_utf8_all (characters (length (inside u)) (inside u)) }) o) (ap name_read kind ∙ writes_read (name_text u.kind) u.kind (record { parts = p.0; whole = refl }))
    ∙ ap (λ z. Some (record { kind = u.kind; id = z })) read
