-- Escaped texts come apart: equal ones are of equal characters.
use Rattle.std.proofs.Common.{◌≡◌, ◌≢◌, ℕ, ◌<◌, ◌^◌, List, [], ◌∷◌, ◌++◌, Bool, true, false, cond, ◌&&◌, ◌==◌, refl, sym, ap, ◌∙◌, subst, append_assoc, lt_trans, lit<, lit≤, arith}
use Rattle.std.specs.Prelude.{nat_le}
use Rattle.std.specs.List.{flat_map}
use Rattle.std.specs.Fmt.{digits}
use Rattle.std.specs.Char.{digit_value, IsScalar}
use Rattle.std.specs.Str.{all_scalars}
use Rattle.std.specs.Str.Parse.{AllDigits, digits_value}
use Rattle.std.proofs.lemmas.Fmt.{digits_is_IsNumeral}
use Rattle.std.proofs.lemmas.Bool.Decides.{Decides-eqb}
use lib.Utf8.{scalar_fits}
use Rattle.cedar_expr_model.specs.Name.{Text}
use Rattle.cedar_expr_model.specs.Uid.{escaped}
use Rattle.cedar_expr_model.proofs.Lists.{both_hold}

-- two numbers that the test tells apart
pub differ : (a b : ℕ) → a == b ≡ false → a ≡ b → ⊥
differ a b e h = let k = (Decides-eqb a b).1 h in cc

pub apart_from : (a b : ℕ) → a == b ≡ false → a ≢ b
apart_from a b e h = differ a b e h

-- This byte is not in the text.
abbrev pub Lacks : ℕ → Text → Type 0
Lacks q [] = Unit {0}
Lacks q (b ∷ bs) = (b ≢ q) × Lacks q bs

pub Lacks-append : (q : ℕ) (a b : Text) → Lacks q a → Lacks q b → Lacks q (a ++ b)
Lacks-append q [] b h k = k
Lacks-append q (x ∷ a) b h k = (h.0, Lacks-append q a b h.1 k)

pub same_heads : (x y : ℕ) (a b : Text) → x ∷ a ≡ y ∷ b → (x ≡ y) × (a ≡ b)
same_heads x y a b e = (cc, cc)

pub two_heads : (x y v w : ℕ) (a b : Text) → x ∷ v ∷ a ≡ y ∷ w ∷ b → (v ≡ w) × (a ≡ b)
two_heads x y v w a b e = (cc, cc)

-- two texts are the same up to the first such byte
pub split_at : (q : ℕ) (a b r s : Text) → Lacks q a → Lacks q b → a ++ q ∷ r ≡ b ++ q ∷ s → (a ≡ b) × (r ≡ s)
split_at q [] [] r s h k e = (refl, (same_heads q q r s e).1)
split_at q [] (y ∷ b) r s h k e = absurd (k.0 (sym (same_heads q y r (b ++ q ∷ s) e).0))
split_at q (x ∷ a) [] r s h k e = absurd (h.0 (same_heads x q (a ++ q ∷ r) s e).0)
split_at q (x ∷ a) (y ∷ b) r s h k e =
    let p = same_heads x y (a ++ q ∷ r) (b ++ q ∷ s) e in
    let u = split_at q a b r s h.1 k.1 p.1 in
    let f = p.0 in
    let g = u.0 in
    (cc, u.1)

-- the escape by a character's number
abbrev pub hexed : ℕ → Text
hexed c = 92 ∷ 117 ∷ 123 ∷ (digits 16 false c ++ 125 ∷ [])

-- How a character is escaped.
pub data Form : ℕ → Text → Type 0 where
  quote : Form 34 (92 ∷ 34 ∷ [])
  slash : Form 92 (92 ∷ 92 ∷ [])
  plain : {c : ℕ} → c ≢ 34 → c ≢ 92 → Form c (c ∷ [])
  number : {c : ℕ} → Form c (hexed c)

form_of : (c : ℕ) (a b p : Bool) → c == 34 ≡ a → c == 92 ≡ b → Form c (cond a (92 ∷ 34 ∷ []) (cond b (92 ∷ 92 ∷ []) (cond p (c ∷ []) (hexed c))))
form_of c true b p e f = subst (λ x. Form x (92 ∷ 34 ∷ [])) (sym ((Decides-eqb c 34).0 e)) quote
form_of c false true p e f = subst (λ x. Form x (92 ∷ 92 ∷ [])) (sym ((Decides-eqb c 92).0 f)) slash
form_of c false false true e f = plain (apart_from c 34 e) (apart_from c 92 f)
form_of c false false false e f = number

pub form : (c : ℕ) → Form c (escaped c)
form c = form_of c (c == 34) (c == 92) (nat_le 32 c && nat_le c 126) refl refl

-- digits hold no brace
digit_no_brace : (c : ℕ) → digit_value c < 16 → c ≢ 125
digit_no_brace c h e = let k : digit_value 125 < 16 = subst (λ x. digit_value x < 16) e h in omega arith

pub digits_no_brace : (ds : Text) → AllDigits 16 ds → Lacks 125 ds
digits_no_brace [] h = tt
digits_no_brace (d ∷ ds) h = (digit_no_brace d h.0, digits_no_brace ds h.1)

pub hexed_rest : (c : ℕ) (r : Text) → hexed c ++ r ≡ 92 ∷ 117 ∷ 123 ∷ (digits 16 false c ++ 125 ∷ r)
hexed_rest c r = ap (λ x. 92 ∷ 117 ∷ 123 ∷ x) (append_assoc (digits 16 false c) (125 ∷ []) r)

numbers_apart : (c d : ℕ) (r s : Text) → c < 16 ^ 64 → d < 16 ^ 64 → hexed c ++ r ≡ hexed d ++ s → (c ≡ d) × (r ≡ s)
numbers_apart c d r s m n e =
    let f : 92 ∷ 117 ∷ 123 ∷ (digits 16 false c ++ 125 ∷ r) ≡ 92 ∷ 117 ∷ 123 ∷ (digits 16 false d ++ 125 ∷ s) = sym (hexed_rest c r) ∙ (e ∙ hexed_rest d s) in
    let g = (same_heads 123 123 (digits 16 false c ++ 125 ∷ r) (digits 16 false d ++ 125 ∷ s) (two_heads 92 92 117 117 _ _ f).1).1 in
    let u = digits_is_IsNumeral 16 false (lit≤ tt) (lit≤ tt) c m in
    let v = digits_is_IsNumeral 16 false (lit≤ tt) (lit≤ tt) d n in
    let w = split_at 125 (digits 16 false c) (digits 16 false d) r s (digits_no_brace (digits 16 false c) (u.0).1) (digits_no_brace (digits 16 false d) (v.0).1) g in
    (sym u.1 ∙ (ap (digits_value 16) w.0 ∙ v.1), w.1)

-- equal texts begin with the same character
pub forms_apart : (c d : ℕ) (t u r s : Text) → c < 16 ^ 64 → d < 16 ^ 64 → Form c t → Form d u → t ++ r ≡ u ++ s → (c ≡ d) × (r ≡ s)
forms_apart c d t u r s m n quote quote e = (refl, (two_heads 92 92 34 34 r s e).1)
forms_apart c d t u r s m n quote slash e = absurd (differ 34 92 refl (two_heads 92 92 34 92 r s e).0)
forms_apart c d t u r s m n quote (plain {c = x} p q) e = absurd (q (sym (same_heads 92 x (34 ∷ r) s e).0))
forms_apart c d t u r s m n quote (number {c = x}) e = absurd (differ 34 117 refl (two_heads 92 92 34 117 r _ e).0)
forms_apart c d t u r s m n slash quote e = absurd (differ 92 34 refl (two_heads 92 92 92 34 r s e).0)
forms_apart c d t u r s m n slash slash e = (refl, (two_heads 92 92 92 92 r s e).1)
forms_apart c d t u r s m n slash (plain {c = x} p q) e = absurd (q (sym (same_heads 92 x (92 ∷ r) s e).0))
forms_apart c d t u r s m n slash (number {c = x}) e = absurd (differ 92 117 refl (two_heads 92 92 92 117 r _ e).0)
forms_apart c d t u r s m n (plain {c = x} p q) quote e = absurd (q (same_heads x 92 r (34 ∷ s) e).0)
forms_apart c d t u r s m n (plain {c = x} p q) slash e = absurd (q (same_heads x 92 r (92 ∷ s) e).0)
forms_apart c d t u r s m n (plain {c = x} p q) (plain {c = y} p' q') e = same_heads x y r s e
forms_apart c d t u r s m n (plain {c = x} p q) (number {c = y}) e = absurd (q (same_heads x 92 r _ e).0)
forms_apart c d t u r s m n (number {c = x}) quote e = absurd (differ 117 34 refl (two_heads 92 92 117 34 _ s e).0)
forms_apart c d t u r s m n (number {c = x}) slash e = absurd (differ 117 92 refl (two_heads 92 92 117 92 _ s e).0)
forms_apart c d t u r s m n (number {c = x}) (plain {c = y} p q) e = absurd (q (sym (same_heads 92 y _ s e).0))
forms_apart c d t u r s m n (number {c = x}) (number {c = y}) e = numbers_apart x y r s m n e

-- no escape begins with the quote that ends a text
form_goes_on : (c : ℕ) (t r : Text) → Form c t → t ++ r ≡ 34 ∷ [] → ⊥
form_goes_on c t r quote e = differ 92 34 refl (same_heads 92 34 (34 ∷ r) [] e).0
form_goes_on c t r slash e = differ 92 34 refl (same_heads 92 34 (92 ∷ r) [] e).0
form_goes_on c t r (plain {c = x} p q) e = p (same_heads x 34 r [] e).0
form_goes_on c t r (number {c = x}) e = differ 92 34 refl (same_heads 92 34 _ [] e).0

pub scalar_small : (c : ℕ) → IsScalar c → c < 16 ^ 64
scalar_small c h = lt_trans (scalar_fits c h) (lit< tt)

-- equal escaped texts are of the same characters
pub same_characters : (cs ds : List ℕ) → all_scalars cs ≡ true → all_scalars ds ≡ true → flat_map escaped cs ++ 34 ∷ [] ≡ flat_map escaped ds ++ 34 ∷ [] → cs ≡ ds
same_characters [] [] h k e = refl
same_characters [] (d ∷ ds) h k e = absurd (form_goes_on d (escaped d) (flat_map escaped ds ++ 34 ∷ []) (form d) (sym (append_assoc (escaped d) (flat_map escaped ds) (34 ∷ [])) ∙ sym e))
same_characters (c ∷ cs) [] h k e = absurd (form_goes_on c (escaped c) (flat_map escaped cs ++ 34 ∷ []) (form c) (sym (append_assoc (escaped c) (flat_map escaped cs) (34 ∷ [])) ∙ e))
same_characters (c ∷ cs) (d ∷ ds) h k e =
    let p = both_hold _ (all_scalars cs) h in
    let q = both_hold _ (all_scalars ds) k in
    let f : escaped c ++ (flat_map escaped cs ++ 34 ∷ []) ≡ escaped d ++ (flat_map escaped ds ++ 34 ∷ []) = sym (append_assoc (escaped c) (flat_map escaped cs) (34 ∷ [])) ∙ (e ∙ append_assoc (escaped d) (flat_map escaped ds) (34 ∷ [])) in
    let r = forms_apart c d (escaped c) (escaped d) (flat_map escaped cs ++ 34 ∷ []) (flat_map escaped ds ++ 34 ∷ []) (scalar_small c p.0) (scalar_small d q.0) (form c) (form d) f in
    let g = r.0 in
    let i = same_characters cs ds p.1 q.1 r.1 in
    cc
