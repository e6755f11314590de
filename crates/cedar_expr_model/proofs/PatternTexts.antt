-- Patterns with the same text are the same.
use Rattle.std.proofs.Common.{◌≡◌, ℕ, ◌<◌, ◌^◌, [], ◌∷◌, ◌++◌, Bool, true, false, cond, ◌==◌, refl, sym, ap, ◌∙◌, subst}
use Rattle.std.proofs.lemmas.List.Concat.{flat_map-cons}
use Rattle.std.specs.Str.{all_scalars}
use Rattle.std.proofs.lemmas.Bool.Decides.{Decides-eqb}
use Rattle.cedar_expr_model.specs.Name.{Text}
use Rattle.cedar_expr_model.specs.Uid.{escaped}
use Rattle.cedar_expr_model.specs.Pattern.{Pattern, Element, character, wildcard}
use Rattle.cedar_expr_model.specs.Texts.{element_text, pattern_text}
use Rattle.cedar_expr_model.specs.TextLaws.{characters}
use Rattle.cedar_expr_model.proofs.Lists.{both_hold}
use Rattle.cedar_expr_model.proofs.Escapes.{differ, same_heads, two_heads, Form, quote, slash, plain, number, form, forms_apart, scalar_small}

-- How an element is written.
data Written : Element → Text → Type 0 where
  star : Written wildcard (42 ∷ [])
  starred : Written (character 42) (92 ∷ 42 ∷ [])
  other : {c : ℕ} {t : Text} → c == 42 ≡ false → Form c t → Written (character c) t

written_of : (c : ℕ) (b : Bool) → c == 42 ≡ b → Written (character c) (cond b (92 ∷ 42 ∷ []) (escaped c))
written_of c true e = let f = (Decides-eqb c 42).0 e in subst (λ x. Written (character x) (92 ∷ 42 ∷ [])) (sym f) starred
written_of c false e = other e (form c)

written : (a : Element) → Written a (element_text a)
written wildcard = star
written (character c) = written_of c (c == 42) refl

abbrev Chars : Element → Type 0
Chars wildcard = Unit {0}
Chars (character c) = c < 16 ^ 64

-- a character that is written as it stands or by its escape, beside one that a backslash stands before
escape_goes_on : (d : ℕ) (t r s : Text) → d == 42 ≡ false → Form d t → 92 ∷ 42 ∷ r ≡ t ++ s → ⊥
escape_goes_on d t r s n quote e = differ 42 34 refl (two_heads 92 92 42 34 r s e).0
escape_goes_on d t r s n slash e = differ 42 92 refl (two_heads 92 92 42 92 r s e).0
escape_goes_on d t r s n (plain {c = x} p q) e = q (sym (same_heads 92 x (42 ∷ r) s e).0)
escape_goes_on d t r s n (number {c = x}) e = differ 42 117 refl (two_heads 92 92 42 117 r _ e).0

-- no other character begins with the star of a wildcard
no_star : (d : ℕ) (t r s : Text) → d == 42 ≡ false → Form d t → 42 ∷ r ≡ t ++ s → ⊥
no_star d t r s n quote e = differ 42 92 refl (same_heads 42 92 r (34 ∷ s) e).0
no_star d t r s n slash e = differ 42 92 refl (same_heads 42 92 r (92 ∷ s) e).0
no_star d t r s n (plain {c = x} p q) e = differ x 42 n (sym (same_heads 42 x r s e).0)
no_star d t r s n (number {c = x}) e = differ 42 92 refl (same_heads 42 92 r _ e).0

-- equal texts begin with the same element
elements_apart : (a b : Element) (t u r s : Text) → Chars a → Chars b → Written a t → Written b u → t ++ r ≡ u ++ s → (a ≡ b) × (r ≡ s)
elements_apart a b t u r s m n star star e = (refl, (same_heads 42 42 r s e).1)
elements_apart a b t u r s m n star starred e = absurd (differ 42 92 refl (same_heads 42 92 r (42 ∷ s) e).0)
elements_apart a b t u r s m n star (other {c = d} {t = x} l g) e = absurd (no_star d x r s l g e)
elements_apart a b t u r s m n starred star e = absurd (differ 92 42 refl (same_heads 92 42 (42 ∷ r) s e).0)
elements_apart a b t u r s m n starred starred e = (refl, (two_heads 92 92 42 42 r s e).1)
elements_apart a b t u r s m n starred (other {c = d} {t = x} l g) e = absurd (escape_goes_on d x r s l g e)
elements_apart a b t u r s m n (other {c = c} {t = x} k f) star e = absurd (no_star c x s r k f (sym e))
elements_apart a b t u r s m n (other {c = c} {t = x} k f) starred e = absurd (escape_goes_on c x s r k f (sym e))
elements_apart a b t u r s m n (other {c = c} {t = x} k f) (other {c = d} {t = y} l g) e =
    let p = forms_apart c d x y r s m n f g e in (ap character p.0, p.1)

-- no element is written by nothing
element_goes_on : (a : Element) (t r : Text) → Written a t → t ++ r ≡ [] → ⊥
element_goes_on a t r star e = cc
element_goes_on a t r starred e = cc
element_goes_on a t r (other l quote) e = cc
element_goes_on a t r (other l slash) e = cc
element_goes_on a t r (other l (plain p q)) e = cc
element_goes_on a t r (other l number) e = cc

first_text : (a : Element) (p : Pattern) → pattern_text (a ∷ p) ≡ element_text a ++ pattern_text p
first_text a p = flat_map-cons element_text a p

first_scalar : (a : Element) (p : Pattern) → all_scalars (characters (a ∷ p)) ≡ true → Chars a × (all_scalars (characters p) ≡ true)
first_scalar wildcard p h = (tt, h)
first_scalar (character c) p h = let q = both_hold _ (all_scalars (characters p)) h in (scalar_small c q.0, q.1)

pub pattern_text_apart : (p q : Pattern) → all_scalars (characters p) ≡ true → all_scalars (characters q) ≡ true → pattern_text p ≡ pattern_text q → p ≡ q
pattern_text_apart [] [] h k e = refl
pattern_text_apart [] (b ∷ q) h k e = absurd (element_goes_on b (element_text b) (pattern_text q) (written b) (sym (e ∙ first_text b q)))
pattern_text_apart (a ∷ p) [] h k e = absurd (element_goes_on a (element_text a) (pattern_text p) (written a) (sym (first_text a p) ∙ e))
pattern_text_apart (a ∷ p) (b ∷ q) h k e =
    let m = first_scalar a p h in
    let n = first_scalar b q k in
    let r = elements_apart a b (element_text a) (element_text b) (pattern_text p) (pattern_text q) m.0 n.0 (written a) (written b) (sym (first_text a p) ∙ (e ∙ first_text b q)) in
    let g = r.0 in
    let i = pattern_text_apart p q m.1 n.1 r.1 in
    cc
