-- What is kept by now and was not before, by the log of the writes: what is wanted besides.
use Rattle.std.proofs.Common.{◌≡◌, inl, inr, ℕ, zero, suc, List, [], ◌∷◌, Contains, Option, Some, None, ◌<◌, refl, sym, ◌∙◌, subst, ap, arith}
use Rattle.std.specs.Prelude.{IsSome, is_some, true, false}
use Rattle.cedar_expr_model.specs.Uid.{Uid}
use Rattle.cedar_gate_wanted.specs.Kept.{IsUndo, IsWrite, IsWritten}

nothing : (o : Option ℕ) → o ≡ None → IsSome o → ⊥
nothing o e s = let t : is_some o ≡ true = s in let f : is_some o ≡ false = ap is_some e in cc

fresh_written : (log : List (Uid × Option ℕ)) (f g : Uid → Option ℕ) (q : Uid) → IsWritten log f g → f q ≡ None → IsSome (g q) → Contains log (q, None)
fresh_written [] f g q i none some = let e : g q ≡ None = i q ∙ none in absurd (nothing (g q) e some)
fresh_written ((u, o) ∷ log) f g q (h, v, i) none some = elim (v.apart q) [
  | inl this ↦ (let before : f u ≡ o = v.before in let at : f u ≡ None = subst (λ z. f z ≡ None) this none in let e : (u, o) ≡ (q, None) = cc in (0, omega arith, e))
  | inr same ↦ (let (k, lt, is) = fresh_written log h g q i (same ∙ none) some in (suc k, omega arith, is))
]

none_before : (u : Uid) (o : Option ℕ) (f h : Uid → Option ℕ) → IsWrite u o f h → (p : Option ℕ) → p ≡ o → h u ≡ None → p ≡ None
none_before u o f h v None e none = refl
none_before u o f h v (Some d) e none = let s : IsSome o = subst (λ x. IsSome x) e (refl) in absurd (nothing (h u) none (v.stays s))

from_written : (log : List (Uid × Option ℕ)) (f g : Uid → Option ℕ) (q : Uid) → IsWritten log f g → Contains log (q, None) → f q ≡ None
from_written [] f g q i (k, lt, is) = let e : k < 0 = lt in absurd (omega arith)
from_written ((u, o) ∷ log) f g q (h, v, i) (zero, lt, is) = let at : u ≡ q = ap (λ (x : Uid × Option ℕ). x.0) is in let no : o ≡ None = ap (λ (x : Uid × Option ℕ). x.1) is in ap f (sym at) ∙ v.before ∙ no
from_written ((u, o) ∷ log) f g q (h, v, i) (suc k, lt, is) =
    let later : h q ≡ None = from_written log h g q i (k, omega arith, is) in
    elim (v.apart q) [
      | inl this ↦ subst (λ z. f z ≡ None) (sym this) (none_before u o f h v (f u) v.before (subst (λ z. h z ≡ None) this later))
      | inr same ↦ sym same ∙ later
    ]

pub fresh_in_log : (log : List (Uid × Option ℕ)) (f g : Uid → Option ℕ) (q : Uid) → IsUndo log f g → f q ≡ None → IsSome (g q) → Contains log (q, None)
fresh_in_log log f g q i none some = fresh_written log f g q i.written none some

pub fresh_from_log : (log : List (Uid × Option ℕ)) (f g : Uid → Option ℕ) (q : Uid) → IsUndo log f g → Contains log (q, None) → f q ≡ None
fresh_from_log log f g q i c = from_written log f g q i.written c
