-- Numbers of faults that are there.
use Rattle.std.proofs.Common.{◌≡◌, ℕ, ◌==◌, ◌||◌, ◌++◌, ◌∷◌, [], List, Bool, true, false, refl, subst}
use Rattle.std.proofs.lemmas.Bool.Decides.{Decides-eqb}
use Rattle.std.specs.List.{list_any}
use Rattle.cedar_gate_model.specs.Acceptance.{Submission}
use Rattle.cedarcheck.specs.Faults.{HasNumber, HasNumbers, numbers_in}
use Rattle.cedarcheck.specs.declared.findings.Finding.{Finding}

-- one more number
pub with_number : (s : Submission) (ns : List ℕ) (n : ℕ) → HasNumbers s ns → HasNumber s n → HasNumbers s (ns ++ n ∷ [])
with_number s [] n h k = (k, tt)
with_number s (m ∷ ns) n h k = (h.0, with_number s ns n h.1 k)

pub with_finding : (s : Submission) (fs : List Finding) (f : Finding) → HasNumbers s (numbers_in fs) → HasNumber s f.number → HasNumbers s (numbers_in (fs ++ f ∷ []))
with_finding s [] f h k = (k, tt)
with_finding s (g ∷ fs) f h k = (h.0, with_finding s fs f h.1 k)

-- one of the numbers
pub among : (s : Submission) (ns : List ℕ) (n : ℕ) → HasNumbers s ns → list_any (λ m. m == n) ns ≡ true → HasNumber s n
among s [] n h e = absurd (let f : false ≡ true = e in cc)
among s (m ∷ ns) n h e = go (among s ns n h.1) (m == n) refl e
  where
    go : (list_any (λ k. k == n) ns ≡ true → HasNumber s n) → (b : Bool) → (m == n) ≡ b → (b || list_any (λ k. k == n) ns) ≡ true → HasNumber s n
    go rest true k f = subst (HasNumber s) ((Decides-eqb m n).0 k) h.0
    go rest false k f = rest f
