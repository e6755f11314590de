-- The test of a pattern decides whether it matches.
use Rattle.std.proofs.Common.{◌≡◌, ℕ, Bool, true, false, ◌||◌, List, [], ◌∷◌, ◌++◌, refl, sym, subst, ◌⊎◌, inl, inr, ⊎_elim, Decides}
use Rattle.std.proofs.lemmas.Bool.Decides.{Decides-and, Decides-eqb}
use Rattle.cedar_expr_model.specs.Pattern.{Pattern, character, wildcard, Matches, matches, after_some}

-- what is left after some beginning of the characters
abbrev SomeRest : (List ℕ → Type 0) → List ℕ → Type 0
SomeRest P cs = (skipped : List ℕ) × (rest : List ℕ) × (cs ≡ skipped ++ rest) × P rest

rest_of_none : (P : List ℕ → Type 0) (skipped rest : List ℕ) → [] ≡ skipped ++ rest → P rest → P []
rest_of_none P [] rest e p = subst P (sym e) p
rest_of_none P (s ∷ skipped) rest e p = cc

rest_of_some : (P : List ℕ → Type 0) (c : ℕ) (cs : List ℕ) (skipped rest : List ℕ) → c ∷ cs ≡ skipped ++ rest → P rest → P (c ∷ cs) ⊎ SomeRest P cs
rest_of_some P c cs [] rest e p = inl (subst P (sym e) p)
rest_of_some P c cs (s ∷ skipped) rest e p = inr (skipped, rest, cc, p)

either_holds : (a b : Bool) {P Q G : Type 0} → (a || b) ≡ true → Decides a P → Decides b Q → (P → G) → (Q → G) → G
either_holds true b h d e f g = f (d.0 refl)
either_holds false b h d e f g = g (e.0 h)

holds_either : (a b : Bool) → (a ≡ true) ⊎ (b ≡ true) → (a || b) ≡ true
holds_either true b h = refl
holds_either false b (inl h) = cc
holds_either false b (inr h) = h

after_some-Decides : (test : List ℕ → Bool) (P : List ℕ → Type 0) → ((cs : List ℕ) → Decides (test cs) (P cs)) → (cs : List ℕ) → Decides (after_some test cs) (SomeRest P cs)
after_some-Decides test P d [] = (λ h. ([], [], refl, (d []).0 h), λ s. (d []).1 (rest_of_none P s.0 s.1 s.2 s.3))
after_some-Decides test P d (c ∷ cs) =
    let later = after_some-Decides test P d cs in (
      λ h. either_holds (test (c ∷ cs)) (after_some test cs) h (d (c ∷ cs)) later (λ p. ([], c ∷ cs, refl, p)) (λ s. let q = s.2 in (c ∷ s.0, s.1, cc, s.3)),
      λ s. holds_either (test (c ∷ cs)) (after_some test cs) (⊎_elim (λ p. inl ((d (c ∷ cs)).1 p)) (λ r. inr (later.1 r)) (rest_of_some P c cs s.0 s.1 s.2 s.3)),
    )

pub matches-Decides : (p : Pattern) (cs : List ℕ) → Decides (matches p cs) (Matches p cs)
matches-Decides [] [] = (λ _. refl, λ _. refl)
matches-Decides [] (c ∷ cs) = (λ h. cc, λ h. cc)
matches-Decides (character c ∷ p) [] = (λ h. cc, λ h. absurd h)
matches-Decides (character c ∷ p) (d ∷ cs) = Decides-and _ _ (Decides-eqb c d) (matches-Decides p cs)
matches-Decides (wildcard ∷ p) cs = after_some-Decides (matches p) (Matches p) (matches-Decides p) cs
