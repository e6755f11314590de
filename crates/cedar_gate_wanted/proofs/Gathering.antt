-- Uids gathered one after the other.
use Rattle.std.proofs.Common.{◌≡◌, ◌⊎◌, inl, inr, Bool, true, false, List, [], ◌∷◌, ◌++◌, Contains, refl, sym, ap, ◌∙◌, subst}
use Rattle.std.proofs.lemmas.List.Elements.{Contains-append_left, Contains-push, Contains-push_cases}
use Rattle.std.specs.Prelude.{◌↔◌}
use Rattle.cedar_expr_model.specs.Uid.{Uid}

-- all have the others, and those of the keys that pass
abbrev pub Have : (Uid → Bool) → List Uid → List Uid → List Uid → Uid → Type 0
Have t all others keys u = Contains all u ↔ (Contains others u ⊎ (Contains keys u × (t u ≡ true)))

module _ (t : Uid → Bool) (all others keys next : List Uid) (k : Uid) (goes : next ≡ keys ++ k ∷ []) (have : (u : Uid) → Have t all others keys u) where
  next_has : (u : Uid) → Contains keys u → Contains next u
  next_has u c = subst (λ zs. Contains zs u) (sym goes) (Contains-append_left keys (k ∷ []) u c)

  next_cases : (u : Uid) → Contains next u → Contains keys u ⊎ (k ≡ u)
  next_cases u c = Contains-push_cases keys k u (subst (λ zs. Contains zs u) goes c)

  -- one that passes is taken
  pub took_one : (more : List Uid) → more ≡ all ++ k ∷ [] → t k ≡ true → (u : Uid) → Have t more others next u
  took_one more e pass u = (
    (λ m. elim (Contains-push_cases all k u (subst (λ zs. Contains zs u) e m)) [
      | inl old ↦ elim ((have u).0 old) [ inl o ↦ inl o | inr (c, h) ↦ inr (next_has u c, h) ]
      | inr new ↦ inr (subst (λ zs. Contains zs u) (sym goes) (subst (λ z. Contains (keys ++ k ∷ []) z) new (Contains-push keys k)), subst (λ z. t z ≡ true) new pass)
    ]),
    (λ h. subst (λ zs. Contains zs u) (sym e) (elim h [
      | inl o ↦ Contains-append_left all (k ∷ []) u ((have u).1 (inl o))
      | inr (c, p) ↦ elim (next_cases u c) [
        | inl old ↦ Contains-append_left all (k ∷ []) u ((have u).1 (inr (old, p)))
        | inr new ↦ subst (λ z. Contains (all ++ k ∷ []) z) new (Contains-push all k)
      ]
    ])),
  )

  -- one that doesn't pass isn't
  pub took_none : t k ≡ false → (u : Uid) → Have t all others next u
  took_none fails u = (
    (λ m. elim ((have u).0 m) [ inl o ↦ inl o | inr (c, h) ↦ inr (next_has u c, h) ]),
    (λ h. elim h [
      | inl o ↦ (have u).1 (inl o)
      | inr (c, p) ↦ elim (next_cases u c) [
        | inl old ↦ (have u).1 (inr (old, p))
        | inr new ↦ (let f : t u ≡ false = subst (λ z. t z ≡ false) new fails in absurd cc)
      ]
    ]),
  )
