-- Rows put in and taken out one after the other.
use Rattle.std.proofs.Common.{◌≡◌, ◌⊎◌, inl, inr, Bool, true, false, List, [], ◌∷◌, ◌++◌, Contains, Option, Some, None, refl, sym, ap, ◌∙◌, subst, map}
use Rattle.std.proofs.lemmas.List.{map-append}
use Rattle.std.proofs.lemmas.List.Elements.{Contains-append_left, Contains-push, Contains-push_cases}
use Rattle.std.specs.declared.alloc.Global.{Global}
use Rattle.std.specs.declared.vec.Vec.{Vec}
use Rattle.cedar_expr_model.specs.Uid.{Uid, uid_eq}
use Rattle.cedar_expr_model.proofs.Equality.{uid_eq-Decides}
use Rattle.cedar_expr_model.proofs.Lists.{contains_none, map_has}
use Rattle.cedar_expr_names.specs.Views.{uid_of}
use Rattle.cedar_expr_names.specs.declared.entity.EntityUID.{EntityUID}
use Rattle.cedar_gate_wanted.specs.Supplying.{keys_in, rows_of, IsFilled, IsOut}
use Rattle.cedar_gate_wanted.proofs.Taking.{keys_are}

abbrev Row : Type 0
Row = Vec EntityUID Global

-- Two uids are equal, or they aren't.
same_or_other : (u v : Uid) → (u ≡ v) ⊎ (u ≡ v → ⊥)
same_or_other u v = go (uid_eq u v) refl
  where
    go : (b : Bool) → uid_eq u v ≡ b → (u ≡ v) ⊎ (u ≡ v → ⊥)
    go true e = inl ((uid_eq-Decides u v).0 e)
    go false e = inr (λ k. let t = (uid_eq-Decides u v).1 k in cc)

pub filled_none : (a b : Uid → Option Row) → ((u : Uid) → b u ≡ a u) → IsFilled [] a b
filled_none a b same = record { filled = λ u. inr (contains_none u, same u) }

-- one more is put in
pub filled_more : (ps : List (EntityUID × Row)) (k : EntityUID) (r : Row) (a b c : Uid → Option Row) → IsFilled (rows_of ps) a b → c (uid_of k) ≡ Some r → ((x : Uid) → (x ≡ uid_of k) ⊎ (c x ≡ b x)) → IsFilled (rows_of (ps ++ (k, r) ∷ [])) a c
filled_more ps k r a b c i here apart = record {
  filled = λ u. elim (same_or_other u (uid_of k)) [
    | inl this ↦ inl (r, subst (λ z. Contains (rows_of (ps ++ (k, r) ∷ [])) (z, r)) (sym this) (subst (λ zs. Contains zs (uid_of k, r)) (sym (split ps)) (Contains-push (rows_of ps) (uid_of k, r))), subst (λ z. c z ≡ Some r) (sym this) here)
    | inr other ↦ elim (apart u) [
      | inl this ↦ absurd (other this)
      | inr same ↦ elim (i.filled u) [
        | inl had ↦ inl (had.0, subst (λ zs. Contains zs (u, had.0)) (sym (split ps)) (Contains-append_left (rows_of ps) ((uid_of k, r) ∷ []) (u, had.0) had.1), same ∙ had.2)
        | inr out ↦ inr (
          (λ m. elim (Contains-push_cases (map (λ (p : Uid × Row). p.0) (rows_of ps)) (uid_of k) u (subst (λ zs. Contains zs u) (firsts ps) m)) [
            | inl old ↦ out.0 old
            | inr new ↦ other (sym new)
          ]),
          same ∙ out.1,
        )
      ]
    ]
  ];
}
  where
    split : (ps : List (EntityUID × Row)) → rows_of (ps ++ (k, r) ∷ []) ≡ rows_of ps ++ (uid_of k, r) ∷ []
    split ps = map-append (λ (p : EntityUID × Row). (uid_of p.0, p.1)) ps ((k, r) ∷ [])

    firsts : (ps : List (EntityUID × Row)) → map (λ (p : Uid × Row). p.0) (rows_of (ps ++ (k, r) ∷ [])) ≡ map (λ (p : Uid × Row). p.0) (rows_of ps) ++ uid_of k ∷ []
    firsts ps = ap (map (λ (p : Uid × Row). p.0)) (split ps) ∙ map-append (λ (p : Uid × Row). p.0) (rows_of ps) ((uid_of k, r) ∷ [])

-- uids that aren't among those of the whole keep what stood there
pub filled_others : (all ps rest : List (EntityUID × Row)) (a b : Uid → Option Row) → all ≡ ps ++ rest → IsFilled (rows_of ps) a b → (u : Uid) → (Contains (keys_in all) u → ⊥) → b u ≡ a u
filled_others all ps rest a b e i u misses = elim (i.filled u) [
  | inl had ↦ absurd (misses (subst (λ zs. Contains zs u) (sym (ap keys_in e ∙ map-append (λ (p : EntityUID × Row). uid_of p.0) ps rest)) (Contains-append_left (keys_in ps) (keys_in rest) u (subst (λ zs. Contains zs u) (keys_are ps) (has (rows_of ps) u had.0 had.1)))))
  | inr out ↦ out.1
]
  where
    has : (rs : List (Uid × Row)) (u : Uid) (r : Row) → Contains rs (u, r) → Contains (map (λ (p : Uid × Row). p.0) rs) u
    has rs u r k = map_has (λ (p : Uid × Row). p.0) rs (u, r) k

-- one more is taken out
pub out_more : {X : Type 0} (us more : List Uid) (k : Uid) (a b c : Uid → Option X) → more ≡ us ++ k ∷ [] → ((u : Uid) → IsOut us a b u) → c k ≡ None → ((x : Uid) → (x ≡ k) ⊎ (c x ≡ b x)) → (u : Uid) → IsOut more a c u
out_more us more k a b c e i here apart u = elim (same_or_other u k) [
  | inl this ↦ inl (subst (λ zs. Contains zs u) (sym e) (subst (λ z. Contains (us ++ k ∷ []) z) (sym this) (Contains-push us k)), subst (λ z. c z ≡ None) (sym this) here)
  | inr other ↦ elim (apart u) [
    | inl this ↦ absurd (other this)
    | inr same ↦ elim (i u) [
      | inl had ↦ inl (subst (λ zs. Contains zs u) (sym e) (Contains-append_left us (k ∷ []) u had.0), same ∙ had.1)
      | inr out ↦ inr ((λ m. elim (Contains-push_cases us k u (subst (λ zs. Contains zs u) e m)) [ inl old ↦ out.0 old | inr new ↦ other (sym new) ]), same ∙ out.1)
    ]
  ]
]
