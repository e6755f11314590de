-- What is wanted after new roots and after a supply.
use Rattle.std.proofs.Common.{◌≡◌, ◌⊎◌, inl, inr, ◌&&◌, ℕ, Bool, true, false, not, List, [], ◌∷◌, Contains, Option, Some, None, refl, sym, ap, ◌∙◌, subst, map, arith}
use Rattle.std.specs.Prelude.{◌↔◌, IsSome, is_some}
use Rattle.std.specs.declared.alloc.Global.{Global}
use Rattle.std.specs.declared.vec.Vec.{Vec}
use Rattle.cedar_expr_model.specs.Uid.{Uid}
use Rattle.cedar_expr_model.proofs.Lists.{contains_none, map_has}
use Rattle.cedar_expr_names.specs.Views.{uid_of}
use Rattle.cedar_expr_names.specs.declared.entity.EntityUID.{EntityUID}
use Rattle.cedar_gate_wanted.specs.Kept.{IsUndo, IsLoaded}
use Rattle.cedar_gate_wanted.specs.Rows.{writes, uids, row_of, NothingStandsAt}
use Rattle.cedar_gate_wanted.specs.Supplying.{keys_in, rows_of, IsFilled, AreKeys, IsOut}
use Rattle.cedar_gate_wanted.specs.Wanting.{is_open, Exact}
use Rattle.cedar_gate_wanted.proofs.Opening.{open_parts, open_made, stays, written_anew, had_or_not}
use Rattle.cedar_schema_model.specs.Schema.{Schema, declares_action}

abbrev Row : Type 0
Row = Vec EntityUID Global

-- what is wanted next, by what was written
abbrev pub Next : Schema → List Uid → List Uid → List Uid → (Uid → Option ℕ) → (Uid → Option Row) → Type 0
Next s next others written g b = (u : Uid) → Contains next u ↔ (Contains others u ⊎ (Contains written u × (is_open s (g u) (b u) u ≡ true)))

-- after new roots
pub after_roots : (s : Schema) (ws next : List Uid) (log : List (EntityUID × Option ℕ)) (f g : Uid → Option ℕ) (a : Uid → Option Row) → Exact s ws f a → IsUndo (writes log) f g → Next s next ws (keys_in log) g a → Exact s next g a
after_roots s ws next log f g a exact undo is u = (
  (λ k. elim ((is u).0 k) [
    | inl old ↦ (let (d, r, c) = open_parts s u (f u) (a u) ((exact u).0 old) in open_made s u (g u) (a u) (stays (writes log) f g u undo d) r c)
    | inr new ↦ new.1
  ]),
  (λ e. let (d, r, c) = open_parts s u (g u) (a u) e in
      elim (had_or_not f u) [
        | inl had ↦ (is u).1 (inl ((exact u).1 (open_made s u (f u) (a u) had r c)))
        | inr none ↦ (is u).1 (inr (written_anew log f g u undo none d, e))
      ]),
)

pub keys_are : (ps : List (EntityUID × Row)) → map (λ (p : Uid × Row). p.0) (rows_of ps) ≡ keys_in ps
keys_are [] = refl
keys_are (p ∷ ps) = ap (λ zs. uid_of p.0 ∷ zs) (keys_are ps)

pub filled_has : (ps : List (EntityUID × Row)) (u : Uid) (r : Row) → Contains (rows_of ps) (u, r) → Contains (keys_in ps) u
filled_has ps u r k = subst (λ zs. Contains zs u) (keys_are ps) (map_has (λ (p : Uid × Row). p.0) (rows_of ps) (u, r) k)

-- what is filled, by the uids of the pairs
filled_at : (ps : List (EntityUID × Row)) (a b : Uid → Option Row) (u : Uid) → IsFilled (rows_of ps) a b → (Contains (keys_in ps) u × IsSome (b u)) ⊎ ((Contains (keys_in ps) u → ⊥) × (b u ≡ a u))
filled_at ps a b u i = elim (i.filled u) [
  | inl in_it ↦ inl (filled_has ps u in_it.0 in_it.1, subst (λ o. IsSome o) (sym in_it.2) refl)
  | inr out ↦ inr ((λ k. out.0 (subst (λ zs. Contains zs u) (sym (keys_are ps)) k)), out.1)
]

some_not_none : (o : Option Row) → IsSome o → is_some o ≡ false → ⊥
some_not_none o s n = let t : is_some o ≡ true = s in cc

module _ (s : Schema) (ws : List Uid) (ps : List (EntityUID × Row)) (f : Uid → Option ℕ) (a : Uid → Option Row) (exact : Exact s ws f a) (keys : AreKeys ws (keys_in ps)) where
  -- after a supply
  pub after_supply : (next : List Uid) (log : List (EntityUID × Option ℕ)) (g : Uid → Option ℕ) (b : Uid → Option Row) → IsFilled (rows_of ps) a b → IsUndo (writes log) f g → Next s next [] (keys_in log) g b → Exact s next g b
  after_supply next log g b filled undo is u = (
    (λ k. elim ((is u).0 k) [ inl old ↦ absurd (contains_none u old) | inr new ↦ new.1 ]),
    (λ e. let (d, r, c) = open_parts s u (g u) (b u) e in
        elim (filled_at ps a b u filled) [
          | inl in_it ↦ absurd (some_not_none (b u) in_it.1 r)
          | inr out ↦ elim (had_or_not f u) [
            | inl had ↦ absurd (out.0 (keys.all u ((exact u).1 (open_made s u (f u) (a u) had (ap is_some (sym out.1) ∙ r) c))))
            | inr none ↦ (is u).1 (inr (written_anew log f g u undo none d, e))
          ]
        ]),
  )

  -- what was asked for is near
  pub kept_supply : (g : Uid → Option ℕ) (b : Uid → Option Row) → ((u : Uid) → IsSome (a u) → IsSome (f u)) → IsFilled (rows_of ps) a b → ((u : Uid) → IsSome (f u) → IsSome (g u)) → (u : Uid) → IsSome (b u) → IsSome (g u)
  kept_supply g b kept filled stay u k = stay u (elim (filled_at ps a b u filled) [
    | inl in_it ↦ (open_parts s u (f u) (a u) ((exact u).0 (keys.each u in_it.0))).0
    | inr out ↦ kept u (subst (λ o. IsSome o) out.1 k)
  ])

  nothing_there : (u : Uid) → Contains ws u → a u ≡ None
  nothing_there u k = none_of (a u) (open_parts s u (f u) (a u) ((exact u).0 k)).1
    where
      none_of : (o : Option Row) → is_some o ≡ false → o ≡ None
      none_of None e = refl
      none_of (Some x) e = cc

  -- the rows that are loaded besides
  pub loaded_besides : (b : Uid → Option Row) → IsFilled (rows_of ps) a b → IsLoaded (row_of a) (row_of b) ws
  loaded_besides b filled = record {
    more = λ v x k. elim (filled_at ps a b v filled) [
      | inl in_it ↦ absurd (contains_none x (subst (λ zs. Contains zs x) (no_row v (keys.each v in_it.0)) k))
      | inr out ↦ subst (λ zs. Contains zs x) (same_row a b v (sym out.1)) k
    ];
    same = λ v. elim (filled_at ps a b v filled) [ inl in_it ↦ inl (keys.each v in_it.0) | inr out ↦ inr (same_row b a v out.1) ];
  }
    where
      no_row : (v : Uid) → Contains ws v → row_of a v ≡ []
      no_row v k = row_none (a v) (nothing_there v k)
        where
          row_none : (o : Option Row) → o ≡ None → row_of (λ (w : Uid). o) v ≡ []
          row_none o e = ap (λ p. row_of (λ (w : Uid). p) v) e

      same_row : (c d : Uid → Option Row) (v : Uid) → c v ≡ d v → row_of c v ≡ row_of d v
      same_row c d v e = ap (λ p. row_of (λ (w : Uid). p) v) e

-- nothing stands at what is wanted now
none_of : {X : Type 0} (o : Option X) → is_some o ≡ false → o ≡ None
none_of None e = refl
none_of (Some x) e = cc

pub next_fresh : (s : Schema) (others next written : List Uid) (g : Uid → Option ℕ) (b : Uid → Option Row) → Next s next others written g b → NothingStandsAt others b → NothingStandsAt next b
next_fresh s others next written g b is fresh u k = elim ((is u).0 k) [ inl old ↦ fresh u old | inr new ↦ (open_parts s u (g u) (b u) new.1).1 ]

-- what is taken out again stands as before
pub put_back : (ws ks : List Uid) (a b c : Uid → Option Row) → AreKeys ws ks → NothingStandsAt ws a → ((u : Uid) → (Contains ks u → ⊥) → b u ≡ a u) → ((u : Uid) → IsOut ws b c u) → (u : Uid) → c u ≡ a u
put_back ws ks a b c keys fresh others out u = elim (out u) [
  | inl here ↦ here.1 ∙ sym (none_of (a u) (fresh u here.0))
  | inr apart ↦ apart.1 ∙ others u (λ k. apart.0 (keys.each u k))
]

-- where nothing is put at these uids, nothing stands there
pub fresh_again : (ws : List Uid) (a b : Uid → Option Row) → NothingStandsAt ws a → ((u : Uid) → b u ≡ a u) → NothingStandsAt ws b
fresh_again ws a b fresh same u k = ap is_some (same u) ∙ fresh u k
