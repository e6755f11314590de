-- The slice by kept distances, and what is wanted of it.
use Rattle.std.proofs.Common.{◌≡◌, ◌⊎◌, inl, inr, ◌&&◌, ℕ, zero, suc, List, Contains, Bool, true, false, not, Option, Some, None, ◌<◌, ◌≤◌, refl, sym, ap, ◌∙◌, subst, arith}
use Rattle.std.specs.List.{list_any}
use Rattle.std.specs.Prelude.{◌↔◌, IsSome, is_some}
use Rattle.cedar_expr_model.specs.Uid.{Uid, uid_eq}
use Rattle.cedar_expr_model.proofs.Equality.{uid_eq-Decides}
use Rattle.cedar_expr_model.proofs.Lists.{found-Decides}
use Rattle.cedar_store_model.specs.World.{World}
use Rattle.cedar_schema_model.specs.Schema.{Schema, declares_action}
use Rattle.cedar_typechecker_model.specs.Slice as slice
use Rattle.cedar_gate_model.specs.Session.{Setup, State, known_now, IsWantedList}
use Rattle.cedar_gate_wanted.specs.Near as kept
use Rattle.cedar_gate_wanted.specs.Kept.{IsKept}
use Rattle.cedar_gate_wanted.specs.Laws.{IsLoadedAt, WantedIsNext}
use Rattle.cedar_gate_wanted.specs.Wanting.{IsWanting, near_in, rows_in, mentions_of, wanted_in}
use Rattle.cedar_gate_wanted.specs.declared.loading.Loading.{Loading}
use Rattle.cedar_gate_wanted.proofs.Opening.{open_parts, open_made}

module _ (w : World) (m : Uid → List Uid) (same : (v : Uid) → m v ≡ slice.mentioned_by_found (w.store v)) where
  to_near : (n : ℕ) (u : Uid) → slice.IsNear n w u → kept.IsNear (slice.roots w) m n u
  to_near zero u near = absurd near
  to_near (suc n) u (inl c) = inl c
  to_near (suc n) u (inr (v, near, c)) = inr (v, to_near n v near, subst (λ zs. Contains zs u) (sym (same v)) c)

  from_near : (n : ℕ) (u : Uid) → kept.IsNear (slice.roots w) m n u → slice.IsNear n w u
  from_near zero u near = absurd near
  from_near (suc n) u (inl c) = inl c
  from_near (suc n) u (inr (v, near, c)) = inr (v, from_near n v near, subst (λ zs. Contains zs u) (same v) c)

  -- near is what has a distance
  near_kept : (n : ℕ) (f : Uid → Option ℕ) → IsKept (slice.roots w) m n f → (u : Uid) → slice.IsNear n w u ↔ IsSome (f u)
  near_kept n f k u = (
    (λ near. let (d, is, lt) = (k.near n u (omega arith)).0 (to_near n u near) in subst (λ o. IsSome o) (sym is) refl),
    (λ s. go (f u) refl s),
  )
    where
      go : (o : Option ℕ) → f u ≡ o → IsSome o → slice.IsNear n w u
      go (Some d) e s = from_near n u ((k.near n u (omega arith)).1 (d, e, k.below u d e))
      go None e s = let t : false ≡ true = s in absurd cc

not_there : (b : Bool) → (b ≡ true → ⊥) → b ≡ false
not_there true h = absurd (h refl)
not_there false h = refl

pub next_round : WantedIsNext
next_round x s l w a = record {
  in_order = w.in_order;
  exact = λ u. (
    (λ c. let (d, r, plain) = open_parts x.schema u (near_in l u) (rows_in l u) ((w.exact u).0 c) in (
      ((near_kept (known_now x s) (mentions_of l) a.mentions x.level (near_in l) a.kept u).1 d, plain),
      (λ k. let met = (found-Decides uid_eq uid_eq-Decides u s.asked).1 k in let fresh : list_any (uid_eq u) s.asked ≡ false = sym (a.asked u) ∙ r in cc),
    )),
    (λ ((near, plain), fresh). (w.exact u).1 (open_made x.schema u (near_in l u) (rows_in l u) ((near_kept (known_now x s) (mentions_of l) a.mentions x.level (near_in l) a.kept u).0 near)
        (a.asked u ∙ not_there (list_any (uid_eq u) s.asked) (λ e. fresh ((found-Decides uid_eq uid_eq-Decides u s.asked).0 e))) plain)),
  );
}
