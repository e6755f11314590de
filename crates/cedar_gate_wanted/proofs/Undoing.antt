-- The log of writes.
use Rattle.cedar_expr_names.specs.Views.{uid_of}
use Rattle.cedar_expr_names.specs.declared.entity.EntityUID.{EntityUID}
use Rattle.cedar_gate_wanted.specs.Rows.{writes}
use Rattle.std.proofs.lemmas.List.{map-append}
use Rattle.std.proofs.Common.{◌≡◌, ◌⊎◌, inl, inr, ℕ, List, [], ◌∷◌, ◌++◌, Option, Some, refl, sym, ◌∙◌, subst, ap}
use Rattle.std.specs.Prelude.{IsSome}
use Rattle.cedar_expr_model.specs.Uid.{Uid}
use Rattle.cedar_gate_wanted.specs.Kept.{IsUndo, IsWrite, IsWritten}

write_from : (u : Uid) (o : Option ℕ) (f g h : Uid → Option ℕ) → ((q : Uid) → g q ≡ f q) → IsWrite u o g h → IsWrite u o f h
write_from u o f g h same w = record {
  before = sym (same u) ∙ w.before;
  stays = w.stays;
  apart = λ q. elim (w.apart q) [ inl this ↦ inl this | inr kept ↦ inr (kept ∙ same q) ];
}

written_push : (log : List (Uid × Option ℕ)) (f g h : Uid → Option ℕ) (u : Uid) (o : Option ℕ) → IsWritten log f g → IsWrite u o g h → IsWritten (log ++ (u, o) ∷ []) f h
written_push [] f g h u o i w = (h, write_from u o f g h i w, λ q. refl)
written_push (x ∷ log) f g h u o (k, v, i) w = (k, v, written_push log k g h u o i w)

written_same : (log : List (Uid × Option ℕ)) (f g h : Uid → Option ℕ) → IsWritten log f g → ((q : Uid) → h q ≡ g q) → IsWritten log f h
written_same [] f g h i same = λ q. same q ∙ i q
written_same (x ∷ log) f g h (k, v, i) same = (k, v, written_same log k g h i same)

written_pop : (log : List (Uid × Option ℕ)) (f h : Uid → Option ℕ) (u : Uid) (o : Option ℕ) → IsWritten (log ++ (u, o) ∷ []) f h → (g : Uid → Option ℕ) × IsWritten log f g × IsWrite u o g h
written_pop [] f h u o (k, w, i) = (
  f,
  (λ q. refl),
  record {
    before = w.before;
    stays = λ s. subst (λ x. IsSome x) (sym (i u)) (w.stays s);
    apart = λ q. elim (w.apart q) [ inl this ↦ inl this | inr kept ↦ inr (i q ∙ kept) ];
  },
)
written_pop (x ∷ log) f h u o (k, v, i) = let (g, j, w) = written_pop log k h u o i in (g, (k, v, j), w)

pub undo_pushed : (log more : List (Uid × Option ℕ)) (f g h : Uid → Option ℕ) (u : Uid) (o : Option ℕ) → IsUndo log f g → more ≡ log ++ (u, o) ∷ [] → IsWrite u o g h → IsUndo more f h
undo_pushed log more f g h u o i e w = subst (λ l. IsUndo l f h) (sym e) (record { written = written_push log f g h u o i.written w })

-- what is put back at the last key of the log
pub undo_popped : (log more : List (Uid × Option ℕ)) (f g h : Uid → Option ℕ) (u : Uid) (o : Option ℕ) → IsUndo more f g → more ≡ log ++ (u, o) ∷ [] → ((IsSome o → IsSome (g u)) → h u ≡ o) → ((q : Uid) → (q ≡ u) ⊎ (h q ≡ g q)) → IsUndo log f h
undo_popped log more f g h u o i e here apart =
    let j : IsUndo (log ++ (u, o) ∷ []) f g = subst (λ l. IsUndo l f g) e i in
    let (k, written, w) = written_pop log f g u o j.written in
    record {
      written = written_same log f k h written (λ q. elim (w.apart q) [
        | inl this ↦ subst (λ z. h z ≡ k z) (sym this) (here w.stays ∙ sym w.before)
        | inr kept ↦ elim (apart q) [ inl this ↦ subst (λ z. h z ≡ k z) (sym this) (here w.stays ∙ sym w.before) | inr same ↦ same ∙ kept ]
      ]);
    }

pub undo_start : (log : List (Uid × Option ℕ)) (f : Uid → Option ℕ) → log ≡ [] → IsUndo log f f
undo_start log f e = subst (λ l. IsUndo l f f) (sym e) (record { written = λ q. refl })

-- a write that leaves all as it was, where this stood
pub write_kept : (u : Uid) (o : Option ℕ) (g h : Uid → Option ℕ) → g u ≡ o → ((q : Uid) → h q ≡ g q) → IsWrite u o g h
write_kept u o g h before same = record { before = before; stays = λ s. subst (λ p. IsSome p) (sym (same u ∙ before)) s; apart = λ q. inr (same q) }

-- a write that puts this there
pub write_put : (u : Uid) (o : Option ℕ) (d : ℕ) (g h : Uid → Option ℕ) → g u ≡ o → h u ≡ Some d → ((q : Uid) → (q ≡ u) ⊎ (h q ≡ g q)) → IsWrite u o g h
write_put u o d g h before here apart = record { before = before; stays = λ s. subst (λ p. IsSome p) (sym here) refl; apart = apart }

written_more : (log more : List (EntityUID × Option ℕ)) (k : EntityUID) (u : Uid) (o : Option ℕ) → more ≡ log ++ (k, o) ∷ [] → uid_of k ≡ u → writes more ≡ writes log ++ (u, o) ∷ []
written_more log more k u o e is = ap writes e ∙ map-append (λ w. (uid_of w.0, w.1)) log ((k, o) ∷ []) ∙ ap (λ v. writes log ++ (v, o) ∷ []) is

pub undo_logged : (log more : List (EntityUID × Option ℕ)) (k : EntityUID) (u : Uid) (o : Option ℕ) (f g h : Uid → Option ℕ) → more ≡ log ++ (k, o) ∷ [] → uid_of k ≡ u → IsWrite u o g h → IsUndo (writes log) f g → IsUndo (writes more) f h
undo_logged log more k u o f g h e is w i = undo_pushed (writes log) (writes more) f g h u o i (written_more log more k u o e is) w

pub undo_unlogged : (log more : List (EntityUID × Option ℕ)) (k : EntityUID) (o : Option ℕ) (f g h : Uid → Option ℕ) → more ≡ log ++ (k, o) ∷ [] → IsUndo (writes more) f g → ((IsSome o → IsSome (g (uid_of k))) → h (uid_of k) ≡ o) → ((q : Uid) → (q ≡ uid_of k) ⊎ (h q ≡ g q)) → IsUndo (writes log) f h
undo_unlogged log more k o f g h e i here apart = undo_popped (writes log) (writes more) f g h (uid_of k) o i (written_more log more k (uid_of k) o e refl) here apart
