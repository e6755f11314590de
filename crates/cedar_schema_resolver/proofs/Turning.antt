-- Edges turned round, row by row.
use Rattle.std.proofs.Common.{◌≡◌, ◌⊎◌, ℕ, zero, suc, ◌<◌, ◌≤◌, ◌+◌, List, [], ◌∷◌, ◌++◌, set, length, refl, sym, ap, ◌∙◌, subst, inl, inr, ⊎_elim, arith}
use Rattle.std.specs.Prelude.{Contains}
use Rattle.std.proofs.lemmas.Bool.Decides.{eqb_tells}
use Rattle.std.specs.declared.alloc.Global.{Global}
use Rattle.std.specs.declared.vec.Vec.{Vec}
use Rattle.std.proofs.lemmas.List.Elements.{Contains-append_left, Contains-append_right, Contains-push, Contains-push_cases}
use Rattle.cedar_expr_model.proofs.Lists.{contains_none, contains_head, contains_cases}
use Rattle.cedar_schema_resolver.specs.Graphs.{Graph, targets, HasEdge, IsTurned}
use Rattle.cedar_schema_resolver.specs.Rows.{HasEmptyRows, HasAdded}
use Rattle.cedar_schema_resolver.proofs.Searching.{next_place}

pub no_rows_empty : HasEmptyRows []
no_rows_empty = record { none = λ i j h. contains_none j h }

push_empty : (g : Graph) (r : Vec ℕ Global) (i j : ℕ) → r.items ≡ [] → ((m n : ℕ) → HasEdge g m n → ⊥) → HasEdge (g ++ r ∷ []) i j → ⊥
push_empty [] r zero j e f h = contains_none j (subst (λ ns. Contains ns j) e h)
push_empty [] r (suc i) j e f h = contains_none j h
push_empty (q ∷ qs) r zero j e f h = f zero j h
push_empty (q ∷ qs) r (suc i) j e f h = push_empty qs r i j e (λ m n k. f (suc m) n k) h

pub one_empty : (g : Graph) (r : Vec ℕ Global) → r.items ≡ [] → HasEmptyRows g → HasEmptyRows (g ++ r ∷ [])
one_empty g r e h = record { none = λ i j k. push_empty g r i j e h.none k }

-- one row is longer
at_row : (g : Graph) (i : ℕ) (r : Vec ℕ Global) → i < length g → targets (set g i r) i ≡ r.items
at_row [] i r l = absurd (omega (arith, l))
at_row (q ∷ qs) zero r l = refl
at_row (q ∷ qs) (suc i) r l = at_row qs i r (omega (arith, l))

other_row : (g : Graph) (i j : ℕ) (r : Vec ℕ Global) → (j ≡ i → ⊥) → targets (set g i r) j ≡ targets g j
other_row [] i j r d = refl
other_row (q ∷ qs) zero zero r d = absurd (d refl)
other_row (q ∷ qs) zero (suc j) r d = refl
other_row (q ∷ qs) (suc i) zero r d = refl
other_row (q ∷ qs) (suc i) (suc j) r d = other_row qs i j r (λ e. d (ap suc e))

pub row_added : (g : Graph) (i n : ℕ) (r : Vec ℕ Global) → i < length g → r.items ≡ targets g i ++ n ∷ [] → HasAdded g (set g i r) (i ∷ []) n
row_added g i n r l e = record {
  kept = λ k j h. ⊎_elim (λ q. subst (λ m. HasEdge g m j → HasEdge (set g i r) m j) (sym q) (λ c. here j (Contains-append_left (targets g i) (n ∷ []) j c)) h) (λ q. subst (λ ns. Contains ns j) (sym (other_row g i k r q)) h) (place k);
  added = λ k h. contains_cases (HasEdge (set g i r) k n) i [] k h (λ q. subst (λ m. HasEdge (set g i r) m n) q (here n (Contains-push (targets g i) n))) (λ c. absurd (contains_none k c));
  only = λ k j h. ⊎_elim (λ q. subst (λ m. HasEdge (set g i r) m j → HasEdge g m j ⊎ (Contains (i ∷ []) m × (j ≡ n))) (sym q) (there j) h) (λ q. inl (subst (λ ns. Contains ns j) (other_row g i k r q) h)) (place k);
}
  where
    place : (k : ℕ) → (k ≡ i) ⊎ (k ≡ i → ⊥)
    place k = ⊎_elim (λ p. inl p.1) (λ p. inr p.1) (eqb_tells k i)

    here : (j : ℕ) → Contains (targets g i ++ n ∷ []) j → HasEdge (set g i r) i j
    here j c = subst (λ ns. Contains ns j) (sym (at_row g i r l ∙ e)) c

    there : (j : ℕ) → HasEdge (set g i r) i j → HasEdge g i j ⊎ (Contains (i ∷ []) i × (j ≡ n))
    there j h = ⊎_elim inl (λ q. inr (contains_head i [], sym q)) (Contains-push_cases (targets g i) n j (subst (λ ns. Contains ns j) (at_row g i r l ∙ e) h))

-- rows in turn
pub none_added : (g : Graph) (n : ℕ) → HasAdded g g [] n
none_added g n = record { kept = λ i j h. h; added = λ i h. absurd (contains_none i h); only = λ i j h. inl h }

pub then_added : (f g h : Graph) (is : List ℕ) (i n : ℕ) → HasAdded f g is n → HasAdded g h (i ∷ []) n → HasAdded f h (is ++ i ∷ []) n
then_added f g h is i n p q = record {
  kept = λ k j e. q.kept k j (p.kept k j e);
  added = λ k m. ⊎_elim (λ c. q.kept k n (p.added k c)) (λ e. q.added k (subst (Contains (i ∷ [])) e (contains_head i []))) (Contains-push_cases is i k m);
  only = λ k j e. ⊎_elim (λ m. ⊎_elim inl (λ c. inr (Contains-append_left is (i ∷ []) k c.0, c.1)) (p.only k j m)) (λ c. inr (Contains-append_right is (i ∷ []) k c.0, c.1)) (q.only k j e);
}

-- nodes in turn
pub record TurnedTo (g h : Graph) (k : ℕ) : Type 0 where
  pub only : (i j : ℕ) → HasEdge h i j → HasEdge g j i
  pub all : (i j : ℕ) → i < k → HasEdge g i j → HasEdge h j i

pub none_turned : (g h : Graph) → HasEmptyRows h → TurnedTo g h 0
none_turned g h e = record { only = λ i j k. absurd (e.none i j k); all = λ i j l k. absurd (omega (arith, l)) }

pub one_turned : (g h h' : Graph) (k : ℕ) (ns : List ℕ) → ns ≡ targets g k → HasAdded h h' ns k → TurnedTo g h k → TurnedTo g h' (k + 1)
one_turned g h h' k ns e a t = record {
  only = λ i j m. ⊎_elim (t.only i j) (λ c. subst (λ n. HasEdge g n i) (sym c.1) (subst (λ ms. Contains ms i) e c.0)) (a.only i j m);
  all = λ i j l m. ⊎_elim (λ q. a.kept j i (t.all i j q m)) (λ q. subst (HasEdge h' j) (sym q) (a.added j (subst (λ ms. Contains ms j) (sym e) (subst (λ n. HasEdge g n j) q m)))) (next_place i k l);
}

pub turned_to : (g h : Graph) (k : ℕ) → length h ≡ length g → length g ≤ k → ((i j : ℕ) → HasEdge g i j → i < length g) → TurnedTo g h k → IsTurned g h
turned_to g h k e l from t = record { size = e; only = t.only; all = λ i j m. let n = from i j m in t.all i j (omega (arith, n, l)) m }
