-- The search from a node: what is found is reached, and at the end all of it is found.
use Rattle.std.proofs.Common.{◌≡◌, ◌⊎◌, ℕ, zero, suc, ◌<◌, ◌≤◌, ◌+◌, List, [], ◌∷◌, ◌++◌, eqb, get_or, length, refl, sym, ap, ◌∙◌, subst, inl, inr, ⊎_elim, arith, length-append}
use Rattle.std.proofs.lemmas.Bool.Decides.{eqb_tells}
use Rattle.std.proofs.lemmas.List.Elements.{Contains-get_or}
use Rattle.std.specs.Prelude.{Contains}
use Rattle.std.specs.List.{IsDistinct}
use Rattle.std.specs.declared.alloc.Global.{Global}
use Rattle.std.specs.declared.vec.Vec.{Vec}
use Rattle.std.proofs.lemmas.Map.Steps.{length-le_from_distinct_below}
use Rattle.cedar_expr_model.proofs.Lists.{contains_cases, contains_none}
use Rattle.cedar_schema_model.specs.Descent.{Chain, Reaches}
use Rattle.cedar_schema_model.proofs.Decls.Descent.{reaches_on}
use Rattle.cedar_schema_resolver.specs.Graphs.{Graph, targets, HasEdge, IsWithin, AreReached}
use Rattle.cedar_schema_resolver.specs.Found.{with_nodes, AreBelow}
use Rattle.cedar_schema_resolver.proofs.Finding.{is_found, nodes_kept, nodes_have, nodes_only, nodes_once, nodes_same}

-- the row of a node
pub targets_at : (g : Graph) (i : ℕ) (d : Vec ℕ Global) → i < length g → targets g i ≡ (get_or g i d).items
targets_at [] i d l = absurd (omega (arith, l))
targets_at (r ∷ rs) zero d l = refl
targets_at (r ∷ rs) (suc i) d l = targets_at rs i d (omega (arith, l))

-- where it stands
pub at_place : (xs : List ℕ) (x : ℕ) → Contains xs x → (k : ℕ) × (k < length xs) × (get_or xs k 0 ≡ x)
at_place [] x h = absurd (contains_none x h)
at_place (y ∷ ys) x h =
    contains_cases ((k : ℕ) × (k < length (y ∷ ys)) × (get_or (y ∷ ys) k 0 ≡ x)) y ys x h
    (λ e. (0, omega arith, e))
    (λ m. let r = at_place ys x m in let l = r.1 in (suc r.0, omega (arith, l), r.2))

-- what is reached is a node of the graph
pub reached_within : (g : Graph) → IsWithin g → (i : ℕ) (zs : List ℕ) (j : ℕ) → Chain (HasEdge g) i zs j → j < length g
reached_within g w i [] j c = w.each i j c
reached_within g w i (z ∷ zs) j c = reached_within g w z zs j c.1

-- The search after some steps: what is found is reached; the nodes next to the start are found, and those next to the nodes that
-- were gone on from.
pub record Searching (g : Graph) (start step : ℕ) (found : List ℕ) : Type 0 where
  pub only : (j : ℕ) → Contains found j → Reaches (HasEdge g) start j
  pub begun : (j : ℕ) → HasEdge g start j → Contains found j
  pub gone : (k j : ℕ) → k < step → k < length found → HasEdge g (get_or found k 0) j → Contains found j
  pub once : IsDistinct eqb found

pub search_begins : (g : Graph) (start : ℕ) (ns : List ℕ) → ns ≡ targets g start → Searching g start 0 (with_nodes ns [])
unfolding IsDistinct
search_begins g start ns e = record {
  only = λ j h. ⊎_elim (λ k. absurd (contains_none j k)) (λ k. ([], subst (λ ms. Contains ms j) e k)) (nodes_only ns [] j h);
  begun = λ j h. nodes_have ns [] j (subst (λ ms. Contains ms j) (sym e) h);
  gone = λ k j l m h. absurd (omega (arith, l));
  once = nodes_once ns [] tt;
}

-- a node that is found stands at a place that is gone on from, or later
pub next_place : (k step : ℕ) → k < step + 1 → (k < step) ⊎ (k ≡ step)
next_place k step l = ⊎_elim (λ p. inr p.1) (λ p. let q = p.1 in inl (omega (arith, l, q))) (eqb_tells k step)

pub search_goes : (g : Graph) (start step : ℕ) (found ns : List ℕ) → step < length found → ns ≡ targets g (get_or found step 0) → Searching g start step found → Searching g start (step + 1) (with_nodes ns found)
search_goes g start step found ns l e s = record {
  only = λ j h. ⊎_elim (s.only j) (λ k. reaches_on (HasEdge g) start at j (s.only at here) ([], subst (λ ms. Contains ms j) e k)) (nodes_only ns found j h);
  begun = λ j h. nodes_kept ns found j (s.begun j h);
  gone = λ k j m q h. ⊎_elim (λ before. old k j before h) (λ now. new k j now h) (next_place k step m);
  once = nodes_once ns found s.once;
}
  where
    at : ℕ
    at = get_or found step 0

    here : Contains found at
    here = Contains-get_or found step 0 l

    old : (k j : ℕ) → k < step → HasEdge g (get_or (with_nodes ns found) k 0) j → Contains (with_nodes ns found) j
    old k j m h = nodes_kept ns found j (s.gone k j m (omega (arith, m, l)) (subst (λ i. HasEdge g i j) (nodes_same ns found k (omega (arith, m, l))) h))

    new : (k j : ℕ) → k ≡ step → HasEdge g (get_or (with_nodes ns found) k 0) j → Contains (with_nodes ns found) j
    new k j q h = nodes_have ns found j (subst (λ ms. Contains ms j) (sym e) (subst (λ i. HasEdge g i j) (ap (λ i. get_or (with_nodes ns found) i 0) q ∙ nodes_same ns found step l) h))

-- where all are gone on from, all that is reached is found
pub search_ends : (g : Graph) (start step : ℕ) (found : List ℕ) → length found ≤ step → Searching g start step found → AreReached g start found
search_ends g start step found few s = record { only = s.only; all = λ j h. go start s.begun h.0 j h.1; once = s.once }
  where
    on : (z : ℕ) → Contains found z → (j : ℕ) → HasEdge g z j → Contains found j
    on z h j e = let p = at_place found z h in let l = p.1 in s.gone p.0 j (omega (arith, few, l)) l (subst (λ i. HasEdge g i j) (sym p.2) e)

    go : (x : ℕ) → ((j : ℕ) → HasEdge g x j → Contains found j) → (zs : List ℕ) (j : ℕ) → Chain (HasEdge g) x zs j → Contains found j
    go x f [] j c = f j c
    go x f (z ∷ zs) j c = go z (on z (f z c.0)) zs j c.1

-- no more are found than there are nodes
pub found_few : (g : Graph) (start step : ℕ) (found : List ℕ) → IsWithin g → Searching g start step found → length found ≤ length g
found_few g start step found w s = length-le_from_distinct_below found (length g) s.once (λ q h. let r = s.only q ((is_found q found).0 h) in reached_within g w start r.0 q r.1)

pub all_within : (g : Graph) (start step : ℕ) (found : List ℕ) (size : ℕ) → IsWithin g → size ≡ length g → Searching g start step found → AreBelow size found
all_within g start step found size w e s = record { each = λ n h. let r = s.only n h in subst (λ m. n < m) (sym e) (reached_within g w start r.0 n r.1) }

-- what the search needs of the nodes that it goes on to
pub row_below : (g : Graph) (i size : ℕ) (ns : List ℕ) → IsWithin g → size ≡ length g → ns ≡ targets g i → AreBelow size ns
row_below g i size ns w e q = record { each = λ n h. subst (λ s. n < s) (sym e) (w.each i n (subst (λ ms. Contains ms n) q h)) }

pub found_within : (g : Graph) (start step : ℕ) (found : List ℕ) → IsWithin g → Searching g start step found → step < length found → get_or found step 0 < length g
found_within g start step found w s l = let r = s.only (get_or found step 0) (Contains-get_or found step 0 l) in reached_within g w start r.0 (get_or found step 0) r.1

-- the rows so far are what their nodes reach
pub record AreRows (g c : Graph) : Type 0 where
  pub each : (i : ℕ) → i < length c → AreReached g i (targets c i)

pub no_rows : (g : Graph) → AreRows g []
no_rows g = record { each = λ i l. absurd (omega (arith, l)) }

targets_before : (c : Graph) (r : Vec ℕ Global) (i : ℕ) → i < length c → targets c i ≡ targets (c ++ r ∷ []) i
targets_before [] r i l = absurd (omega (arith, l))
targets_before (q ∷ qs) r zero l = refl
targets_before (q ∷ qs) r (suc i) l = targets_before qs r i (omega (arith, l))

targets_last : (c : Graph) (r : Vec ℕ Global) (i : ℕ) → i ≡ length c → r.items ≡ targets (c ++ r ∷ []) i
targets_last [] r zero e = refl
targets_last [] r (suc i) e = absurd (omega (arith, e))
targets_last (q ∷ qs) r zero e = absurd (omega (arith, e))
targets_last (q ∷ qs) r (suc i) e = targets_last qs r i (omega (arith, e))

pub one_row : (g c : Graph) (r : Vec ℕ Global) (i : ℕ) → length c ≡ i → AreReached g i r.items → AreRows g c → AreRows g (c ++ r ∷ [])
one_row g c r i e h rows = record { each = λ j l. ⊎_elim (λ k. subst (AreReached g j) (targets_before c r j k) (rows.each j k)) (λ q. subst (AreReached g j) (targets_last c r j q) (subst (λ k. AreReached g k r.items) (sym (q ∙ e)) h)) (place j l) }
  where
    place : (j : ℕ) → j < length (c ++ r ∷ []) → (j < length c) ⊎ (j ≡ length c)
    place j l = next_place j (length c) (omega (arith, l, length-append c (r ∷ [])))
