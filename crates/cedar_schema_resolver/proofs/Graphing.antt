-- The graph of the numbers of nodes, and that its edges lead where parents do.
use Rattle.std.proofs.Common.{◌≡◌, ℕ, zero, suc, ◌<◌, ◌≤◌, List, [], ◌∷◌, map, Option, Some, length, get_or, refl, sym, ap, ◌∙◌, subst, arith}
use Rattle.std.proofs.lemmas.List.{length-map, get_or_append_left, get_or_push}
use Rattle.std.specs.Prelude.{◌++◌}
use Rattle.std.proofs.Common.{length-append, inl, inr, ◌⊎◌, ◌+◌}
use Rattle.std.proofs.lemmas.Bool.{cases_lt}
use Rattle.std.specs.Prelude.{Contains}
use Rattle.std.specs.List.{filter_map}
use Rattle.std.specs.declared.alloc.Global.{Global}
use Rattle.std.specs.declared.vec.Vec.{Vec}
use Rattle.cedar_expr_model.proofs.Lists.{contains_none, map_has, map_from}
use Rattle.cedar_schema_model.specs.Descent.{Chain, Reaches}
use Rattle.cedar_schema_model.proofs.Decls.Schema.{kept_from, kept_has}
use Rattle.cedar_schema_resolver.specs.Found.{AreBelow}
use Rattle.cedar_schema_resolver.specs.Graphs.{Graph, targets, HasEdge, IsWithin, IsClosure, IsTurned}
use Rattle.cedar_schema_resolver.specs.Numbers.{seen_nodes, names_in, IsAt, AreNumbers, AreOnce, rows_of, AreNamesAt, AreSetsAt}
use Rattle.cedar_schema_resolver.specs.Descent.{HasParentIn, nodes_in, IsGraphOf, AreDescendants}
use Rattle.cedar_schema_resolver.proofs.Places.{at_in, in_at, at_some, one_place, at_map, at_one}

-- the row of a node

row_is : (g : Graph) (i : ℕ) → targets g i ≡ get_or (map (λ r. r.items) g) i []
row_is [] i = refl
row_is (r ∷ rs) zero = refl
row_is (r ∷ rs) (suc i) = row_is rs i

module _ {N S : Type 0} (seen : N → S) where
  pub same_names : (ts : List (N × Vec N Global)) → nodes_in (seen_nodes seen ts) ≡ names_in seen ts
  same_names [] = refl
  same_names (t ∷ ts) = ap (λ ns. seen t.0 ∷ ns) (same_names ts)

  -- the node of a row
  row_from : (f : N → Option ℕ) (ts : List (N × Vec N Global)) (i j : ℕ) → Contains (get_or (rows_of f ts) i []) j → (t : N × Vec N Global) × IsAt ts i t × Contains (filter_map f t.1.items) j
  row_from f [] i j h = absurd (contains_none j h)
  row_from f (t ∷ ts) zero j h = (t, (omega arith, refl), h)
  row_from f (t ∷ ts) (suc i) j h = let r = row_from f ts i j h in let l = r.1.0 in (r.0, (omega (arith, l), r.1.1), r.2)

  row_has : (f : N → Option ℕ) (ts : List (N × Vec N Global)) (i j : ℕ) (t : N × Vec N Global) → IsAt ts i t → Contains (filter_map f t.1.items) j → Contains (get_or (rows_of f ts) i []) j
  row_has f [] i j t h c = let l = h.0 in absurd (omega (arith, l))
  row_has f (u ∷ us) zero j t h c = subst (λ v. Contains (filter_map f v.1.items) j) (sym h.1) c
  row_has f (u ∷ us) (suc i) j t h c = let l = h.0 in row_has f us i j t (omega (arith, l), h.1) c

  module _ (ts : List (N × Vec N Global)) (f : N → Option ℕ) (g : Graph) (numbers : AreNumbers seen (names_in seen ts) f) (once : AreOnce (names_in seen ts)) (rows : map (λ r. r.items) g ≡ rows_of f ts) where
    long : length g ≡ length ts
    long = sym (length-map g (λ r. r.items)) ∙ ap length rows ∙ length-map ts (λ t. filter_map f t.1.items)

    edge_from : (i j : ℕ) → HasEdge g i j → (t : N × Vec N Global) × IsAt ts i t × Contains (filter_map f t.1.items) j
    edge_from i j h = row_from f ts i j (subst (λ ns. Contains ns j) (row_is g i ∙ ap (λ rs. get_or rs i []) rows) h)

    named : (i : ℕ) (t : N × Vec N Global) → IsAt ts i t → IsAt (names_in seen ts) i (seen t.0)
    named i t h = at_map (λ u. seen u.0) ts i t h

    parent : (t : N × Vec N Global) (x : N) → Contains ts t → Contains t.1.items x → HasParentIn (seen_nodes seen ts) (seen t.0) (seen x)
    parent t x h c = ((seen t.0, map seen t.1.items), map_has (λ u. (seen u.0, map seen u.1.items)) ts t h, refl, map_has seen t.1.items x c)

    only : (i j : ℕ) (m n : S) → HasEdge g i j → IsAt (names_in seen ts) i m → IsAt (names_in seen ts) j n → HasParentIn (seen_nodes seen ts) m n
    only i j m n h a b =
        let r = edge_from i j h in
        let k = kept_from f r.0.1.items j r.2 in
        let from : seen r.0.0 ≡ m = at_one (names_in seen ts) i (seen r.0.0) m (named i r.0 r.1) a in
        let to : seen k.0 ≡ n = at_one (names_in seen ts) j (seen k.0) n (numbers.only k.0 j k.2) b in
        subst (λ x. HasParentIn (seen_nodes seen ts) x n) from (subst (HasParentIn (seen_nodes seen ts) (seen r.0.0)) to (parent r.0 k.0 (at_in ts i r.0 r.1) k.1))

    all : (i j : ℕ) (m n : S) → HasParentIn (seen_nodes seen ts) m n → IsAt (names_in seen ts) i m → IsAt (names_in seen ts) j n → HasEdge g i j
    all i j m n p a b =
        let t = map_from (λ u. (seen u.0, map seen u.1.items)) ts p.0 p.1 in
        let name : seen t.0.0 ≡ m = ap (λ u. u.0) t.2 ∙ sym p.2 in
        let x = map_from seen t.0.1.items n (subst (λ ns. Contains ns n) (ap (λ u. u.1) (sym t.2)) p.3) in
        let at = in_at ts t.0 t.1 in
        let here : at.0 ≡ i = one_place (names_in seen ts) once.none at.0 i m (subst (IsAt (names_in seen ts) at.0) name (named at.0 t.0 at.1)) a in
        let k = numbers.all x.0 (subst (Contains (names_in seen ts)) (sym x.2) (at_in (names_in seen ts) j n b)) in
        let there : k.0 ≡ j = one_place (names_in seen ts) once.none k.0 j n (subst (IsAt (names_in seen ts) k.0) x.2 (numbers.only x.0 k.0 k.1)) b in
        subst (λ ns. Contains ns j) (sym (row_is g i ∙ ap (λ rs. get_or rs i []) rows))
        (row_has f ts i j t.0 (subst (λ q. IsAt ts q t.0) here at.1) (kept_has f t.0.1.items x.0 j x.1 (k.1 ∙ ap Some there)))

    within : IsWithin g
    within = record { each = λ i j h. let r = edge_from i j h in let k = kept_from f r.0.1.items j r.2 in let l = (numbers.only k.0 j k.2).0 in omega (arith, l, long, length-map ts (λ t. seen t.0)) }

    pub graph_is : IsGraphOf (seen_nodes seen ts) g
    graph_is = record {
      size = long ∙ sym (length-map ts (λ t. (seen t.0, map seen t.1.items)));
      within = within;
      only = λ i j m n h a b. only i j m n h (subst (λ ns. IsAt ns i m) (same_names ts) a) (subst (λ ns. IsAt ns j n) (same_names ts) b);
      all = λ i j m n h a b. all i j m n h (subst (λ ns. IsAt ns i m) (same_names ts) a) (subst (λ ns. IsAt ns j n) (same_names ts) b);
    }

first_row : (g : Graph) (i j : ℕ) → HasEdge g i j → i < length g
first_row [] i j h = absurd (contains_none j h)
first_row (r ∷ rs) zero j h = omega arith
first_row (r ∷ rs) (suc i) j h = let l = first_row rs i j h in omega (arith, l)

-- chains of edges and of parents
module _ {S : Type 0} (ts : List (S × List S)) (g : Graph) (is : IsGraphOf ts g) where
  sized : length g ≡ length (nodes_in ts)
  sized = is.size ∙ sym (length-map ts (λ t. t.0))

  pub names_chain : (i : ℕ) (zs : List ℕ) (j : ℕ) (m n : S) → Chain (HasEdge g) i zs j → IsAt (nodes_in ts) i m → IsAt (nodes_in ts) j n → Reaches (HasParentIn ts) m n
  names_chain i [] j m n c a b = ([], is.only i j m n c a b)
  names_chain i (z ∷ zs) j m n c a b =
      let l = is.within.each i z c.0 in
      let s = at_some (nodes_in ts) z (omega (arith, l, sized)) in
      let r = names_chain z zs j s.0 n c.1 s.1 b in
      (s.0 ∷ r.0, (is.only i z m s.0 c.0 a s.1, r.1))

  starts : (m n : S) (zs : List S) → Chain (HasParentIn ts) m zs n → Contains (nodes_in ts) m
  starts m n [] c = subst (Contains (nodes_in ts)) (sym c.2) (map_has (λ t. t.0) ts c.0 c.1)
  starts m n (z ∷ zs) c = subst (Contains (nodes_in ts)) (sym c.0.2) (map_has (λ t. t.0) ts c.0.0 c.0.1)

  pub numbers_chain : (m : S) (zs : List S) (n : S) (i j : ℕ) → Chain (HasParentIn ts) m zs n → IsAt (nodes_in ts) i m → IsAt (nodes_in ts) j n → Reaches (HasEdge g) i j
  numbers_chain m [] n i j c a b = ([], is.all i j m n c a b)
  numbers_chain m (z ∷ zs) n i j c a b =
      let k = in_at (nodes_in ts) z (starts z n zs c.1) in
      let r = numbers_chain z zs n k.0 j c.1 k.1 b in
      (k.0 ∷ r.0, (is.all i k.0 m z c.0 a k.1, r.1))

  -- what the closure, turned round, leads to are the descendants
  pub descendants_are : (c t : Graph) (sets : List (List S)) → IsClosure g c → IsTurned c t → AreSetsAt (nodes_in ts) t sets → AreDescendants ts sets
  descendants_are c t sets closed back at = record {
    size = at.size ∙ back.size ∙ closed.size ∙ is.size;
    only = λ i m n a h.
        let l = a.0 in
        let k = (at.each i (omega (arith, l, sized, back.size, closed.size))).only m h in
        let q = k.2.0 in
        let r = (closed.each k.0 (omega (arith, q, sized))).only i (back.only i k.0 k.1) in
        (at_in (nodes_in ts) k.0 m k.2, names_chain k.0 r.0 i m n r.1 k.2 a);
    all = λ i m n a h r.
        let l = a.0 in
        let k = in_at (nodes_in ts) m h in
        let q = k.1.0 in
        (at.each i (omega (arith, l, sized, back.size, closed.size))).all m k.0 (back.all k.0 i ((closed.each k.0 (omega (arith, q, sized))).all i (numbers_chain m r.0 n k.0 i r.1 k.1 a))) k.1;
  }

-- rows in turn
pub record SetsTo {S : Type 0} (names : List S) (g : Graph) (k : ℕ) (sets : List (List S)) : Type 0 where
  pub size : length sets ≡ k
  pub each : (i : ℕ) → i < k → AreNamesAt names (targets g i) (get_or sets i [])

pub no_sets : {S : Type 0} (names : List S) (g : Graph) → SetsTo names g 0 []
no_sets names g = record { size = refl; each = λ i l. absurd (omega (arith, l)) }

pub one_set : {S : Type 0} (names : List S) (g : Graph) (k : ℕ) (sets : List (List S)) (row : List ℕ) (ss : List S) → row ≡ targets g k → AreNamesAt names row ss → SetsTo names g k sets → SetsTo names g (k + 1) (sets ++ ss ∷ [])
one_set {S} names g k sets row ss e a t = record {
  size = omega (arith, t.size, length-append sets (ss ∷ []));
  each = λ i l. go i l (cases_lt i k);
}
  where
    go : (i : ℕ) → i < k + 1 → (i < k) ⊎ (k ≤ i) → AreNamesAt names (targets g i) (get_or (sets ++ ss ∷ []) i [])
    go i l (inl m) = subst (AreNamesAt names (targets g i)) (sym (get_or_append_left sets (ss ∷ []) [] i (omega (arith, m, t.size)))) (t.each i m)
    go i l (inr m) =
        let q : k ≡ i = omega (arith, l, m) in
        subst (λ j. AreNamesAt names (targets g j) (get_or (sets ++ ss ∷ []) j [])) q
        (subst (AreNamesAt names (targets g k)) (sym (get_or_push sets ss [] k t.size)) (subst (λ r. AreNamesAt names r ss) e a))

pub all_sets : {S : Type 0} (names : List S) (g : Graph) (k : ℕ) (sets : List (List S)) → k ≡ length g → SetsTo names g k sets → AreSetsAt names g sets
all_sets names g k sets e t = record { size = t.size ∙ e; each = λ i l. t.each i (omega (arith, l, e)) }

-- the row of a node, and where edges lead
pub row_at : (g : Graph) (i : ℕ) (r : Vec ℕ Global) → i < length g → r ≡ get_or g i r → r.items ≡ targets g i
row_at [] i r l e = absurd (omega (arith, l))
row_at (q ∷ qs) zero r l e = ap (λ v. v.items) e
row_at (q ∷ qs) (suc i) r l e = row_at qs i r (omega (arith, l)) e

pub row_below : (g : Graph) (i size : ℕ) (ns : List ℕ) → IsWithin g → length g ≡ size → ns ≡ targets g i → AreBelow size ns
row_below g i size ns w e q = record { each = λ n h. let l = w.each i n (subst (λ ms. Contains ms n) q h) in omega (arith, l, e) }

chain_within : (g : Graph) → IsWithin g → (i : ℕ) (zs : List ℕ) (j : ℕ) → Chain (HasEdge g) i zs j → j < length g
chain_within g w i [] j c = w.each i j c
chain_within g w i (z ∷ zs) j c = chain_within g w z zs j c.1

pub closure_within : (g c : Graph) → IsWithin g → IsClosure g c → IsWithin c
closure_within g c w closed = record { each = λ i j h. let l = first_row c i j h in let r = (closed.each i (omega (arith, l, closed.size))).only j h in let m = chain_within g w i r.0 j r.1 in omega (arith, m, closed.size) }

pub turned_within : (c t : Graph) → IsTurned c t → IsWithin t
turned_within c t back = record { each = λ i j h. let l = first_row c j i (back.only i j h) in omega (arith, l, back.size) }
