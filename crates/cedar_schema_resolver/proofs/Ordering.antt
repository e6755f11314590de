-- In the order by the number of nodes that they lead to, each node stands after those that it leads to.
use Rattle.std.proofs.Common.{◌≡◌, ℕ, zero, suc, ◌<◌, ◌≤◌, List, [], ◌∷◌, ◌++◌, Bool, true, false, eqb, get_or, take, length, refl, sym, ap, ◌∙◌, subst, ⊎_elim, arith, length-append}
use Rattle.std.specs.Prelude.{Contains}
use Rattle.std.specs.List.{list_any}
use Rattle.std.specs.List.Sorted.{IsPermutation, IsNonDecreasingBy}
use Rattle.std.proofs.Math.ListN.{get_or-map}
use Rattle.std.proofs.lemmas.Bool.{cases_lt}
use Rattle.std.proofs.lemmas.Cmp.{nat_eq_equiv}
use Rattle.std.proofs.lemmas.List.{get_or-take, length-map, length-take}
use Rattle.std.proofs.lemmas.List.Elements.{Contains-get_or, Contains-push_cases}
use Rattle.std.proofs.lemmas.List.Sorted.{Contains-permutation, IsPermutation-map, IsPermutation-sym}
use Rattle.std.proofs.lemmas.Map.Keys.{IsDistinct-push, IsDistinct-IsPermutation}
use Rattle.std.proofs.lemmas.Map.Made.{length-le_from_is_member}
use Rattle.cedar_expr_model.proofs.Lists.{contains_none}
use Rattle.cedar_schema_model.specs.Descent.{Chain, Reaches}
use Rattle.cedar_schema_model.proofs.Decls.Descent.{reaches_on}
use Rattle.cedar_schema_resolver.specs.Graphs.{Graph, targets, HasEdge, IsWithin, IsClosure, IsOrder}
use Rattle.cedar_schema_resolver.specs.Ranks.{LeadsToItself, LeadToOthers, ranks_from, AreByRank}
use Rattle.cedar_schema_resolver.specs.declared.order.Rank.{Rank}
use Rattle.cedar_schema_resolver.proofs.Finding.{is_found}
use Rattle.cedar_schema_resolver.proofs.Searching.{at_place, reached_within}
use Rattle.cedar_schema_resolver.proofs.Ranking.{nodes_of, node_in, node_below, nodes_differ, rank_counts}

-- only nodes of the graph have edges
pub edge_from : (g : Graph) (i j : ℕ) → HasEdge g i j → i < length g
edge_from [] i j h = absurd (contains_none j h)
edge_from (r ∷ rs) zero j h = omega arith
edge_from (r ∷ rs) (suc i) j h = let l = edge_from rs i j h in omega (arith, l)

reach_from : (g : Graph) (i : ℕ) (zs : List ℕ) (j : ℕ) → Chain (HasEdge g) i zs j → i < length g
reach_from g i [] j c = edge_from g i j c
reach_from g i (z ∷ zs) j c = edge_from g i z c.0

not_found : (n : ℕ) (xs : List ℕ) → (Contains xs n → ⊥) → list_any (eqb n) xs ≡ false
not_found n xs h = go (list_any (eqb n) xs) refl
  where
    go : (b : Bool) → list_any (eqb n) xs ≡ b → list_any (eqb n) xs ≡ false
    go true e = absurd (h ((is_found n xs).0 e))
    go false e = e

module _ (g c : Graph) (w : IsWithin g) (closed : IsClosure g c) where
  row_has : (i j : ℕ) → Reaches (HasEdge g) i j → HasEdge c i j
  row_has i j r = (closed.each i (reach_from g i r.0 j r.1)).all j r

  row_only : (i j : ℕ) → HasEdge c i j → Reaches (HasEdge g) i j
  row_only i j h = let l = edge_from c i j h in (closed.each i (omega (arith, l, closed.size))).only j h

  pub itself_reached : (i : ℕ) → LeadsToItself c i → Reaches (HasEdge g) i i
  itself_reached i h = row_only i i h.edge

  -- where none leads to itself a node leads to more than one that it leads to
  fewer : LeadToOthers c → (i j : ℕ) → Reaches (HasEdge g) i j → length (targets c j) < length (targets c i)
  fewer others i j r =
      let l = length-le_from_is_member nat_eq_equiv (targets c j ++ j ∷ []) (targets c i)
      (IsDistinct-push nat_eq_equiv (targets c j) j (closed.each j (reached_within g w i r.0 j r.1)).once (not_found j (targets c j) (others.none j)))
      (λ q h. (is_found q (targets c i)).1 (row_has i q (⊎_elim (λ k. reaches_on (HasEdge g) i j q r (row_only j q k)) (λ e. subst (Reaches (HasEdge g) i) e r) (Contains-push_cases (targets c j) j q ((is_found q (targets c j ++ j ∷ [])).0 h))))) in
      omega (arith, l, length-append (targets c j) (j ∷ []))

  module _ (others : LeadToOthers c) (rs : List Rank) (same : IsPermutation (ranks_from c 0) rs) (rise : IsNonDecreasingBy (λ (r : Rank). r.count) rs) where
    turned : IsPermutation (nodes_of (ranks_from c 0)) (nodes_of rs)
    turned = IsPermutation-map (λ (r : Rank). r.node) (ranks_from c 0) rs same

    abbrev nowhere : Rank
    nowhere = record { count = 0; node = 0 }

    abbrev rank_at : ℕ → Rank
    rank_at k = get_or rs k nowhere

    node_at : (k : ℕ) → get_or (nodes_of rs) k 0 ≡ (rank_at k).node
    node_at k = get_or-map (λ (r : Rank). r.node) rs k nowhere

    counted : (k : ℕ) → k < length rs → (rank_at k).count ≡ length (targets c (get_or (nodes_of rs) k 0))
    counted k l =
        rank_counts c (rank_at k) (Contains-permutation rs (ranks_from c 0) (rank_at k) (IsPermutation-sym (ranks_from c 0) rs same) (Contains-get_or rs k nowhere l))
        ∙ ap (λ n. length (targets c n)) (sym (node_at k))

    long : length (nodes_of rs) ≡ length rs
    long = length-map rs (λ (r : Rank). r.node)

    earlier : (k q : ℕ) → k < length (nodes_of rs) → q < length (nodes_of rs) → Reaches (HasEdge g) (get_or (nodes_of rs) k 0) (get_or (nodes_of rs) q 0) → k ≤ q → ⊥
    earlier k q lk lq r l =
        let less = fewer others (get_or (nodes_of rs) k 0) (get_or (nodes_of rs) q 0) r in
        let up : (rank_at k).count ≤ (rank_at q).count = rise k q nowhere l (omega (arith, lq, long)) in
        omega (arith, less, up, counted k (omega (arith, lk, long)), counted q (omega (arith, lq, long)))

    has : (i : ℕ) → i < length g → Contains (nodes_of rs) i
    has i l = Contains-permutation (nodes_of (ranks_from c 0)) (nodes_of rs) i turned (node_in c 0 i (omega arith) (omega (arith, l, closed.size)))

    before : (k q j : ℕ) → q < k → q < length (nodes_of rs) → get_or (nodes_of rs) q 0 ≡ j → Contains (take k (nodes_of rs)) j
    before k q j l m e = subst (Contains (take k (nodes_of rs))) (get_or-take k (nodes_of rs) q 0 l ∙ e) (Contains-get_or (take k (nodes_of rs)) q 0 (omega (arith, l, m, length-take k (nodes_of rs))))

    pub order_is : IsOrder g (nodes_of rs)
    order_is = record {
      all = has;
      within = λ i h. let b = node_below c 0 i (Contains-permutation (nodes_of rs) (nodes_of (ranks_from c 0)) i (IsPermutation-sym (nodes_of (ranks_from c 0)) (nodes_of rs) turned) h) in let l = b.1 in omega (arith, l, closed.size);
      once = IsDistinct-IsPermutation eqb nat_eq_equiv.symm (nodes_of (ranks_from c 0)) (nodes_of rs) turned (nodes_differ c 0);
      after = λ k j l r.
          let p = at_place (nodes_of rs) j (has j (reached_within g w (get_or (nodes_of rs) k 0) r.0 j r.1)) in
          let m = p.1 in
          ⊎_elim
          (λ q. before k p.0 j q m p.2)
          (λ q. absurd (earlier k p.0 l m (subst (Reaches (HasEdge g) (get_or (nodes_of rs) k 0)) (sym p.2) r) q))
          (cases_lt p.0 k);
      apart = λ i r. others.none i (row_has i i r);
    }

pub ordered : (g c : Graph) (ns : List ℕ) → IsWithin g → IsClosure g c → LeadToOthers c → AreByRank c ns → IsOrder g ns
ordered g c ns w closed others r = subst (IsOrder g) (sym r.are) (order_is g c w closed others r.ranks r.same r.rise)
