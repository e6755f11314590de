-- Nodes with the lengths of their rows: they are all nodes, each once.
use Rattle.std.proofs.Common.{◌≡◌, ℕ, zero, suc, ◌<◌, ◌≤◌, ◌+◌, List, [], ◌∷◌, ◌++◌, false, eqb, get_or, map, take, drop, length, sym, ap, ◌∙◌, subst, ⊎_elim, arith, Vec, Global}
use Rattle.std.specs.Prelude.{Contains}
use Rattle.std.specs.List.{IsDistinct}
use Rattle.std.proofs.lemmas.Map.Keys.{IsDistinct-from_apart}
use Rattle.std.proofs.Math.Nat.{eq-or-lt_of_le}
use Rattle.std.proofs.lemmas.Bool.Decides.{eqb_tells}
use Rattle.std.proofs.lemmas.List.{take_more, take_all, drop_more, drop_all, append_assoc, append-nil, map-append}
use Rattle.cedar_expr_model.proofs.Lists.{contains_head, contains_tail, contains_cases, contains_none}
use Rattle.cedar_schema_resolver.specs.Graphs.{Graph, targets}
use Rattle.cedar_schema_resolver.specs.Ranks.{ranks_from}
use Rattle.cedar_schema_resolver.specs.declared.order.Rank.{Rank}

abbrev pub nodes_of : List Rank → List ℕ
nodes_of rs = map (λ (r : Rank). r.node) rs

pub node_in : (c : Graph) (i j : ℕ) → i ≤ j → j < length c + i → Contains (nodes_of (ranks_from c i)) j
node_in [] i j l m = absurd (omega (arith, l, m))
node_in (r ∷ rs) i j l m =
    ⊎_elim
    (λ e. subst (Contains (nodes_of (ranks_from (r ∷ rs) i))) e (contains_head i (nodes_of (ranks_from rs (suc i)))))
    (λ k. contains_tail i (nodes_of (ranks_from rs (suc i))) j (node_in rs (suc i) j (omega (arith, k)) (omega (arith, m))))
    (eq-or-lt_of_le l)

pub node_below : (c : Graph) (i j : ℕ) → Contains (nodes_of (ranks_from c i)) j → (i ≤ j) × (j < length c + i)
node_below [] i j h = absurd (contains_none j h)
node_below (r ∷ rs) i j h =
    contains_cases ((i ≤ j) × (j < length (r ∷ rs) + i)) i (nodes_of (ranks_from rs (suc i))) j h
    (λ e. (omega (arith, e), omega (arith, e)))
    (λ k. let b = node_below rs (suc i) j k in let l = b.0 in let m = b.1 in (omega (arith, l), omega (arith, m)))

node_is : (c : Graph) (i k d : ℕ) → k < length (nodes_of (ranks_from c i)) → get_or (nodes_of (ranks_from c i)) k d ≡ k + i
node_is [] i k d l = absurd (omega (arith, l))
node_is (r ∷ rs) i zero d l = omega arith
node_is (r ∷ rs) i (suc k) d l = let e = node_is rs (suc i) k d (omega (arith, l)) in omega (arith, e)

differs : (m n : ℕ) → m < n → eqb m n ≡ false
differs m n l = ⊎_elim (λ p. let e = p.1 in absurd (omega (arith, l, e))) (λ p. p.0) (eqb_tells m n)

pub nodes_differ : (c : Graph) (i : ℕ) → IsDistinct eqb (nodes_of (ranks_from c i))
nodes_differ c i =
    IsDistinct-from_apart eqb (nodes_of (ranks_from c i))
    (λ m n d l k.
    let a = node_is c i m d (omega (arith, l, k)) in
    let b = node_is c i n d k in
    differs (get_or (nodes_of (ranks_from c i)) m d) (get_or (nodes_of (ranks_from c i)) n d) (omega (arith, a, b, l)))

-- the count of a node is the length of its row
abbrev pub Counts : Graph → ℕ → Rank → Type 0
Counts c i r = (k : ℕ) × (r.node ≡ k + i) × (r.count ≡ length (targets c k))

pub rank_is : (c : Graph) (i : ℕ) (r : Rank) → Contains (ranks_from c i) r → Counts c i r
rank_is [] i r h = absurd (contains_none r h)
rank_is (row ∷ rows) i r h =
    contains_cases (Counts (row ∷ rows) i r) (record { count = length row.items; node = i }) (ranks_from rows (suc i)) r h
    (λ e. let m : r.node ≡ i = sym (ap (λ (q : Rank). q.node) e) in (0, omega (arith, m), sym (ap (λ (q : Rank). q.count) e)))
    (λ k. let q = rank_is rows (suc i) r k in let e = q.1 in (suc q.0, omega (arith, e), q.2))

pub rank_counts : (c : Graph) (r : Rank) → Contains (ranks_from c 0) r → r.count ≡ length (targets c r.node)
rank_counts c r h = let q = rank_is c 0 r h in let e = q.1 in let n : q.0 ≡ r.node = omega (arith, e) in q.2 ∙ ap (λ k. length (targets c k)) n

-- a rank more of those that are left, and the end
pub rank_one : (c : Graph) (rs ts whole : List Rank) (k : ℕ) (d : Vec ℕ Global) (count : ℕ) → k < length c → count ≡ length (get_or c k d).items → ts ≡ rs ++ record { count = count; node = k } ∷ [] → rs ++ ranks_from (drop k c) k ≡ whole → ts ++ ranks_from (drop (k + 1) c) (k + 1) ≡ whole
rank_one c rs ts whole k d count l n e so =
    let r : Rank = record { count = length (get_or c k d).items; node = k } in
    let next : k + 1 ≡ suc k = omega arith in
    ap (λ xs. xs ++ ranks_from (drop (k + 1) c) (k + 1)) (e ∙ ap (λ m. rs ++ record { count = m; node = k } ∷ []) n)
    ∙ append_assoc rs (r ∷ []) (ranks_from (drop (k + 1) c) (k + 1))
    ∙ ap (λ m. rs ++ r ∷ ranks_from (drop (k + 1) c) m) next ∙ ap (λ xs. rs ++ ranks_from xs k) (sym (drop_more c k d l)) ∙ so

pub rank_all : (c : Graph) (rs whole : List Rank) (k : ℕ) → length c ≤ k → rs ++ ranks_from (drop k c) k ≡ whole → rs ≡ whole
rank_all c rs whole k l so = sym (append-nil rs) ∙ ap (λ xs. rs ++ ranks_from xs k) (sym (drop_all k c l)) ∙ so

-- one more node, and the end
pub node_one : (rs : List Rank) (ns ms : List ℕ) (i n : ℕ) (d : Rank) → i < length rs → n ≡ (get_or rs i d).node → ms ≡ ns ++ n ∷ [] → ns ≡ nodes_of (take i rs) → ms ≡ nodes_of (take (i + 1) rs)
node_one rs ns ms i n d l q e so =
    e ∙ ap (λ m. ns ++ m ∷ []) q ∙ ap (λ xs. xs ++ (get_or rs i d).node ∷ []) so
    ∙ sym (ap nodes_of (take_more rs i d l) ∙ map-append (λ (r : Rank). r.node) (take i rs) (get_or rs i d ∷ []))
