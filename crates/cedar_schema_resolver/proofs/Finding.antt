-- Nodes found one after the other: what they are, that none is found twice, and the marks of those found.
use Rattle.std.proofs.Common.{◌≡◌, ◌≢◌, ◌⊎◌, ℕ, ◌<◌, ◌≤◌, ◌+◌, List, [], ◌∷◌, ◌++◌, Bool, true, false, ◌||◌, eqb, get_or, set, replicate, length, refl, drop, sym, ap, subst, ◌∙◌, inl, inr, ⊎_elim, arith, length-append}
use Rattle.std.specs.Prelude.{Contains, if◌then◌else◌}
use Rattle.std.specs.Bool.{Decides}
use Rattle.std.specs.List.{list_any, IsDistinct}
use Rattle.std.proofs.lemmas.Bool.Decides.{Decides-eqb, eqb_tells}
use Rattle.std.proofs.lemmas.Cmp.{nat_eq_equiv}
use Rattle.std.proofs.lemmas.List.{at_drop_more, drop_more, drop_all, get_or_append_left, get_or-set_same, get_or-set_other, get_or-replicate, length-replicate}
use Rattle.std.proofs.lemmas.Bool.{cases_lt}
use Rattle.std.proofs.Math.ListN.{get_or-eq_default}
use Rattle.std.proofs.lemmas.List.Elements.{Contains-append_left, Contains-push, Contains-push_cases}
use Rattle.std.proofs.lemmas.List.Folds.{list_any-append}
use Rattle.std.proofs.lemmas.Map.Keys.{IsDistinct-push}
use Rattle.cedar_expr_model.proofs.Lists.{contains_head, contains_tail, contains_cases, contains_none, found-Decides, any_from, any_has}
use Rattle.std.proofs.lemmas.Bool.{true≢false}
use Rattle.cedar_schema_resolver.specs.Found.{with_node, with_nodes, AreMarks}

pub is_found : (n : ℕ) (xs : List ℕ) → Decides (list_any (eqb n) xs) (Contains xs n)
is_found n xs = found-Decides eqb Decides-eqb n xs

-- a node that is asked for the other way round
pub is_itself : (n : ℕ) (xs : List ℕ) → list_any (λ y. eqb y n) xs ≡ true → Contains xs n
is_itself n xs h = let r = any_from (λ y. eqb y n) xs h in subst (Contains xs) ((Decides-eqb r.0 n).0 r.2) r.1

pub not_itself : (n : ℕ) (xs : List ℕ) → list_any (λ y. eqb y n) xs ≡ false → Contains xs n → ⊥
not_itself n xs h k = true≢false (sym (any_has (λ y. eqb y n) xs n k ((Decides-eqb n n).1 refl)) ∙ h)

-- one more
node_kept : (n : ℕ) (xs : List ℕ) (j : ℕ) → Contains xs j → Contains (with_node n xs) j
node_kept n xs j h = go (list_any (eqb n) xs)
  where
    go : (b : Bool) → Contains (if b then xs else xs ++ n ∷ []) j
    go true = h
    go false = Contains-append_left xs (n ∷ []) j h

node_has : (n : ℕ) (xs : List ℕ) → Contains (with_node n xs) n
node_has n xs = go (list_any (eqb n) xs) refl
  where
    go : (b : Bool) → list_any (eqb n) xs ≡ b → Contains (if b then xs else xs ++ n ∷ []) n
    go true e = (is_found n xs).0 e
    go false e = Contains-push xs n

node_only : (n : ℕ) (xs : List ℕ) (j : ℕ) → Contains (with_node n xs) j → Contains xs j ⊎ (n ≡ j)
node_only n xs j = go (list_any (eqb n) xs)
  where
    go : (b : Bool) → Contains (if b then xs else xs ++ n ∷ []) j → Contains xs j ⊎ (n ≡ j)
    go true h = inl h
    go false h = Contains-push_cases xs n j h

node_once : (n : ℕ) (xs : List ℕ) → IsDistinct eqb xs → IsDistinct eqb (with_node n xs)
node_once n xs h = go (list_any (eqb n) xs) refl
  where
    go : (b : Bool) → list_any (eqb n) xs ≡ b → IsDistinct eqb (if b then xs else xs ++ n ∷ [])
    go true e = h
    go false e = IsDistinct-push nat_eq_equiv xs n h e

node_same : (n : ℕ) (xs : List ℕ) (k : ℕ) → k < length xs → get_or (with_node n xs) k 0 ≡ get_or xs k 0
node_same n xs k l = go (list_any (eqb n) xs)
  where
    go : (b : Bool) → get_or (if b then xs else xs ++ n ∷ []) k 0 ≡ get_or xs k 0
    go true = refl
    go false = get_or_append_left xs (n ∷ []) 0 k l

node_longer : (n : ℕ) (xs : List ℕ) → length xs ≤ length (with_node n xs)
node_longer n xs = go (list_any (eqb n) xs)
  where
    go : (b : Bool) → length xs ≤ length (if b then xs else xs ++ n ∷ [])
    go true = omega arith
    go false = omega (arith, length-append xs (n ∷ []))

-- several more
pub nodes_kept : (ns xs : List ℕ) (j : ℕ) → Contains xs j → Contains (with_nodes ns xs) j
nodes_kept [] xs j h = h
nodes_kept (n ∷ ns) xs j h = nodes_kept ns (with_node n xs) j (node_kept n xs j h)

pub nodes_have : (ns xs : List ℕ) (j : ℕ) → Contains ns j → Contains (with_nodes ns xs) j
nodes_have [] xs j h = absurd (contains_none j h)
nodes_have (n ∷ ns) xs j h =
    contains_cases (Contains (with_nodes (n ∷ ns) xs) j) n ns j h
    (λ e. nodes_kept ns (with_node n xs) j (subst (Contains (with_node n xs)) e (node_has n xs)))
    (λ k. nodes_have ns (with_node n xs) j k)

pub nodes_only : (ns xs : List ℕ) (j : ℕ) → Contains (with_nodes ns xs) j → Contains xs j ⊎ Contains ns j
nodes_only [] xs j h = inl h
nodes_only (n ∷ ns) xs j h =
    ⊎_elim
    (λ k. ⊎_elim (λ m. inl m) (λ e. inr (subst (Contains (n ∷ ns)) e (contains_head n ns))) (node_only n xs j k))
    (λ k. inr (contains_tail n ns j k))
    (nodes_only ns (with_node n xs) j h)

pub nodes_once : (ns xs : List ℕ) → IsDistinct eqb xs → IsDistinct eqb (with_nodes ns xs)
nodes_once [] xs h = h
nodes_once (n ∷ ns) xs h = nodes_once ns (with_node n xs) (node_once n xs h)

pub nodes_same : (ns xs : List ℕ) (k : ℕ) → k < length xs → get_or (with_nodes ns xs) k 0 ≡ get_or xs k 0
nodes_same [] xs k l = refl
nodes_same (n ∷ ns) xs k l = let m = node_longer n xs in nodes_same ns (with_node n xs) k (omega (arith, m, l)) ∙ node_same n xs k l

-- one more of those that are left, and the end
pub nodes_one : (ns xs ys whole : List ℕ) (i d n : ℕ) → i < length ns → n ≡ get_or ns i d → ys ≡ with_node n xs → with_nodes (drop i ns) xs ≡ whole → with_nodes (drop (i + 1) ns) ys ≡ whole
nodes_one ns xs ys whole i d n l e q so =
    ap (with_nodes (drop (i + 1) ns)) q ∙ ap (λ m. with_nodes (drop (i + 1) ns) (with_node m xs)) e ∙ sym (at_drop_more (λ ms. with_nodes ms xs) ns i d l) ∙ so

pub nodes_all : (ns xs whole : List ℕ) (i : ℕ) → length ns ≤ i → with_nodes (drop i ns) xs ≡ whole → xs ≡ whole
nodes_all ns xs whole i l so = ap (λ ms. with_nodes ms xs) (sym (drop_all i ns l)) ∙ so

-- the marks
pub none_marked : (n : ℕ) → AreMarks (replicate n false) []
none_marked n = record { same = λ j. ⊎_elim (λ l. get_or-replicate n j false false l) (λ l. get_or-eq_default (replicate n false) false (omega (arith, l, length-replicate n false))) (cases_lt j n) }

pub marked_already : (marks : List Bool) (found : List ℕ) (n : ℕ) → AreMarks marks found → get_or marks n false ≡ true → found ≡ with_node n found
marked_already marks found n m e = ap (λ b. if b then found else found ++ n ∷ []) (sym e ∙ m.same n)

pub marked_found : (marks : List Bool) (found : List ℕ) (n : ℕ) → AreMarks marks found → get_or marks n false ≡ false → found ++ n ∷ [] ≡ with_node n found
marked_found marks found n m e = ap (λ b. if b then found else found ++ n ∷ []) (sym e ∙ m.same n)

pub one_marked : (marks : List Bool) (found : List ℕ) (n : ℕ) → n < length marks → AreMarks marks found → AreMarks (set marks n true) (found ++ n ∷ [])
one_marked marks found n l m = record { same = λ j. go j (eqb_tells j n) }
  where
    or_false : (a : Bool) → a ≡ (a || false)
    or_false true = refl
    or_false false = refl

    or_true : (a : Bool) → true ≡ (a || true)
    or_true true = refl
    or_true false = refl

    go : (j : ℕ) → ((eqb j n ≡ true) × (j ≡ n)) ⊎ ((eqb j n ≡ false) × (j ≢ n)) → get_or (set marks n true) j false ≡ list_any (eqb j) (found ++ n ∷ [])
    go j (inl p) =
        ap (λ i. get_or (set marks n true) i false) p.1 ∙ get_or-set_same marks n true false l ∙ or_true (list_any (eqb j) found)
        ∙ ap (λ b. list_any (eqb j) found || (b || false)) (sym p.0) ∙ sym (list_any-append (eqb j) found (n ∷ []))
    go j (inr p) =
        get_or-set_other marks n j true false p.1 ∙ m.same j ∙ or_false (list_any (eqb j) found)
        ∙ ap (λ b. list_any (eqb j) found || (b || false)) (sym p.0) ∙ sym (list_any-append (eqb j) found (n ∷ []))

-- Each node that is marked is one of these.
pub record AreLeft (marks : List Bool) (ns : List ℕ) : Type 0 where
  pub each : (n : ℕ) → get_or marks n false ≡ true → Contains ns n

pub all_left : (marks : List Bool) (found : List ℕ) → AreMarks marks found → AreLeft marks found
all_left marks found m = record { each = λ n h. (is_found n found).0 (sym (m.same n) ∙ h) }

pub one_unmarked : (marks : List Bool) (found : List ℕ) (i d n : ℕ) → i < length found → n ≡ get_or found i d → n < length marks → AreLeft marks (drop i found) → AreLeft (set marks n false) (drop (i + 1) found)
one_unmarked marks found i d n l e b m = record { each = λ j h. go j h (eqb_tells j n) }
  where
    go : (j : ℕ) → get_or (set marks n false) j false ≡ true → ((eqb j n ≡ true) × (j ≡ n)) ⊎ ((eqb j n ≡ false) × (j ≢ n)) → Contains (drop (i + 1) found) j
    go j h (inl p) = absurd (true≢false (sym h ∙ ap (λ k. get_or (set marks n false) k false) p.1 ∙ get_or-set_same marks n false false b))
    go j h (inr p) =
        contains_cases (Contains (drop (i + 1) found) j) (get_or found i d) (drop (i + 1) found) j
        (subst (λ xs. Contains xs j) (drop_more found i d l) (m.each j (sym (get_or-set_other marks n j false false p.1) ∙ h)))
        (λ q. absurd (p.1 (sym q ∙ sym e)))
        (λ k. k)

pub none_left : (marks : List Bool) (found : List ℕ) (i : ℕ) → length found ≤ i → AreLeft marks (drop i found) → AreMarks marks []
none_left marks found i l m = record { same = λ n. go n (get_or marks n false) refl }
  where
    go : (n : ℕ) (b : Bool) → get_or marks n false ≡ b → b ≡ list_any (eqb n) []
    go n true h = absurd (contains_none n (subst (λ xs. Contains xs n) (drop_all i found l) (m.each n h)))
    go n false h = refl
