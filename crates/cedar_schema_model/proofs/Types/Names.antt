-- Rising lists of names: membership, unions, and lists that are the same.
use Rattle.std.proofs.Common.{◌≡◌, ◌⊎◌, inl, inr, ⊎_elim, List, [], ◌∷◌, true, refl, sym, ap, ◌∙◌, subst, true≢false, is_lt, Ordering, Less, Equal, Greater, Contains}
use Rattle.std.specs.List.{list_all, list_any}
use Rattle.std.specs.Ordering.{match_ordering, ordering_reverse}
use Rattle.std.specs.Cmp.{IsTotalOrder}
use Rattle.std.specs.Cmp.Lexicographic.{on_texts}
use Rattle.std.proofs.lemmas.Cmp.{tied_itself}
use Rattle.std.proofs.lemmas.Map.Lookups.{exact_bytes}
use Rattle.cedar_expr_model.specs.Name.{Name, name_eq, name_text, is_well_formed}
use Rattle.cedar_expr_model.specs.UidOrder.{name_cmp}
use Rattle.cedar_expr_model.proofs.Equality.{name_eq-Decides}
use Rattle.cedar_expr_model.proofs.Lists.{both_hold, hold_both, all_each, all_from, found-Decides, contains_head, contains_tail, contains_cases, contains_none}
use Rattle.cedar_expr_model.proofs.UidText.{name_text_apart}
use Rattle.cedar_schema_model.specs.Subtype.{are_among}
use Rattle.cedar_schema_model.specs.OfLaws.Formed.{is_union}
use Rattle.cedar_schema_model.specs.Join.{name_inserted, names_of_both}
use Rattle.cedar_schema_model.proofs.Types.Lookups.{no_lie, less_is}
use Rattle.cedar_expr_model.specs.Lists.{rises}

pub in_list : (x : Name) (ns : List Name) → list_any (name_eq x) ns ≡ true → Contains ns x
in_list x ns h = (found-Decides name_eq name_eq-Decides x ns).0 h

pub listed : (x : Name) (ns : List Name) → Contains ns x → list_any (name_eq x) ns ≡ true
listed x ns h = (found-Decides name_eq name_eq-Decides x ns).1 h

pub among_at : (ns ms : List Name) → are_among ns ms ≡ true → (x : Name) → Contains ns x → Contains ms x
among_at ns ms h x k = in_list x ms (all_each (λ n. list_any (name_eq n) ms) ns h x k)

pub among_from : (ns ms : List Name) → ((x : Name) → Contains ns x → Contains ms x) → are_among ns ms ≡ true
among_from ns ms h = all_from (λ n. list_any (name_eq n) ms) ns (λ x k. listed x ms (h x k))

pub among_on : (as_ bs cs : List Name) → are_among as_ bs ≡ true → are_among bs cs ≡ true → are_among as_ cs ≡ true
among_on as_ bs cs h k = among_from as_ cs (λ x i. among_at bs cs k x (among_at as_ bs h x i))

pub among_same : (ns : List Name) → are_among ns ns ≡ true
among_same ns = among_from ns ns (λ x k. k)

-- the order
pub name_order : IsTotalOrder name_cmp
name_order = on_texts name_text

abbrev pub Named : List Name → Type 0
Named ns = list_all is_well_formed ns ≡ true

abbrev pub Rising : List Name → Type 0
Rising ns = rises name_cmp ns ≡ true

pub union_parts : (ns : List Name) → is_union ns ≡ true → Named ns × Rising ns
union_parts [] h = no_lie h
union_parts (n ∷ ns) h = both_hold (list_all is_well_formed (n ∷ ns)) (rises name_cmp (n ∷ ns)) h

pub named_tail : (n : Name) (ns : List Name) → Named (n ∷ ns) → (is_well_formed n ≡ true) × Named ns
named_tail n ns h = both_hold (is_well_formed n) (list_all is_well_formed ns) h

pub named_name : (ns : List Name) → Named ns → (x : Name) → Contains ns x → is_well_formed x ≡ true
named_name ns h x k = all_each is_well_formed ns h x k

pub rising_tail : (n : Name) (ns : List Name) → Rising (n ∷ ns) → Rising ns
rising_tail n [] h = refl
rising_tail n (m ∷ ms) h = (both_hold (is_lt (name_cmp n m)) (rises name_cmp (m ∷ ms)) h).1

pub first_before : (n : Name) (ns : List Name) → Rising (n ∷ ns) → (x : Name) → Contains ns x → name_cmp n x ≡ Less
first_before n [] h x k = absurd (contains_none x k)
first_before n (m ∷ ms) h x k =
    let p = both_hold (is_lt (name_cmp n m)) (rises name_cmp (m ∷ ms)) h in
    let l = less_is (name_cmp n m) p.0 in
    contains_cases (name_cmp n x ≡ Less) m ms x k
    (λ e. subst (λ y. name_cmp n y ≡ Less) e l)
    (λ i. name_order.trans n m x l (first_before m ms p.1 x i))

pub rising_cons : (n : Name) (ns : List Name) → ((x : Name) → Contains ns x → name_cmp n x ≡ Less) → Rising ns → Rising (n ∷ ns)
rising_cons n [] h r = refl
rising_cons n (m ∷ ms) h r = hold_both (is_lt (name_cmp n m)) (rises name_cmp (m ∷ ms)) (ap is_lt (h m (contains_head m ms))) r

pub never_less : (n : Name) → name_cmp n n ≡ Less → ⊥
never_less n h = true≢false (sym (ap is_lt h) ∙ ap is_lt (tied_itself name_order n))

pub not_both_less : (m n : Name) → name_cmp m n ≡ Less → name_cmp n m ≡ Less → ⊥
not_both_less m n h k = never_less m (name_order.trans m n m h k)

pub turned : (m n : Name) → name_cmp m n ≡ Greater → name_cmp n m ≡ Less
turned m n h = name_order.antisymm n m ∙ ap ordering_reverse h

pub same_name_text : (m n : Name) → is_well_formed m ≡ true → is_well_formed n ≡ true → name_cmp m n ≡ Equal → m ≡ n
same_name_text m n v w e = name_text_apart m n v w (exact_bytes (name_text m) (name_text n) e)

-- one more
inserted_step : (n m : Name) (ms : List Name) (o : Ordering) → name_cmp n m ≡ o → name_inserted n (m ∷ ms) ≡ match_ordering o (n ∷ m ∷ ms) (m ∷ ms) (m ∷ name_inserted n ms)
inserted_step n m ms o e = ap (λ x. match_ordering x (n ∷ m ∷ ms) (m ∷ ms) (m ∷ name_inserted n ms)) e

abbrev Either : Name → Name → List Name → Type 0
Either n x ms = (n ≡ x) ⊎ Contains ms x

in_step : (o : Ordering) (n m : Name) (ms : List Name) (x : Name) → (Contains (name_inserted n ms) x → Either n x ms) → Contains (match_ordering o (n ∷ m ∷ ms) (m ∷ ms) (m ∷ name_inserted n ms)) x → Either n x (m ∷ ms)
in_step Less n m ms x rest h = contains_cases (Either n x (m ∷ ms)) n (m ∷ ms) x h (λ e. inl e) (λ k. inr k)
in_step Equal n m ms x rest h = inr h
in_step Greater n m ms x rest h =
    contains_cases (Either n x (m ∷ ms)) m (name_inserted n ms) x h
    (λ e. inr (subst (λ y. Contains (y ∷ ms) x) (sym e) (contains_head x ms)))
    (λ k. ⊎_elim (λ e. inl e) (λ i. inr (contains_tail m ms x i)) (rest k))

pub inserted_in : (n : Name) (ms : List Name) (x : Name) → Contains (name_inserted n ms) x → Either n x ms
inserted_in n [] x h = contains_cases (Either n x []) n [] x h (λ e. inl e) (λ k. inr k)
inserted_in n (m ∷ ms) x h = in_step (name_cmp n m) n m ms x (inserted_in n ms x) h

old_step : (o : Ordering) (n m : Name) (ms : List Name) (x : Name) → (Contains ms x → Contains (name_inserted n ms) x) → Contains (m ∷ ms) x → Contains (match_ordering o (n ∷ m ∷ ms) (m ∷ ms) (m ∷ name_inserted n ms)) x
old_step Less n m ms x rest h = contains_tail n (m ∷ ms) x h
old_step Equal n m ms x rest h = h
old_step Greater n m ms x rest h =
    contains_cases (Contains (m ∷ name_inserted n ms) x) m ms x h
    (λ e. subst (λ y. Contains (y ∷ name_inserted n ms) x) (sym e) (contains_head x (name_inserted n ms)))
    (λ k. contains_tail m (name_inserted n ms) x (rest k))

pub inserted_old : (n : Name) (ms : List Name) (x : Name) → Contains ms x → Contains (name_inserted n ms) x
inserted_old n [] x h = absurd (contains_none x h)
inserted_old n (m ∷ ms) x h = old_step (name_cmp n m) n m ms x (inserted_old n ms x) h

new_step : (o : Ordering) (n m : Name) (ms : List Name) → (o ≡ Equal → n ≡ m) → Contains (name_inserted n ms) n → Contains (match_ordering o (n ∷ m ∷ ms) (m ∷ ms) (m ∷ name_inserted n ms)) n
new_step Less n m ms f rest = contains_head n (m ∷ ms)
new_step Equal n m ms f rest = subst (λ y. Contains (y ∷ ms) n) (f refl) (contains_head n ms)
new_step Greater n m ms f rest = contains_tail m (name_inserted n ms) n rest

pub inserted_new : (n : Name) (ms : List Name) → is_well_formed n ≡ true → Named ms → Contains (name_inserted n ms) n
inserted_new n [] v w = contains_head n []
inserted_new n (m ∷ ms) v w =
    let p = named_tail m ms w in
    new_step (name_cmp n m) n m ms (same_name_text n m v p.0) (inserted_new n ms v p.1)

rising_step : (o : Ordering) (n m : Name) (ms : List Name) → name_cmp n m ≡ o → Rising (m ∷ ms) → Rising (name_inserted n ms) → Rising (match_ordering o (n ∷ m ∷ ms) (m ∷ ms) (m ∷ name_inserted n ms))
rising_step Less n m ms e r rest = hold_both (is_lt (name_cmp n m)) (rises name_cmp (m ∷ ms)) (ap is_lt e) r
rising_step Equal n m ms e r rest = r
rising_step Greater n m ms e r rest =
    rising_cons m (name_inserted n ms)
    (λ x k. ⊎_elim (λ q. subst (λ y. name_cmp m y ≡ Less) q (turned n m e)) (λ i. first_before m ms r x i) (inserted_in n ms x k))
    rest

pub inserted_rising : (n : Name) (ms : List Name) → Rising ms → Rising (name_inserted n ms)
inserted_rising n [] r = refl
inserted_rising n (m ∷ ms) r = rising_step (name_cmp n m) n m ms refl r (inserted_rising n ms (rising_tail m ms r))

pub inserted_named : (n : Name) (ms : List Name) → is_well_formed n ≡ true → Named ms → Named (name_inserted n ms)
inserted_named n ms v w = all_from is_well_formed (name_inserted n ms) (λ x k. ⊎_elim (λ e. subst (λ y. is_well_formed y ≡ true) e v) (λ i. named_name ms w x i) (inserted_in n ms x k))

-- both
pub both_in : (ns ms : List Name) (x : Name) → Contains (names_of_both ns ms) x → Contains ns x ⊎ Contains ms x
both_in [] ms x h = inr h
both_in (n ∷ ns) ms x h =
    ⊎_elim (λ e. inl (subst (λ y. Contains (y ∷ ns) x) (sym e) (contains_head x ns)))
    (λ k. ⊎_elim (λ i. inl (contains_tail n ns x i)) (λ i. inr i) (both_in ns ms x k))
    (inserted_in n (names_of_both ns ms) x h)

pub both_named : (ns ms : List Name) → Named ns → Named ms → Named (names_of_both ns ms)
both_named ns ms v w = all_from is_well_formed (names_of_both ns ms) (λ x k. ⊎_elim (λ i. named_name ns v x i) (λ i. named_name ms w x i) (both_in ns ms x k))

pub both_rising : (ns ms : List Name) → Rising ms → Rising (names_of_both ns ms)
both_rising [] ms r = r
both_rising (n ∷ ns) ms r = inserted_rising n (names_of_both ns ms) (both_rising ns ms r)

pub both_right : (ns ms : List Name) (x : Name) → Contains ms x → Contains (names_of_both ns ms) x
both_right [] ms x h = h
both_right (n ∷ ns) ms x h = inserted_old n (names_of_both ns ms) x (both_right ns ms x h)

pub both_left : (ns ms : List Name) → Named ns → Named ms → (x : Name) → Contains ns x → Contains (names_of_both ns ms) x
both_left [] ms v w x h = absurd (contains_none x h)
both_left (n ∷ ns) ms v w x h =
    let p = named_tail n ns v in
    contains_cases (Contains (names_of_both (n ∷ ns) ms) x) n ns x h
    (λ e. subst (Contains (names_of_both (n ∷ ns) ms)) e (inserted_new n (names_of_both ns ms) p.0 (both_named ns ms p.1 w)))
    (λ k. inserted_old n (names_of_both ns ms) x (both_left ns ms p.1 w x k))

-- rising lists of the same names
tail_in : (n : Name) (ns ms : List Name) → Rising (n ∷ ns) → ((x : Name) → Contains (n ∷ ns) x → Contains (n ∷ ms) x) → (x : Name) → Contains ns x → Contains ms x
tail_in n ns ms r h x k =
    contains_cases (Contains ms x) n ms x (h x (contains_tail n ns x k))
    (λ e. absurd (never_less n (subst (λ y. name_cmp n y ≡ Less) (sym e) (first_before n ns r x k))))
    (λ i. i)

head_before : (n m : Name) (ns ms : List Name) → Rising (m ∷ ms) → Contains (m ∷ ms) n → name_cmp n m ≡ Less → ⊥
head_before n m ns ms r h l = contains_cases ⊥ m ms n h (λ e. never_less n (subst (λ y. name_cmp n y ≡ Less) e l)) (λ k. not_both_less n m l (first_before m ms r n k))

same_by : (o : Ordering) (n m : Name) (ns ms : List Name) → name_cmp n m ≡ o → (o ≡ Equal → n ≡ m) → Rising (n ∷ ns) → Rising (m ∷ ms) → ((x : Name) → Contains (n ∷ ns) x → Contains (m ∷ ms) x) → ((x : Name) → Contains (m ∷ ms) x → Contains (n ∷ ns) x) → (((x : Name) → Contains ns x → Contains ms x) → ((x : Name) → Contains ms x → Contains ns x) → ns ≡ ms) → (n ∷ ns) ≡ (m ∷ ms)
same_by Less n m ns ms e f r s h k rest = absurd (head_before n m ns ms s (h n (contains_head n ns)) e)
same_by Equal n m ns ms e f r s h k rest =
    let q = f refl in
    let h' : (x : Name) → Contains (n ∷ ns) x → Contains (n ∷ ms) x = subst (λ y. (x : Name) → Contains (n ∷ ns) x → Contains (y ∷ ms) x) (sym q) h in
    let k' : (x : Name) → Contains (n ∷ ms) x → Contains (n ∷ ns) x = subst (λ y. (x : Name) → Contains (y ∷ ms) x → Contains (n ∷ ns) x) (sym q) k in
    let s' : Rising (n ∷ ms) = subst (λ y. Rising (y ∷ ms)) (sym q) s in
    let t = rest (tail_in n ns ms r h') (tail_in n ms ns s' k') in
    λ i. q i ∷ t i
same_by Greater n m ns ms e f r s h k rest = absurd (head_before m n ms ns r (k m (contains_head m ms)) (turned n m e))

pub same_names : (ns ms : List Name) → Named ns → Named ms → Rising ns → Rising ms → ((x : Name) → Contains ns x → Contains ms x) → ((x : Name) → Contains ms x → Contains ns x) → ns ≡ ms
same_names [] [] v w r s h k = refl
same_names [] (m ∷ ms) v w r s h k = absurd (contains_none m (k m (contains_head m ms)))
same_names (n ∷ ns) [] v w r s h k = absurd (contains_none n (h n (contains_head n ns)))
same_names (n ∷ ns) (m ∷ ms) v w r s h k =
    let p = named_tail n ns v in
    let q = named_tail m ms w in
    same_by (name_cmp n m) n m ns ms refl (same_name_text n m p.0 q.0) r s h k (same_names ns ms p.1 q.1 (rising_tail n ns r) (rising_tail m ms s))

pub same_union : (ns ms : List Name) → is_union ns ≡ true → is_union ms ≡ true → are_among ns ms ≡ true → are_among ms ns ≡ true → ns ≡ ms
same_union ns ms v w h k =
    let p = union_parts ns v in
    let q = union_parts ms w in
    same_names ns ms p.0 q.0 p.1 q.1 (among_at ns ms h) (among_at ms ns k)
