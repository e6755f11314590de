-- Members of an object that are put one after another into a map: each goes last, since keys stand in their order.
use Rattle.std.proofs.Common.{◌≡◌, true, List, [], ◌∷◌, ◌++◌, map, Global, Ordering, Less, Greater, string_bytes, string_cmp, nat_cmp, refl, ap, subst, ◌∙◌}
use Rattle.std.proofs.lemmas.Cmp.{nat_list_cmp_total}
use Rattle.std.proofs.lemmas.List.{map-append}
use Rattle.std.specs.Cmp.Lexicographic.{slice_cmp}
use Rattle.std.specs.List.{AllByRecursion}
use Rattle.std.specs.List.Sorted.{IsStrictlySortedBy}
use Rattle.std.specs.Map.{keys_of}
use Rattle.std.specs.Ordering.{ordering_reverse}
use Rattle.std.specs.BTreeMap.{insert_entry}
use Rattle.serde_json.proofs.Views.{Entry}
use Rattle.std.specs.Rc.{rc_str_bytes}
use Rattle.std.specs.declared.rc.RcStr.{RcStr}
use Rattle.cedar_expr_model.specs.Name.{Text}
use Rattle.cedar_expr_model.specs.Lists.{rises}
use Rattle.cedar_expr_model.specs.Order.{text_cmp}
use Rattle.cedar_expr_model.specs.Records.{names_rise}
use Rattle.cedar_expr_model.proofs.Lists.{hold_both}
use Rattle.cedar_expr_model.proofs.Rising.{is_less}
use Rattle.cedar_gate_expressions.specs.Maps.{texts_seen}

below_middle : (first : Entry) (es : List Entry) (e : Entry) (more : List Entry) → AllByRecursion (λ y. string_cmp first.0 y ≡ Less) (keys_of (es ++ e ∷ more)) → string_cmp first.0 e.0 ≡ Less
below_middle first [] e more h = h.0
below_middle first (x ∷ es) e more h = below_middle first es e more h.1

-- The entries are of the names of those that are done, in order.
abbrev pub SameNames : {K V : Type 0} → (K → Text) → List (K × V) → List Entry → Type 0
SameNames key es done = map (λ e. key e.0) es ≡ map (λ e. string_bytes e.0) done

pub same_names_more : {K V : Type 0} (key : K → Text) (es : List (K × V)) (k : K) (x : V) (done : List Entry) (e : Entry) → SameNames key es done → key k ≡ string_bytes e.0 → SameNames key (es ++ (k, x) ∷ []) (done ++ e ∷ [])
same_names_more key es k x done e n h = rw (map-append, map-append, n, h)

-- where keys are compared by their texts, a name that is above those before it goes last
pub insert_last : {K V : Type 0} (cmp : K → K → Ordering) (key : K → Text) (by_key : (a b : K) → cmp a b ≡ slice_cmp nat_cmp (key a) (key b))
    (es : List (K × V)) (k : K) (x : V) (done : List Entry) (e : Entry) (more : List Entry)
    → SameNames key es done → key k ≡ string_bytes e.0 → IsStrictlySortedBy string_cmp (keys_of (done ++ e ∷ more))
    → insert_entry cmp es k x ≡ es ++ (k, x) ∷ []
unfolding IsStrictlySortedBy
insert_last cmp key by_key [] k x [] e more n h s = refl
insert_last cmp key by_key [] k x (d ∷ done) e more n h s = cc
insert_last cmp key by_key (y ∷ es) k x [] e more n h s = cc
insert_last cmp key by_key (y ∷ es) k x (d ∷ done) e more n h s =
    let n0 : key y.0 ≡ string_bytes d.0 = cc in
    let n1 : map (λ z. key z.0) es ≡ map (λ z. string_bytes z.0) done = cc in
    let above : cmp k y.0 ≡ Greater =
    by_key k y.0 ∙ rw (h, n0) (nat_list_cmp_total.antisymm (string_bytes e.0) (string_bytes d.0) ∙ ap ordering_reverse (below_middle d done e more s.0)) in
    rw above (ap (λ zs. y ∷ zs) (insert_last cmp key by_key es k x done e more n1 h s.1))

sorted_rise : (es : List Entry) → IsStrictlySortedBy string_cmp (keys_of es) → rises text_cmp (map (λ e. string_bytes e.0) es) ≡ true
unfolding IsStrictlySortedBy
sorted_rise [] s = refl
sorted_rise (e ∷ []) s = refl
sorted_rise (e ∷ f ∷ es) s = hold_both _ _ (is_less (text_cmp (string_bytes e.0) (string_bytes f.0)) (s.0).0) (sorted_rise (f ∷ es) s.1)

names_seen : {T A : Type 0} (seen : T → A) (es : List (RcStr Global × T)) → map (λ p. p.0) (texts_seen seen es) ≡ map (λ e. rc_str_bytes e.0) es
names_seen seen [] = refl
names_seen seen (e ∷ es) = ap (λ ns. rc_str_bytes e.0 ∷ ns) (names_seen seen es)

nothing_left : {A : Type 0} (xs ys : List A) → ys ≡ [] → xs ++ ys ≡ xs
nothing_left [] ys h = h
nothing_left (x ∷ xs) ys h = ap (λ zs. x ∷ zs) (nothing_left xs ys h)

-- what is read under all keys has names that rise
pub all_rise : {T A : Type 0} (seen : T → A) (es : List (RcStr Global × T)) (all done left : List Entry) → SameNames rc_str_bytes es done → all ≡ done ++ left → left ≡ [] → IsStrictlySortedBy string_cmp (keys_of all)
    → names_rise (texts_seen seen es) ≡ true
all_rise seen es all done left n a e s =
    let same : all ≡ done = a ∙ nothing_left done left e in
    ap (rises text_cmp) (names_seen seen es ∙ n) ∙ sorted_rise done (subst (λ fs. IsStrictlySortedBy string_cmp (keys_of fs)) same s)
