-- Common types that are told one after the other, each after those that it uses.
use Rattle.std.proofs.Common.{◌≡◌, ℕ, zero, suc, ◌<◌, ◌≤◌, ◌+◌, Bool, true, false, cond, ◌⊎◌, List, [], ◌∷◌, ◌++◌, length, get_or, take, eqb, Option, Some, None, find, refl, sym, ap, ◌∙◌, subst, inl, inr, arith}
use Rattle.std.proofs.lemmas.List.{take_more, take_all, get_or-take, length-take-le, length-map}
use Rattle.std.proofs.lemmas.List.Elements.{Contains-append_left, Contains-append_right, Contains-push_cases, Contains-push}
use Rattle.std.proofs.lemmas.Bool.{true≢false}
use Rattle.std.proofs.lemmas.Bool.Decides.{Decides-eqb}
use Rattle.std.proofs.lemmas.Map.Keys.{apart_from_distinct}
use Rattle.std.specs.Prelude.{Contains}
use Rattle.std.specs.Option.{option_to_list}
use Rattle.cedar_expr_model.specs.Name.{Name, name_eq}
use Rattle.cedar_expr_model.proofs.Equality.{name_eq-Decides}
use Rattle.cedar_expr_model.proofs.Lists.{contains_head, contains_none, map_has}
use Rattle.cedar_schema_model.specs.Types.{Ty, never, set_type, record_type, is_closed}
use Rattle.cedar_schema_model.specs.Descent.{Reaches}
use Rattle.cedar_schema_model.specs.Reference.{Meant, meant_common, meant_entity, meant_at}
use Rattle.cedar_schema_model.specs.Resolved.{with_attribute, type_meant}
use Rattle.cedar_schema_resolver.specs.Graphs.{HasEdge, IsOrder}
use Rattle.cedar_schema_decl.specs.Defined.{Defined, is_defined}
use Rattle.cedar_schema_decl.specs.Forms.{TypeForm, bool_form, long_form, string_form, set_form, record_form, reference_form, extension_form, FieldForms, no_field_forms, field_form}
use Rattle.cedar_schema_decl.specs.Laws.{type_told, fields_told}
use Rattle.cedar_schema_resolver.specs.Descent.{nodes_in}
use Rattle.cedar_schema_resolver.specs.Numbers.{IsAt}
use Rattle.cedar_schema_resolver.proofs.Graphing.{numbers_chain}
use Rattle.cedar_schema_resolver.proofs.Places.{at_in, in_at, at_map, at_one, one_place}
use Rattle.cedar_schema_resolver.specs.Commons.{no_commons, commons_with}
use Rattle.cedar_schema_resolver.specs.Meanings.{setting, told, meant_in, meant_in_fields}
use Rattle.cedar_schema_resolver.specs.Refusals.{AreKnown, TellsUntold}
use Rattle.cedar_schema_resolver.specs.Solved.{names_of, IsSolved, TellsUnsolved, TellsUnordered, AreSorted}
use Rattle.cedar_schema_resolver.specs.Uses.{UsesIn, commons_in, with_uses}
use Rattle.cedar_schema_resolver.specs.declared.err.ResolveError.{ResolveError}
use Rattle.cedar_schema_resolver.specs.declared.err.ResolveError.TheVariants.{OutOfMemory, UnknownExtensionType, ReservedName, DuplicateCommonType, CycleInCommonTypeReferences}
use Rattle.cedar_schema_resolver.proofs.Using.{uses_to, reach_parents, is_user}

-- Two choices of the common types that agree on those that a type refers to tell the same type.
abbrev pub AgreeOn : (Name → Ty) → (Name → Ty) → List Meant → Type 0
AgreeOn f g ms = (n : Name) → Contains ms (meant_common n) → f n ≡ g n

same_meant : (f g : Name → Ty) (o : Option Meant) → AgreeOn f g (option_to_list o) → type_meant f o ≡ type_meant g o
same_meant f g None h = refl
same_meant f g (Some (meant_common n)) h = h n (contains_head (meant_common n) [])
same_meant f g (Some (meant_entity n)) h = refl

module _ (f g : Name → Ty) (d : Defined) where
  mutual
    pub same_told : (t : TypeForm Name) → AgreeOn f g (meant_in d t) → type_told f d t ≡ type_told g d t
    same_told bool_form h = refl
    same_told long_form h = refl
    same_told string_form h = refl
    same_told (set_form t) h = ap set_type (same_told t h)
    same_told (record_form fs) h = ap (λ as_. record_type as_ is_closed) (same_fields fs h)
    same_told (reference_form k n) h = same_meant f g (find (is_defined d) (meant_at k n)) h
    same_told (extension_form n) h = refl

    same_fields : (fs : FieldForms Name) → AgreeOn f g (meant_in_fields d fs) → fields_told f d fs ≡ fields_told g d fs
    same_fields no_field_forms h = refl
    same_fields (field_form a t r fs) h =
        let e = same_told t (λ n c. h n (Contains-append_left (meant_in d t) (meant_in_fields d fs) (meant_common n) c)) in
        let k = same_fields fs (λ n c. h n (Contains-append_right (meant_in d t) (meant_in_fields d fs) (meant_common n) c)) in
        λ i. with_attribute a (e i) r (k i)

other_name : (m n : Name) (t : Ty) (c : Name → Ty) → (n ≡ m → ⊥) → commons_with m t c n ≡ c n
other_name m n t c h = go (name_eq n m) refl
  where
    go : (b : Bool) → name_eq n m ≡ b → cond b t (c n) ≡ c n
    go true e = absurd (h ((name_eq-Decides n m).0 e))
    go false e = refl

same_name : (m n : Name) (t : Ty) (c : Name → Ty) → n ≡ m → commons_with m t c n ≡ t
same_name m n t c h = ap (λ b. cond b t (c n)) ((name_eq-Decides n m).1 h)

-- What stands for these numbers of the common types.
pub record AreDone (d : Defined) (x : List Name) (ts : List (Name × TypeForm Name)) (done : List ℕ) (commons : Name → Ty) : Type 0 where
  pub solves : (i : ℕ) (p : Name × TypeForm Name) → Contains done i → IsAt ts i p → commons p.0 ≡ told (setting commons d x) p.1
  pub others : (n : Name) → ((i : ℕ) (p : Name × TypeForm Name) → Contains done i → IsAt ts i p → p.0 ≡ n → ⊥) → commons n ≡ never
  pub known : (i : ℕ) (p : Name × TypeForm Name) → Contains done i → IsAt ts i p → AreKnown x p.1

pub none_done : (d : Defined) (x : List Name) (ts : List (Name × TypeForm Name)) (commons : Name → Ty) → commons ≡ no_commons → AreDone d x ts [] commons
none_done d x ts commons e = record {
  solves = λ i p h a. absurd (contains_none i h);
  others = λ n h. ap (λ f. f n) e;
  known = λ i p h a. absurd (contains_none i h);
}

-- a number stands before another that stands at a place
is_place : (is : List ℕ) (i : ℕ) → Contains is i → (k : ℕ) × (k < length is) × (get_or is k 0 ≡ i)
is_place is i h = let l = h.1 in (h.0, l, get_or_zero is h.0 i l h.2)
  where
    get_or_zero : (xs : List ℕ) (k j : ℕ) → k < length xs → get_or xs k j ≡ j → get_or xs k 0 ≡ j
    get_or_zero [] k j l e = absurd (omega (arith, l))
    get_or_zero (y ∷ ys) zero j l e = e
    get_or_zero (y ∷ ys) (suc k) j l e = get_or_zero ys k j (omega (arith, l)) e

module _ (d : Defined) (x : List Name) (ts : List (Name × TypeForm Name)) (is : List ℕ) (sorted : AreSorted d ts is) where
  order : IsOrder sorted.graph is
  order = sorted.is_order

  line_at : (i : ℕ) (p : Name × TypeForm Name) → IsAt ts i p → IsAt (nodes_in (with_uses d ts)) i p.0
  line_at i p a = subst (λ ns. IsAt ns i p.0) (names_are ts) (at_map (λ (q : Name × TypeForm Name). q.0) ts i p a)
    where
      names_are : (us : List (Name × TypeForm Name)) → names_of us ≡ nodes_in (with_uses d us)
      names_are [] = refl
      names_are (u ∷ us) = ap (λ ns. u.0 ∷ ns) (names_are us)

  -- what one refers to is an edge
  edge : (i j : ℕ) (q p : Name × TypeForm Name) → IsAt ts i q → IsAt ts j p → Contains (meant_in d q.1) (meant_common p.0) → HasEdge sorted.graph i j
  edge i j q p a b c = sorted.is_graph.all i j q.0 p.0 (uses_to d ts q.0 p.0 (q.1, at_in ts i q a, c)) (line_at i q a) (line_at j p b)

  -- a number of another place is another number
  not_before : (k q : ℕ) → q < k → k < length is → get_or is q 0 ≡ get_or is k 0 → ⊥
  not_before k q l m e = true≢false (sym ((Decides-eqb (get_or is q 0) (get_or is k 0)).1 e) ∙ apart_from_distinct eqb is q k 0 order.once l m)

  taken : (k j : ℕ) → k < length is → Contains (take k is) j → (q : ℕ) × (q < k) × (get_or is q 0 ≡ j)
  taken k j l h =
      let p = is_place (take k is) j h in
      let m = p.1 in
      let q : p.0 < k = omega (arith, m, length-take-le k is (omega (arith, l))) in
      (p.0, q, sym (get_or-take k is p.0 0 q) ∙ p.2)

  not_taken : (k : ℕ) → k < length is → Contains (take k is) (get_or is k 0) → ⊥
  not_taken k l h = let t = taken k (get_or is k 0) l h in not_before k t.0 t.1 l t.2

  module _ (k : ℕ) (l : k < length is) (p : Name × TypeForm Name) (at : IsAt ts (get_or is k 0) p) (c : Name → Ty) where
    abbrev here : ℕ
    here = get_or is k 0

    abbrev tells : Ty
    tells = told (setting c d x) p.1

    abbrev next : Name → Ty
    next = commons_with p.0 tells c

    -- those that are done have other names
    other : (i : ℕ) (q : Name × TypeForm Name) → Contains (take k is) i → IsAt ts i q → q.0 ≡ p.0 → ⊥
    other i q h a e =
        let same : i ≡ here = one_place (names_of ts) sorted.once i here p.0 (subst (IsAt (names_of ts) i) e (at_map (λ (r : Name × TypeForm Name). r.0) ts i q a)) (at_map (λ (r : Name × TypeForm Name). r.0) ts here p at) in
        not_taken k l (subst (Contains (take k is)) same h)

    -- and don't refer to it
    not_used : (i : ℕ) (q : Name × TypeForm Name) → Contains (take k is) i → IsAt ts i q → (m : Name) → Contains (meant_in d q.1) (meant_common m) → m ≡ p.0 → ⊥
    not_used i q h a m u e =
        let t = taken k i l h in
        let g : HasEdge sorted.graph i here = edge i here q p a at (subst (λ n. Contains (meant_in d q.1) (meant_common n)) e u) in
        let before = order.after t.0 here (let z = t.1 in omega (arith, z, l)) ([], subst (λ j. HasEdge sorted.graph j here) (sym t.2) g) in
        let z = t.1 in
        let w = taken t.0 here (omega (arith, z, l)) before in
        let y = w.1 in
        not_before k w.0 (omega (arith, y, z)) l w.2

    not_own : (m : Name) → Contains (meant_in d p.1) (meant_common m) → m ≡ p.0 → ⊥
    not_own m u e = order.apart here ([], edge here here p p at at (subst (λ n. Contains (meant_in d p.1) (meant_common n)) e u))

    kept : (q : Name × TypeForm Name) → ((m : Name) → Contains (meant_in d q.1) (meant_common m) → m ≡ p.0 → ⊥) → told (setting next d x) q.1 ≡ told (setting c d x) q.1
    kept q h = same_told next c d q.1 (λ n u. other_name p.0 n tells c (h n u))

    pub one_done : AreKnown x p.1 → AreDone d x ts (take k is) c → AreDone d x ts (take (k + 1) is) next
    one_done known done = subst (λ js. AreDone d x ts js next) (sym (take_more is k 0 l)) all
      where
        solves : (i : ℕ) (q : Name × TypeForm Name) → IsAt ts i q → Contains (take k is) i ⊎ (here ≡ i) → next q.0 ≡ told (setting next d x) q.1
        solves i q a (inl h) = other_name p.0 q.0 tells c (other i q h a) ∙ done.solves i q h a ∙ sym (kept q (not_used i q h a))
        solves i q a (inr e) =
            let same : p ≡ q = at_one ts i p q (subst (λ j. IsAt ts j p) e at) a in
            subst (λ r. next r.0 ≡ told (setting next d x) r.1) same (same_name p.0 p.0 tells c refl ∙ sym (kept p not_own))

        knows : (i : ℕ) (q : Name × TypeForm Name) → IsAt ts i q → Contains (take k is) i ⊎ (here ≡ i) → AreKnown x q.1
        knows i q a (inl h) = done.known i q h a
        knows i q a (inr e) = subst (λ r. AreKnown x r.1) (at_one ts i p q (subst (λ j. IsAt ts j p) e at) a) known

        all : AreDone d x ts (take k is ++ here ∷ []) next
        all = record {
          solves = λ i q h a. solves i q a (Contains-push_cases (take k is) here i h);
          others = λ n h. other_name p.0 n tells c (λ e. h here p (Contains-push (take k is) here) at (sym e)) ∙ done.others n (λ i q m a e. h i q (Contains-append_left (take k is) (here ∷ []) i m) a e);
          known = λ i q h a. knows i q a (Contains-push_cases (take k is) here i h);
        }

  -- when all are done
  sized : length sorted.graph ≡ length ts
  sized = sorted.is_graph.size ∙ length-map ts (λ (p : Name × TypeForm Name). (p.0, commons_in d p.1))

  pub is_done : (i : ℕ) (p : Name × TypeForm Name) → IsAt ts i p → Contains is i
  is_done i p a = let m = a.0 in order.all i (omega (arith, m, sized))

  acyclic : (n : Name) → Reaches (UsesIn d ts) n n → ⊥
  acyclic n r =
      let h = in_at (names_of ts) n (is_user d ts n n r) in
      let q = reach_parents d ts n n r in
      let a = subst (λ ns. IsAt ns h.0 n) (names_are ts) h.1 in
      order.apart h.0 (numbers_chain (with_uses d ts) sorted.graph sorted.is_graph n q.0 n h.0 h.0 q.1 a a)
    where
      names_are : (us : List (Name × TypeForm Name)) → names_of us ≡ nodes_in (with_uses d us)
      names_are [] = refl
      names_are (u ∷ us) = ap (λ ns. u.0 ∷ ns) (names_are us)

  pub all_done : (k : ℕ) (c : Name → Ty) → length is ≤ k → AreDone d x ts (take k is) c → IsSolved (setting c d x) ts
  all_done k c l part = solved (subst (λ js. AreDone d x ts js c) (take_all k is l) part)
    where
      solved : AreDone d x ts is c → IsSolved (setting c d x) ts
      solved done = record {
        solves = λ n t h. let a = in_at ts (n, t) h in done.solves a.0 (n, t) (is_done a.0 (n, t) a.1) a.1;
        others = λ n h. done.others n (λ i p m a e. h (subst (Contains (names_of ts)) e (map_has (λ (q : Name × TypeForm Name). q.0) ts p (at_in ts i p a))));
        once = sorted.once;
        apart = acyclic;
        known = λ n t h. let a = in_at ts (n, t) h in done.known a.0 (n, t) (is_done a.0 (n, t) a.1) a.1;
      }

-- a fault of the types
pub some_tells : (c : Name → Ty) (d : Defined) (x : List Name) (ts : List (Name × TypeForm Name)) (p : Name × TypeForm Name) → Contains ts p → (e : ResolveError) → TellsUntold (setting c d x) p.1 e → TellsUnsolved d x ts e
some_tells c d x ts p h OutOfMemory t = tt
some_tells c d x ts p h (UnknownExtensionType n) t = (p, h, t)
some_tells c d x ts p h (ReservedName e) t = (p, h, t)
some_tells c d x ts p h (DuplicateCommonType n) t = absurd t
some_tells c d x ts p h (CycleInCommonTypeReferences n) t = absurd t

-- of their order
pub unordered_tells : (d : Defined) (x : List Name) (ts : List (Name × TypeForm Name)) (e : ResolveError) → TellsUnordered d ts e → TellsUnsolved d x ts e
unordered_tells d x ts OutOfMemory t = tt
unordered_tells d x ts (UnknownExtensionType n) t = absurd t
unordered_tells d x ts (ReservedName e) t = absurd t
unordered_tells d x ts (DuplicateCommonType n) t = t
unordered_tells d x ts (CycleInCommonTypeReferences n) t = t

-- the next of them, with the choice that is made
module _ (d : Defined) (x : List Name) (ts : List (Name × TypeForm Name)) (is : List ℕ) (sorted : AreSorted d ts is) where
  pub next_done : (k : ℕ) (l : k < length is) (p : Name × TypeForm Name) → IsAt ts (get_or is k 0) p → (c made : Name → Ty) → made ≡ commons_with p.0 (told (setting c d x) p.1) c → AreKnown x p.1 → AreDone d x ts (take k is) c → AreDone d x ts (take (k + 1) is) made
  next_done k l p a c made e known done = subst (AreDone d x ts (take (k + 1) is)) (sym e) (one_done d x ts is sorted k l p a c known done)
