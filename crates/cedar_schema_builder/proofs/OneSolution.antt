-- Common types stand for one type each: two solutions tell the same types.
use Rattle.std.proofs.Common.{◌≡◌, ℕ, zero, suc, ◌<◌, ◌≤◌, List, [], length, Bool, true, false, not, Option, Some, None, find, refl, sym, ap, ◌∙◌, subst, arith}
use Rattle.std.proofs.lemmas.Bool.{true≢false}
use Rattle.std.proofs.lemmas.List.Elements.{Contains-append_left, Contains-append_right}
use Rattle.std.proofs.lemmas.List.Filters.{length-filter_both}
use Rattle.std.specs.Prelude.{Contains}
use Rattle.std.specs.List.{filter, list_any}
use Rattle.std.specs.Option.{option_to_list}
use Rattle.cedar_expr_model.specs.Name.{Name, name_eq}
use Rattle.cedar_expr_model.proofs.Equality.{name_eq-Decides}
use Rattle.cedar_expr_model.proofs.Lists.{contains_head, found-Decides, filter_has, map_from}
use Rattle.cedar_schema_model.specs.Descent.{Reaches}
use Rattle.cedar_schema_model.specs.Reference.{Meant, meant_common, meant_entity, meant_at}
use Rattle.cedar_schema_model.specs.Resolved.{with_attribute, type_meant}
use Rattle.cedar_schema_model.specs.Types.{Ty, set_type, record_type, is_closed}
use Rattle.cedar_schema_model.proofs.Decls.Descent.{reaches_on}
use Rattle.cedar_schema_decl.specs.Defined.{Defined, is_defined}
use Rattle.cedar_schema_decl.specs.Forms.{TypeForm, bool_form, long_form, string_form, set_form, record_form, reference_form, extension_form, FieldForms, no_field_forms, field_form}
use Rattle.cedar_schema_decl.specs.Laws.{type_told, fields_told}
use Rattle.cedar_schema_resolver.specs.Meanings.{setting, meant_in, meant_in_fields}
use Rattle.cedar_schema_resolver.specs.Solved.{IsSolved, names_of}
use Rattle.cedar_schema_resolver.specs.Uses.{UsesIn}
use Rattle.cedar_schema_builder.specs.Writing.{CommonForms}

-- names that are left when one is taken away
abbrev others : Name → List Name → List Name
others n ns = filter (λ m. not (name_eq m n)) ns

fewer : (n : Name) (ns : List Name) → Contains ns n → length (others n ns) < length ns
fewer n ns h =
    let k = filter_has (λ m. name_eq m n) ns n h ((name_eq-Decides n n).1 refl) in
    let p = k.1 in
    let e = length-filter_both (λ m. name_eq m n) (λ m. not (name_eq m n)) (λ m. refl) ns in
    omega (arith, p, e)

not_true : (b : Bool) → (b ≡ true → ⊥) → not b ≡ true
not_true true h = absurd (h refl)
not_true false h = refl

among_others : (n : Name) (ns : List Name) (m : Name) → Contains ns m → (m ≡ n → ⊥) → Contains (others n ns) m
among_others n ns m h k = filter_has (λ x. not (name_eq x n)) ns m h (not_true (name_eq m n) (λ e. k ((name_eq-Decides m n).0 e)))

none_left : (ns : List Name) → length ns ≤ 0 → (n : Name) → Contains ns n → ⊥
none_left ns l n h = let p = h.1 in omega (arith, p, l)

module _ (s : Defined) (f g : Name → Ty) where
  -- a type by which the same is meant is told the same
  abbrev Same : List Meant → Type 0
  Same ms = (n : Name) → Contains ms (meant_common n) → f n ≡ g n

  meant_alike : (o : Option Meant) → Same (option_to_list o) → type_meant f o ≡ type_meant g o
  meant_alike None h = refl
  meant_alike (Some (meant_common n)) h = h n (contains_head (meant_common n) [])
  meant_alike (Some (meant_entity n)) h = refl

  mutual
    pub told_alike : (t : TypeForm Name) → Same (meant_in s t) → type_told f s t ≡ type_told g s t
    told_alike bool_form h = refl
    told_alike long_form h = refl
    told_alike string_form h = refl
    told_alike (set_form t) h = ap set_type (told_alike t h)
    told_alike (record_form fs) h = ap (λ as_. record_type as_ is_closed) (fields_alike fs h)
    told_alike (reference_form k n) h = meant_alike (find (is_defined s) (meant_at k n)) h
    told_alike (extension_form n) h = refl

    fields_alike : (fs : FieldForms Name) → Same (meant_in_fields s fs) → fields_told f s fs ≡ fields_told g s fs
    fields_alike no_field_forms h = refl
    fields_alike (field_form a t r fs) h = λ i. with_attribute a
        (told_alike t (λ n k. h n (Contains-append_left (meant_in s t) (meant_in_fields s fs) (meant_common n) k)) i) r
        (fields_alike fs (λ n k. h n (Contains-append_right (meant_in s t) (meant_in_fields s fs) (meant_common n) k)) i)

  module _ (x y : List Name) (cs : CommonForms) (F : IsSolved (setting f s x) cs) (G : IsSolved (setting g s y) cs) where
    abbrev Uses : Name → Name → Type 0
    Uses = UsesIn s cs

    -- these have the name, and all declared ones that are used from there
    abbrev StaysIn : List Name → Name → Type 0
    StaysIn ns n = Contains ns n × ((m : Name) → Reaches Uses n m → Contains (names_of cs) m → Contains ns m)

    stays_on : (ns : List Name) (n m : Name) → StaysIn ns n → Uses n m → Contains (names_of cs) m → StaysIn (others n ns) m
    stays_on ns n m k u c =
        let step : Reaches Uses n m = ([], u) in (
          among_others n ns m (k.1 m step c) (λ e. F.apart n (subst (Reaches Uses n) e step)),
          λ q r d. let on : Reaches Uses n q = reaches_on Uses n m q step r in among_others n ns q (k.1 q on d) (λ e. F.apart n (subst (Reaches Uses n) e on)),
        )

    undeclared : (n : Name) (b : Bool) → list_any (name_eq n) (names_of cs) ≡ b → (Contains (names_of cs) n → f n ≡ g n) → f n ≡ g n
    undeclared n true e h = h ((found-Decides name_eq name_eq-Decides n (names_of cs)).0 e)
    undeclared n false e h =
        let no : Contains (names_of cs) n → ⊥ = λ c. true≢false (sym ((found-Decides name_eq name_eq-Decides n (names_of cs)).1 c) ∙ e) in
        F.others n no ∙ sym (G.others n no)

    within : (k : ℕ) (ns : List Name) → length ns ≤ k → (n : Name) → StaysIn ns n → Contains (names_of cs) n → f n ≡ g n
    within zero ns l n st c = absurd (none_left ns l n st.0)
    within (suc k) ns l n st c =
        let p = map_from (λ (z : Name × TypeForm Name). z.0) cs n c in
        let there : Contains cs (n, p.0.1) = subst (λ m. Contains cs (m, p.0.1)) p.2 p.1 in
        F.solves n p.0.1 there
        ∙ told_alike p.0.1
        (λ m i. undeclared m (list_any (name_eq m) (names_of cs)) refl
        (λ d. within k (others n ns) (let q = fewer n ns st.0 in omega (arith, q, l)) m (stays_on ns n m st (p.0.1, there, i) d) d))
        ∙ sym (G.solves n p.0.1 there)

    pub one_solution : (n : Name) → f n ≡ g n
    one_solution n = undeclared n (list_any (name_eq n) (names_of cs)) refl (λ c. within (length (names_of cs)) (names_of cs) (let l : length (names_of cs) ≤ length (names_of cs) = omega arith in l) n (c, λ m r d. d) c)

    pub told_once : (t : TypeForm Name) → type_told f s t ≡ type_told g s t
    told_once t = told_alike t (λ n h. one_solution n)
