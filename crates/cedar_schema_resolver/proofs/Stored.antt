-- Common types in a map by their names, and names among extension types.
use Rattle.std.proofs.Common.{◌≡◌, Bool, true, false, cond, ◌||◌, List, [], ◌∷◌, map, Option, Some, None, option_map, Result, Ok, Err, OnOk, refl, sym, ap, ◌∙◌}
use Rattle.std.proofs.lemmas.Bool.{true≢false}
use Rattle.std.proofs.lemmas.Map.Text.{is_eq-slice_cmp}
use Rattle.std.specs.Borrow.{Bor}
use Rattle.std.specs.BTreeMap.{is_at, insert_entry}
use Rattle.std.specs.Cmp.Lexicographic.{slice_cmp}
use Rattle.std.specs.List.{list_any}
use Rattle.std.specs.Map.{lookup}
use Rattle.std.specs.Option.{option_map_or, option_copied}
use Rattle.std.specs.Ordering.{is_eq, nat_cmp, match_ordering}
use Rattle.std.specs.declared.cmp.Ordering.{Ordering}
use Rattle.std.specs.declared.cmp.Ordering.TheVariants.{Less, Equal, Greater}
use Rattle.cedar_expr_model.specs.Name.{Name, name_eq}
use Rattle.cedar_expr_model.proofs.Equality.{name_eq-Decides}
use Rattle.cedar_expr_names.specs.Views.{name_of, name_bytes, plain_name_of}
use Rattle.cedar_expr_names.specs.declared.internal_name.InternalName.{InternalName}
use Rattle.cedar_expr_names.specs.declared.name.Name.{Name as CodeName}
use Rattle.cedar_expr_names.proofs.Equality.{names_eq_is}
use Rattle.cedar_schema_model.specs.Types.{Ty, never}
use Rattle.cedar_schema_types.specs.Types.{type_of}
use Rattle.cedar_schema_types.specs.declared.types.Type.{«Type» as CodeType}
use Rattle.cedar_schema_resolver.specs.Commons.{commons_with, kept_with}

-- what `cmp` computes
abbrev pub by_text : InternalName → InternalName → Ordering
by_text m n = slice_cmp nat_cmp (name_bytes m) (name_bytes n)

abbrev pub plain_by_text : CodeName → CodeName → Ordering
plain_by_text m n = slice_cmp nat_cmp (name_bytes m.internal) (name_bytes n.internal)

met : (n k : InternalName) → is_at (by_text n) k ≡ name_eq (name_of n) (name_of k)
met n k = is_eq-slice_cmp (name_bytes n) (name_bytes k) ∙ names_eq_is n k

plain_met : (n k : CodeName) → is_at (plain_by_text n) k ≡ name_eq (plain_name_of n) (plain_name_of k)
plain_met n k = is_eq-slice_cmp (name_bytes n.internal) (name_bytes k.internal) ∙ names_eq_is n.internal k.internal

-- whether a name is one of these
pub name_among : (n : CodeName) (ks : List CodeName) → list_any (is_at (plain_by_text n)) ks ≡ list_any (name_eq (plain_name_of n)) (map plain_name_of ks)
name_among n [] = refl
name_among n (k ∷ ks) = λ i. plain_met n k i || name_among n ks i

-- what a key finds is what its name finds
pub found_by_name : {X : Type 0} (n : InternalName) (es : List (InternalName × X)) → lookup (is_at (by_text n)) es ≡ lookup (λ k. name_eq (name_of n) (name_of k)) es
found_by_name n [] = refl
found_by_name n (e ∷ es) = λ i. cond (met n e.0 i) (Some e.1) (found_by_name n es i)

module _ {X : Type 0} (u v : X) (rest : Option X) where
  twice : (b : Bool) → cond b (Some v) rest ≡ cond b (Some v) (cond b (Some u) rest)
  twice true = refl
  twice false = refl

  swapped : (a b : Bool) → (a ≡ true → b ≡ true → ⊥) → cond b (Some u) (cond a (Some v) rest) ≡ cond a (Some v) (cond b (Some u) rest)
  swapped true true h = absurd (h refl refl)
  swapped true false h = refl
  swapped false true h = refl
  swapped false false h = refl

-- what is found once one more is there
pub found_with : {X : Type 0} (k : InternalName) (v : X) (n : Name) (es : List (InternalName × X)) → lookup (λ j. name_eq n (name_of j)) (insert_entry by_text es k v) ≡ cond (name_eq n (name_of k)) (Some v) (lookup (λ j. name_eq n (name_of j)) es)
found_with k v n [] = refl
found_with {X} k v n (e ∷ es) = go (by_text k e.0) refl (found_with k v n es)
  where
    test : InternalName → Bool
    test j = name_eq n (name_of j)

    after : List (InternalName × X) → Option X
    after fs = lookup (λ j. name_eq n (name_of j)) fs

    go : (o : Ordering) → by_text k e.0 ≡ o → after (insert_entry by_text es k v) ≡ cond (name_eq n (name_of k)) (Some v) (after es)
        → after (match_ordering o ((k, v) ∷ e ∷ es) ((e.0, v) ∷ es) (e ∷ insert_entry by_text es k v)) ≡ cond (name_eq n (name_of k)) (Some v) (cond (name_eq n (name_of e.0)) (Some e.1) (after es))
    go Less q h = refl
    go Equal q h =
        let same : name_of k ≡ name_of e.0 = (name_eq-Decides (name_of k) (name_of e.0)).0 (sym (met k e.0) ∙ ap is_eq q) in
        twice e.1 v (after es) (name_eq n (name_of e.0)) ∙ ap (λ m. cond (name_eq n m) (Some v) (cond (name_eq n (name_of e.0)) (Some e.1) (after es))) (sym same)
    go Greater q h =
        ap (λ o. cond (name_eq n (name_of e.0)) (Some e.1) o) h
        ∙ swapped e.1 v (after es) (name_eq n (name_of k)) (name_eq n (name_of e.0))
        (λ a b.
        let same : name_of k ≡ name_of e.0 = sym ((name_eq-Decides n (name_of k)).0 a) ∙ (name_eq-Decides n (name_of e.0)).0 b in
        true≢false (sym ((name_eq-Decides (name_of k) (name_of e.0)).1 same) ∙ sym (met k e.0) ∙ ap is_eq q))

type_there : (b : Bool) (t : CodeType) (o : Option CodeType) → option_map_or type_of (cond b (Some t) o) never ≡ cond b (type_of t) (option_map_or type_of o never)
type_there true t o = refl
type_there false t o = refl

-- the types that are found once one more is there
abbrev types_in : List (InternalName × CodeType) → Name → Ty
types_in es n = option_map_or type_of (lookup (λ j. name_eq n (name_of j)) es) never

pub types_with : (k : InternalName) (t : CodeType) (es fs : List (InternalName × CodeType)) → fs ≡ insert_entry by_text es k t → types_in fs ≡ commons_with (name_of k) (type_of t) (types_in es)
types_with k t es fs e = λ i n. one n i
  where
    one : (n : Name) → types_in fs n ≡ commons_with (name_of k) (type_of t) (types_in es) n
    one n = ap (λ gs. types_in gs n) e ∙ ap (λ o. option_map_or type_of o never) (found_with k t n es) ∙ type_there (name_eq n (name_of k)) t (lookup (λ j. name_eq n (name_of j)) es)

kept_there : (b : Bool) (t : CodeType) (o : Option CodeType) → option_map type_of (cond b (Some t) o) ≡ cond b (Some (type_of t)) (option_map type_of o)
kept_there true t o = refl
kept_there false t o = refl

-- the types that are kept, and those once one more is there
abbrev kept_in : List (InternalName × CodeType) → Name → Option Ty
kept_in es n = option_map type_of (lookup (λ j. name_eq n (name_of j)) es)

pub kept_after : (k : InternalName) (t : CodeType) (es fs : List (InternalName × CodeType)) → fs ≡ insert_entry by_text es k t → kept_in fs ≡ kept_with (name_of k) (type_of t) (kept_in es)
kept_after k t es fs e = λ i n. one n i
  where
    one : (n : Name) → kept_in fs n ≡ kept_with (name_of k) (type_of t) (kept_in es) n
    one n = ap (λ gs. kept_in gs n) e ∙ ap (λ o. option_map type_of o) (found_with k t n es) ∙ kept_there (name_eq n (name_of k)) t (lookup (λ j. name_eq n (name_of j)) es)

pub on_ok : {A E : Type 0} (r : Result A E) (P Q : Type 0) → OnOk r P → (P → Q) → OnOk r Q
on_ok (Ok x) P Q h f = f h
on_ok (Err e) P Q h f = tt

copied : (r : Option (Bor CodeType)) → option_map_or (λ t. type_of t.now) r never ≡ option_map_or type_of (option_copied r) never
copied None = refl
copied (Some t) = refl

-- the type that is found by a key
pub type_found : (n : InternalName) (es : List (InternalName × CodeType)) (r : Option (Bor CodeType)) → option_copied r ≡ lookup (is_at (by_text n)) es → option_map_or (λ t. type_of t.now) r never ≡ option_map_or type_of (lookup (λ k. name_eq (name_of n) (name_of k)) es) never
type_found n es r h = copied r ∙ ap (λ o. option_map_or type_of o never) (h ∙ found_by_name n es)

-- The type that is found by a key, if there is one, is what is kept under its name.
copied_kept : (r : Option (Bor CodeType)) → option_map (λ t. type_of t.now) r ≡ option_map type_of (option_copied r)
copied_kept None = refl
copied_kept (Some t) = refl

pub type_kept : (n : InternalName) (es : List (InternalName × CodeType)) (r : Option (Bor CodeType)) → option_copied r ≡ lookup (is_at (by_text n)) es → option_map (λ t. type_of t.now) r ≡ option_map type_of (lookup (λ k. name_eq (name_of n) (name_of k)) es)
type_kept n es r h = copied_kept r ∙ ap (λ o. option_map type_of o) (h ∙ found_by_name n es)
