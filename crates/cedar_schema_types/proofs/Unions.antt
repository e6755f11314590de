-- Sets of entity types as the model's lists of names.
use Rattle.std.proofs.Common.{◌≡◌, ◌||◌, ◌&&◌, ◌++◌, not, Bool, true, false, ℕ, List, [], ◌∷◌, map, length, Option, Some, None, option_map, IfSome, IsSome, refl, sym, ap, ◌∙◌}
use Rattle.std.proofs.lemmas.Map.Text.{is_eq-slice_cmp}
use Rattle.std.specs.Borrow.{Bor}
use Rattle.std.specs.BTreeMap.{is_at}
use Rattle.std.specs.BTreeSet.{insert_key}
use Rattle.std.specs.Cmp.Lexicographic.{slice_cmp}
use Rattle.std.specs.List.{list_any, slice_get, AllZip}
use Rattle.std.specs.Ordering.{is_eq, nat_cmp, match_ordering}
use Rattle.std.specs.declared.cmp.Ordering.{Ordering}
use Rattle.std.specs.declared.cmp.Ordering.TheVariants.{Less, Equal, Greater}
use Rattle.cedar_expr_model.specs.Name.{Name, name_eq}
use Rattle.cedar_expr_model.specs.UidOrder.{name_cmp}
use Rattle.cedar_expr_model.specs.Lists.{is_nil}
use Rattle.cedar_expr_names.specs.Views.{name_bytes, type_name_of, type_loc}
use Rattle.cedar_expr_names.specs.declared.entity.EntityType.{EntityType}
use Rattle.cedar_expr_names.proofs.Equality.{names_eq_is, names_cmp_is}
use Rattle.cedar_schema_model.specs.Subtype.{are_among}
use Rattle.cedar_schema_model.specs.Join.{name_inserted, names_of_both}
use Rattle.cedar_schema_types.specs.Unions.{only_member}

-- what `cmp` computes of two entity types
abbrev pub types_by : EntityType → EntityType → Ordering
types_by s t = slice_cmp nat_cmp (name_bytes s.0.internal) (name_bytes t.0.internal)

-- whether one is among them
same_type : (s t : EntityType) → is_eq (types_by s t) ≡ name_eq (type_name_of s) (type_name_of t)
same_type s t = is_eq-slice_cmp (name_bytes s.0.internal) (name_bytes t.0.internal) ∙ names_eq_is s.0.internal t.0.internal

pub name_among : (t : EntityType) (ks : List EntityType) → list_any (is_at (types_by t)) ks ≡ list_any (name_eq (type_name_of t)) (map type_name_of ks)
name_among t [] = refl
name_among t (k ∷ ks) = λ i. same_type t k i || name_among t ks i

-- with one more
put_step : (k x : EntityType) (xs ys : List EntityType) (ns : List Name) (r : Ordering) → map type_name_of ys ≡ ns
    → map type_name_of (match_ordering r (k ∷ x ∷ xs) (x ∷ xs) (x ∷ ys)) ≡ match_ordering r (type_name_of k ∷ type_name_of x ∷ map type_name_of xs) (type_name_of x ∷ map type_name_of xs) (type_name_of x ∷ ns)
put_step k x xs ys ns Less h = refl
put_step k x xs ys ns Equal h = refl
put_step k x xs ys ns Greater h = ap (λ ms. type_name_of x ∷ ms) h

pub name_put : (k : EntityType) (ks : List EntityType) → map type_name_of (insert_key types_by ks k) ≡ name_inserted (type_name_of k) (map type_name_of ks)
name_put k [] = refl
name_put k (x ∷ xs) =
    put_step k x xs (insert_key types_by xs k) (name_inserted (type_name_of k) (map type_name_of xs)) (types_by k x) (name_put k xs)
    ∙ ap (λ r. match_ordering r (type_name_of k ∷ type_name_of x ∷ map type_name_of xs) (type_name_of x ∷ map type_name_of xs) (type_name_of x ∷ name_inserted (type_name_of k) (map type_name_of xs))) (names_cmp_is k.0.internal x.0.internal)

-- copies have the same names
pub names_copied : (ks js : List EntityType) → AllZip (λ t copy. (type_name_of copy ≡ type_name_of t) × (type_loc copy ≡ type_loc t)) ks js → map type_name_of js ≡ map type_name_of ks
names_copied [] [] h = refl
names_copied [] (j ∷ js) h = absurd h
names_copied (k ∷ ks) [] h = absurd h
names_copied (k ∷ ks) (j ∷ js) h = λ i. (h.0).0 i ∷ names_copied ks js h.1 i

-- names from the back
pub both_from_back : (ns ms : List Name) (n : Name) → names_of_both (ns ++ n ∷ []) ms ≡ names_of_both ns (name_inserted n ms)
both_from_back [] ms n = refl
both_from_back (m ∷ ns) ms n = ap (name_inserted m) (both_from_back ns ms n)

-- entity types that are left, and the next of them: each is among these names, or none is
module _ (ms : List Name) where
  abbrev pub all_among : List EntityType → Bool
  all_among ts = are_among (map type_name_of ts) ms

  pub among_goes_on : (rest later : List EntityType) (t : EntityType) (test whole : Bool) → all_among rest ≡ whole → rest ≡ t ∷ later → test ≡ list_any (name_eq (type_name_of t)) ms → test ≡ true → all_among later ≡ whole
  among_goes_on rest later t test whole h is tested so = ap (λ b. b && all_among later) (sym so ∙ tested) ∙ ap all_among (sym is) ∙ h

  pub among_stops : (rest later : List EntityType) (t : EntityType) (test whole : Bool) → all_among rest ≡ whole → rest ≡ t ∷ later → test ≡ list_any (name_eq (type_name_of t)) ms → test ≡ false → false ≡ whole
  among_stops rest later t test whole h is tested not_so = ap (λ b. b && all_among later) (sym not_so ∙ tested) ∙ ap all_among (sym is) ∙ h

  pub among_ends : (rest : List EntityType) (whole : Bool) → all_among rest ≡ whole → rest ≡ [] → true ≡ whole
  among_ends rest whole h is = ap all_among (sym is) ∙ h

  abbrev pub some_among : List EntityType → Bool
  some_among ts = list_any (λ n. list_any (name_eq n) ms) (map type_name_of ts)

  pub apart_goes_on : (rest later : List EntityType) (t : EntityType) (test whole : Bool) → some_among rest ≡ whole → rest ≡ t ∷ later → test ≡ list_any (name_eq (type_name_of t)) ms → test ≡ false → some_among later ≡ whole
  apart_goes_on rest later t test whole h is tested not_so = ap (λ b. b || some_among later) (sym not_so ∙ tested) ∙ ap some_among (sym is) ∙ h

  pub apart_stops : (rest later : List EntityType) (t : EntityType) (test whole : Bool) → some_among rest ≡ whole → rest ≡ t ∷ later → test ≡ list_any (name_eq (type_name_of t)) ms → test ≡ true → false ≡ not whole
  apart_stops rest later t test whole h is tested so = ap not (ap (λ b. b || some_among later) (sym so ∙ tested) ∙ ap some_among (sym is) ∙ h)

  pub apart_ends : (rest : List EntityType) (whole : Bool) → some_among rest ≡ whole → rest ≡ [] → true ≡ not whole
  apart_ends rest whole h is = ap not (ap some_among (sym is) ∙ h)

-- one more from the back
mapped_back : (ys : List EntityType) (t : EntityType) → map type_name_of (ys ++ t ∷ []) ≡ (map type_name_of ys ++ type_name_of t ∷ [])
mapped_back [] t = refl
mapped_back (y ∷ ys) t = ap (λ ns. type_name_of y ∷ ns) (mapped_back ys t)

pub one_from_back : (rest later : List EntityType) (t k : EntityType) (olds news : List EntityType) (whole : List Name) → names_of_both (map type_name_of rest) (map type_name_of olds) ≡ whole → rest ≡ later ++ t ∷ [] → type_name_of k ≡ type_name_of t → news ≡ insert_key types_by olds k
    → names_of_both (map type_name_of later) (map type_name_of news) ≡ whole
one_from_back rest later t k olds news whole h is same put =
    ap (λ ks. names_of_both (map type_name_of later) (map type_name_of ks)) put
    ∙ ap (names_of_both (map type_name_of later)) (name_put k olds ∙ ap (λ n. name_inserted n (map type_name_of olds)) same)
    ∙ sym (both_from_back (map type_name_of later) (map type_name_of olds) (type_name_of t))
    ∙ ap (λ ns. names_of_both ns (map type_name_of olds)) (sym (mapped_back later t))
    ∙ ap (λ ks. names_of_both (map type_name_of ks) (map type_name_of olds)) (sym is)
    ∙ h

-- the names of both are some, where those of the second are
inserted_is_some : (n : Name) (ms : List Name) → is_nil (name_inserted n ms) ≡ false
inserted_is_some n [] = refl
inserted_is_some n (m ∷ ms) = go (name_cmp n m)
  where
    go : (r : Ordering) → is_nil (match_ordering r (n ∷ m ∷ ms) (m ∷ ms) (m ∷ name_inserted n ms)) ≡ false
    go Less = refl
    go Equal = refl
    go Greater = refl

both_are_some : (ns ms : List Name) → is_nil ms ≡ false → is_nil (names_of_both ns ms) ≡ false
both_are_some [] ms h = h
both_are_some (n ∷ ns) ms h = inserted_is_some n (names_of_both ns ms)

pub mapped_is_some : (ks : List EntityType) → is_nil ks ≡ is_nil (map type_name_of ks)
mapped_is_some [] = refl
mapped_is_some (k ∷ ks) = refl

pub some_joined : (rest own ks others : List EntityType) → names_of_both (map type_name_of rest) (map type_name_of ks) ≡ names_of_both (map type_name_of own) (map type_name_of others) → rest ≡ [] → is_nil others ≡ false → is_nil ks ≡ false
some_joined rest own ks others h is some =
    mapped_is_some ks
    ∙ ap is_nil (sym (ap (λ ts. names_of_both (map type_name_of ts) (map type_name_of ks)) is) ∙ h)
    ∙ both_are_some (map type_name_of own) (map type_name_of others) (sym (mapped_is_some others) ∙ some)

-- a union of another number than one has no only member
pub not_single : (ks : List EntityType) (n : ℕ) → n ≡ length ks → (n ≡ 1 → ⊥) → None ≡ only_member (map type_name_of ks)
not_single [] n e h = refl
not_single (k ∷ []) n e h = absurd (h e)
not_single (k ∷ j ∷ ks) n e h = refl
