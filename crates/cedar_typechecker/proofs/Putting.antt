-- One more pair, under its first type.
use Rattle.std.proofs.Common.{◌≡◌, ◌&&◌, ◌||◌, Bool, true, false, cond, Option, Some, Result, Ok, Err, OnErr, IsSome, refl, subst, sym, ap, ◌∙◌}
use Rattle.std.specs.BTreeMap.{BTreeMap, get, is_at}
use Rattle.std.specs.BTreeSet.{BTreeSet, contains}
use Rattle.std.specs.Cmp.Lexicographic.{slice_cmp}
use Rattle.std.specs.Map.{lookup}
use Rattle.std.specs.Option.{option_map_or}
use Rattle.std.specs.Ordering.{is_eq, nat_cmp}
use Rattle.std.specs.Str.{bytes_eq}
use Rattle.std.proofs.lemmas.Map.Text.{is_eq-slice_cmp}
use Rattle.std.proofs.lemmas.Slice.Eq.{bytes_eq-Decides}
use Rattle.std.specs.Bool.{one_answer}
use Rattle.cedar_expr_model.specs.Name.{Name, name_eq}
use Rattle.cedar_expr_model.proofs.Equality.{name_eq-Decides}
use Rattle.cedar_expr_names.specs.Views.{name_bytes, type_name_of}
use Rattle.cedar_expr_names.specs.declared.entity.EntityType.{EntityType}
use Rattle.cedar_expr_names.proofs.Equality.{names_eq_is}
use Rattle.cedar_typechecker.specs.Pairs.{types_by}

same_bytes : (s t : EntityType) → is_at (types_by s) t ≡ bytes_eq (name_bytes s.0.internal) (name_bytes t.0.internal)
same_bytes s t = is_eq-slice_cmp (name_bytes s.0.internal) (name_bytes t.0.internal)

swapped : (m n : Name) → name_eq m n ≡ name_eq n m
swapped m n = one_answer _ _ (λ e. sym ((name_eq-Decides m n).0 e), λ e. (name_eq-Decides m n).1 (sym e)) (name_eq-Decides n m)

pub same_at : (s t : EntityType) → is_at (types_by s) t ≡ name_eq (type_name_of t) (type_name_of s)
same_at s t = same_bytes s t ∙ names_eq_is s.0.internal t.0.internal ∙ swapped (type_name_of s) (type_name_of t)

abbrev pub Row : Type 0
Row = BTreeSet EntityType

-- what is found under one type is what is found under the same type
found_same : (m : BTreeMap EntityType Row) (s t : EntityType) → is_at (types_by s) t ≡ true → get types_by m s ≡ get types_by m t
found_same m s t h =
    let e = (bytes_eq-Decides (name_bytes s.0.internal) (name_bytes t.0.internal)).0 (sym (same_bytes s t) ∙ h) in
    ap (λ b. lookup (λ (k : EntityType). is_eq (slice_cmp nat_cmp b (name_bytes k.0.internal))) m.entries) e

abbrev pub row_has : Option Row → EntityType → Bool
row_has o r = option_map_or (λ row. contains types_by row r) o false

pub one_more : (t b : Bool) → cond t true b ≡ (t || b)
one_more true b = refl
one_more false b = refl

pub pair_put : (m : BTreeMap EntityType Row) (new : EntityType → Option Row) (first second : EntityType) (row : Row) → ((q : EntityType) → new q ≡ cond (is_at (types_by first) q) (Some row) (get types_by m q))
    → ((r : EntityType) → contains types_by row r ≡ cond (is_at (types_by second) r) true (row_has (get types_by m first) r))
    → (q r : EntityType) → row_has (new q) r ≡ ((name_eq (type_name_of q) (type_name_of first) && name_eq (type_name_of r) (type_name_of second)) || row_has (get types_by m q) r)
pair_put m new first second row news more q r =
    ap (λ o. row_has o r) (news q)
    ∙ go (is_at (types_by first) q) refl
    ∙ ap (λ b. (b && name_eq (type_name_of r) (type_name_of second)) || row_has (get types_by m q) r) (same_at first q)
  where
    go : (b : Bool) → is_at (types_by first) q ≡ b → row_has (cond b (Some row) (get types_by m q)) r ≡ ((b && name_eq (type_name_of r) (type_name_of second)) || row_has (get types_by m q) r)
    go true e = more r ∙ one_more (is_at (types_by second) r) (row_has (get types_by m first) r) ∙ (λ i. same_at second r i || row_has (found_same m first q e i) r)
    go false e = refl

-- as many pairs as there were
pub pair_kept : (m : BTreeMap EntityType Row) (new : EntityType → Option Row) (first : EntityType) (row : Row) → ((q : EntityType) → new q ≡ cond (is_at (types_by first) q) (Some row) (get types_by m q))
    → ((r : EntityType) → contains types_by row r ≡ row_has (get types_by m first) r) → (q r : EntityType) → row_has (new q) r ≡ row_has (get types_by m q) r
pair_kept m new first row news same q r = ap (λ o. row_has o r) (news q) ∙ go (is_at (types_by first) q) refl
  where
    go : (b : Bool) → is_at (types_by first) q ≡ b → row_has (cond b (Some row) (get types_by m q)) r ≡ row_has (get types_by m q) r
    go true e = same r ∙ ap (λ o. row_has o r) (found_same m first q e)
    go false e = refl

pub on_err : {A E : Type 0} (r : Result A E) (P : Type 0) → P → OnErr r P
on_err (Ok a) P p = tt
on_err (Err e) P p = p

pub some_is : {A : Type 0} (o : Option A) (a : A) → o ≡ Some a → IsSome o
some_is o a e = subst IsSome (sym e) refl
