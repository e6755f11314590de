-- Sets of names and of uids, as lists that rise.
use Rattle.std.proofs.Common.{◌≡◌, Bool, true, false, ◌&&◌, ◌||◌, List, [], ◌∷◌, map, refl, sym, ap, ◌∙◌}
use Rattle.std.proofs.lemmas.Map.Text.{is_eq-slice_cmp}
use Rattle.std.specs.BTreeMap.{is_at}
use Rattle.std.specs.BTreeSet.{insert_key}
use Rattle.std.specs.List.{list_any}
use Rattle.std.specs.Ordering.{match_ordering, is_eq, nat_cmp, ordering_then}
use Rattle.std.specs.Cmp.Lexicographic.{slice_cmp}
use Rattle.std.specs.declared.cmp.Ordering.{Ordering}
use Rattle.std.specs.declared.cmp.Ordering.TheVariants.{Less, Equal, Greater}
use Rattle.cedar_expr_model.specs.Name.{Name, name_eq, name_text, is_well_formed}
use Rattle.cedar_expr_model.specs.UidOrder.{name_cmp, uid_cmp}
use Rattle.cedar_expr_model.specs.Uid.{Uid, uid_eq}
use Rattle.cedar_expr_names.specs.Views.{name_of, name_bytes, eid_text, uid_of}
use Rattle.cedar_expr_names.specs.declared.internal_name.InternalName.{InternalName}
use Rattle.cedar_expr_names.specs.declared.entity.EntityUID.{EntityUID}
use Rattle.cedar_expr_names.proofs.Equality.{name_eq_is, well_formed, names_cmp_is, uids_cmp_is}
use Rattle.cedar_schema_model.specs.Join.{name_inserted}
use Rattle.cedar_schema_decl.specs.Defined.{uid_inserted}

-- a test that is the model's finds what the model's finds
any_same : {A M : Type 0} (view : A → M) (t : A → Bool) (s : M → Bool) → ((x : A) → t x ≡ s (view x)) → (xs : List A) → list_any t xs ≡ list_any s (map view xs)
any_same view t s h [] = refl
any_same view t s h (x ∷ xs) = (λ i. h x i || any_same view t s h xs i)

-- one more goes where the model puts it
chosen : {A M : Type 0} (f : A → M) (o p : Ordering) (a b c : A) (l m n : M) → o ≡ p → f a ≡ l → f b ≡ m → f c ≡ n → f (match_ordering o a b c) ≡ match_ordering p l m n
chosen f Less p a b c l m n e h j k = h ∙ ap (λ q. match_ordering q l m n) e
chosen f Equal p a b c l m n e h j k = j ∙ ap (λ q. match_ordering q l m n) e
chosen f Greater p a b c l m n e h j k = k ∙ ap (λ q. match_ordering q l m n) e

-- what `cmp` computes
abbrev cmp : InternalName → InternalName → Ordering
cmp m n = slice_cmp nat_cmp (name_bytes m) (name_bytes n)

abbrev uids : EntityUID → EntityUID → Ordering
uids u v = ordering_then (slice_cmp nat_cmp (name_bytes u.entity_type.0.internal) (name_bytes v.entity_type.0.internal)) (slice_cmp nat_cmp (eid_text u.eid) (eid_text v.eid))

found : (n k : InternalName) → is_at (cmp n) k ≡ name_eq (name_of n) (name_of k)
found n k = ap is_eq (names_cmp_is n k) ∙ is_eq-slice_cmp (name_text (name_of n)) (name_text (name_of k)) ∙ name_eq_is (name_of n) (name_of k) (well_formed n) (well_formed k)

pub name_found : (n : InternalName) (ks : List InternalName) → list_any (is_at (cmp n)) ks ≡ list_any (name_eq (name_of n)) (map name_of ks)
name_found n ks = any_same name_of (is_at (cmp n)) (name_eq (name_of n)) (found n) ks

pub name_put : (n : InternalName) (ks : List InternalName) → map name_of (insert_key cmp ks n) ≡ name_inserted (name_of n) (map name_of ks)
name_put n [] = refl
name_put n (k ∷ ks) = chosen (map name_of) (cmp n k) (name_cmp (name_of n) (name_of k)) (n ∷ k ∷ ks) (k ∷ ks) (k ∷ insert_key cmp ks n) _ _ _ (names_cmp_is n k) refl refl (ap (λ ns. name_of k ∷ ns) (name_put n ks))

both_equal : (o p : Ordering) → is_eq (ordering_then o p) ≡ (is_eq o && is_eq p)
both_equal Less p = refl
both_equal Equal p = refl
both_equal Greater p = refl

met : (u v : EntityUID) → is_at (uids u) v ≡ uid_eq (uid_of u) (uid_of v)
met u v =
    let m = (uid_of u).kind in
    let n = (uid_of v).kind in
    ap is_eq (uids_cmp_is u v)
    ∙ both_equal (name_cmp m n) (slice_cmp nat_cmp (uid_of u).id (uid_of v).id)
    ∙ (λ i. (is_eq-slice_cmp (name_text m) (name_text n) ∙ name_eq_is m n (well_formed u.entity_type.0.internal) (well_formed v.entity_type.0.internal)) i && is_eq-slice_cmp (uid_of u).id (uid_of v).id i)

pub uid_found : (u : EntityUID) (ks : List EntityUID) → list_any (is_at (uids u)) ks ≡ list_any (uid_eq (uid_of u)) (map uid_of ks)
uid_found u ks = any_same uid_of (is_at (uids u)) (uid_eq (uid_of u)) (met u) ks

pub uid_put : (u : EntityUID) (ks : List EntityUID) → map uid_of (insert_key uids ks u) ≡ uid_inserted (uid_of u) (map uid_of ks)
uid_put u [] = refl
uid_put u (k ∷ ks) = chosen (map uid_of) (uids u k) (uid_cmp (uid_of u) (uid_of k)) (u ∷ k ∷ ks) (k ∷ ks) (k ∷ insert_key uids ks u) _ _ _ (uids_cmp_is u k) refl refl (ap (λ us. uid_of k ∷ us) (uid_put u ks))
