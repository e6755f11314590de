-- The uids that stand in a value are those of its parts, and what a set has after they are put in.
use Rattle.std.proofs.Common.{◌≡◌, ℕ, ◌+◌, ◌<◌, ◌≤◌, Bool, ◌||◌, List, [], ◌∷◌, map, length, take, get_or, refl, sym, ap, ◌∙◌}
use Rattle.std.specs.Ordering.{nat_cmp, match_ordering, ordering_then}
use Rattle.std.specs.Cmp.Lexicographic.{slice_cmp}
use Rattle.std.specs.List.{list_any}
use Rattle.std.specs.Map.{values_of}
use Rattle.std.specs.BTreeSet.{BTreeSet, insert_key}
use Rattle.std.proofs.Math.Bool.{or_assoc, or_comm, or_self, or-false}
use Rattle.std.proofs.lemmas.List.{take_all}
use Rattle.std.proofs.lemmas.List.Folds.{list_any_more}
use Rattle.std.specs.declared.alloc.Global.{Global}
use Rattle.std.specs.declared.rc.RcStr.{RcStr}
use Rattle.std.specs.declared.cmp.Ordering.{Ordering}
use Rattle.std.specs.declared.cmp.Ordering.TheVariants.{Less, Equal, Greater}
use Rattle.cedar_expr_model.specs.Uid.{Uid, uid_eq}
use Rattle.cedar_expr_model.specs.Made as model
use Rattle.cedar_expr_model.specs.Made.{Made}
use Rattle.cedar_expr_names.specs.Views.{name_bytes, eid_text, uid_of}
use Rattle.cedar_expr_names.specs.declared.entity.EntityUID.{EntityUID}
use Rattle.cedar_expr_names.proofs.Equality.{uids_order_is}
use Rattle.cedar_expr_model.proofs.Linear.{uid_exact}
use Rattle.cedar_expr_values.specs.Extension.{Extension}
use Rattle.cedar_expr_values.specs.Values.{made, bare, made_list, made_fields, made_pair}
use Rattle.cedar_expr_values.specs.Uids.{has_uid, holds_uid, member_holds_uid, field_holds_uid}
use Rattle.cedar_expr_values.specs.declared.value.Value.{Value}

module _ {X : Type 0} (seen : X → Extension) (u : Uid) where
  -- whether the uid stands in one of these
  abbrev pub among : List (Value X) → Bool
  among vs = list_any (λ v. holds_uid (bare seen v) u) vs

  pub members_hold : (vs : List (Value X)) → member_holds_uid (model.bares (made_list (map (made seen) vs))) u ≡ among vs
  members_hold [] = refl
  members_hold (v ∷ vs) = ap (λ t. holds_uid (bare seen v) u || t) (members_hold vs)

  pub fields_hold : (es : List (RcStr Global × Value X)) → field_holds_uid (model.bare_fields (made_fields (map (made_pair seen) es))) u ≡ among (values_of es)
  fields_hold [] = refl
  fields_hold (e ∷ es) = ap (λ t. holds_uid (bare seen e.1) u || t) (fields_hold es)

-- one more of a list by its place, and all of it
pub one_more : {A : Type 0} (p : A → Bool) (xs : List A) (i : ℕ) (x d : A) (a b e : Bool) → i < length xs → x ≡ get_or xs i d → b ≡ (a || list_any p (take i xs)) → e ≡ (b || p x)
    → e ≡ (a || list_any p (take (i + 1) xs))
one_more p xs i x d a b e h at f g =
    g ∙ ap (λ y. b || p y) at ∙ ap (λ t. t || p (get_or xs i d)) f ∙ or_assoc a (list_any p (take i xs)) (p (get_or xs i d)) ∙ ap (λ t. a || t) (sym (list_any_more p xs i d h))

pub through_all : {A : Type 0} (p : A → Bool) (xs : List A) (i : ℕ) (a b : Bool) → length xs ≤ i → b ≡ (a || list_any p (take i xs)) → b ≡ (a || list_any p xs)
through_all p xs i a b h f = f ∙ ap (λ ys. a || list_any p ys) (take_all i xs h)

-- one less of what is left
pub one_less : {A : Type 0} (p : A → Bool) (x : A) (xs ys : List A) (b e r : Bool) → ys ≡ x ∷ xs → (b || list_any p ys) ≡ r → e ≡ (b || p x) → (e || list_any p xs) ≡ r
one_less p x xs ys b e r h f g = ap (λ t. t || list_any p xs) g ∙ or_assoc b (p x) (list_any p xs) ∙ sym (ap (λ zs. b || list_any p zs) h) ∙ f

-- what `cmp` computes of two uids
abbrev pub uids_by : EntityUID → EntityUID → Ordering
uids_by u v = ordering_then (slice_cmp nat_cmp (name_bytes u.entity_type.0.internal) (name_bytes v.entity_type.0.internal)) (slice_cmp nat_cmp (eid_text u.eid) (eid_text v.eid))

-- a uid that is put in
placed_any : {K : Type 0} (p : K → Bool) (k x : K) (xs ys : List K) (o : Ordering) → (o ≡ Equal → p k ≡ p x) → list_any p ys ≡ (list_any p xs || p k)
    → list_any p (match_ordering o (k ∷ x ∷ xs) (x ∷ xs) (x ∷ ys)) ≡ ((p x || list_any p xs) || p k)
placed_any p k x xs ys Less same h = or_comm (p k) (p x || list_any p xs)
placed_any p k x xs ys Equal same h =
    ap (λ t. t || list_any p xs) (sym (or_self (p x))) ∙ or_assoc (p x) (p x) (list_any p xs) ∙ or_comm (p x) (p x || list_any p xs) ∙ ap (λ t. (p x || list_any p xs) || t) (sym (same refl))
placed_any p k x xs ys Greater same h = ap (λ t. p x || t) h ∙ sym (or_assoc (p x) (list_any p xs) (p k))

key_put : {K : Type 0} (cmp : K → K → Ordering) (p : K → Bool) (k : K) → ((x : K) → cmp k x ≡ Equal → p k ≡ p x) → (ks : List K) → list_any p (insert_key cmp ks k) ≡ (list_any p ks || p k)
key_put cmp p k same [] = or-false (p k)
key_put cmp p k same (x ∷ xs) = placed_any p k x xs (insert_key cmp xs k) (cmp k x) (same x) (key_put cmp p k same xs)

pub uid_put : (u : Uid) (old new : BTreeSet EntityUID) (k : EntityUID) (v : Uid) → new.keys ≡ insert_key uids_by old.keys k → uid_of k ≡ v
    → has_uid new u ≡ (has_uid old u || uid_eq u v)
uid_put u old new k v e f =
    ap (list_any (λ j. uid_eq u (uid_of j))) e
    ∙ key_put uids_by (λ j. uid_eq u (uid_of j)) k (λ x h. ap (uid_eq u) (uid_exact (uid_of k) (uid_of x) (sym (uids_order_is k x) ∙ h))) old.keys
    ∙ ap (λ w. has_uid old u || uid_eq u w) f
