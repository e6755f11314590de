-- Uids in rising order, each once.
use Rattle.std.proofs.Common.{◌≡◌, ◌&&◌, Bool, true, false, ℕ, List, [], ◌∷◌, Contains, refl, sym, ap, ◌∙◌, subst, map}
use Rattle.std.specs.Bool.{Decides}
use Rattle.std.specs.Cmp.{IsTotalOrder, IsEquivalence}
use Rattle.std.specs.Cmp.Lexicographic.{slice_cmp}
use Rattle.std.specs.List.{dedup}
use Rattle.std.specs.List.Sorted.{IsSorted, IsStrictlySortedBy, IsPermutation}
use Rattle.std.specs.Ordering.{is_eq, is_lt, eq_by_cmp, nat_cmp}
use Rattle.std.specs.Str.{bytes_eq}
use Rattle.std.proofs.lemmas.Bool.Decides.{same_from_decides}
use Rattle.std.proofs.lemmas.Cmp.{nat_list_cmp_total, on_total, then_total}
use Rattle.std.proofs.lemmas.List.Kept.{IsStrictlySortedBy-dedup, Contains-from_dedup, Any-dedup}
use Rattle.std.proofs.lemmas.List.Sorted.{Contains-permutation, IsPermutation-sym}
use Rattle.std.specs.Prelude.{◌↔◌}
use Rattle.cedar_expr_model.specs.UidOrder.{are_rising}
use Rattle.cedar_expr_model.specs.Uid.{Uid, uid_eq}
use Rattle.cedar_expr_model.proofs.Equality.{uid_eq-Decides}
use Rattle.cedar_expr_model.proofs.Lists.{hold_both, map_has, map_from}
use Rattle.cedar_expr_names.proofs.Equality.{uids_cmp_is, uids_eq_is}
use Rattle.cedar_expr_names.specs.Views.{name_bytes, eid_text, uid_of}
use Rattle.cedar_expr_names.specs.declared.entity.EntityUID.{EntityUID}
use Rattle.cedar_gate_wanted.specs.Rows.{uids}
use Rattle.cedar_gate_wanted.proofs.ByUid.{uids_by, same_uid}

-- what `==` computes of two uids
abbrev pub uids_eq : EntityUID → EntityUID → Bool
uids_eq u v = bytes_eq (name_bytes u.entity_type.0.internal) (name_bytes v.entity_type.0.internal) && bytes_eq (eid_text u.eid) (eid_text v.eid)

uids_total : IsTotalOrder uids_by
uids_total = then_total (on_total (λ (u : EntityUID). name_bytes u.entity_type.0.internal) nat_list_cmp_total) (on_total (λ (u : EntityUID). eid_text u.eid) nat_list_cmp_total)

ties : (u v : EntityUID) → uids_eq u v ≡ eq_by_cmp uids_by u v
ties u v = uids_eq_is u v ∙ sym (same_uid u v)

strictly : (us : List EntityUID) → IsStrictlySortedBy uids_by us → are_rising (uids us) ≡ true
unfolding IsStrictlySortedBy
strictly [] s = refl
strictly (u ∷ []) s = refl
strictly (u ∷ v ∷ us) (a, s) = hold_both (is_lt _) _ (ap is_lt (sym (uids_cmp_is u v) ∙ a.0)) (strictly (v ∷ us) s)

-- what is sorted rises once repeats are gone
pub rising : (xs ys : List EntityUID) → IsSorted uids_by xs → ys ≡ dedup uids_eq xs → are_rising (uids ys) ≡ true
rising xs ys sorted e = ap (λ zs. are_rising (uids zs)) e ∙ strictly (dedup uids_eq xs) (IsStrictlySortedBy-dedup uids_total ties xs sorted)

equals_symmetric : (a b : Uid) → uid_eq a b ≡ uid_eq b a
equals_symmetric a b = same_from_decides (uid_eq a b) (uid_eq b a) (uid_eq-Decides a b) ((λ h. sym ((uid_eq-Decides b a).0 h)), (λ h. (uid_eq-Decides b a).1 (sym h)))

equivalence : IsEquivalence uids_eq
equivalence = record {
  refl = λ u. uids_eq_is u u ∙ (uid_eq-Decides (uid_of u) (uid_of u)).1 refl;
  symm = λ u v. uids_eq_is u v ∙ equals_symmetric (uid_of u) (uid_of v) ∙ sym (uids_eq_is v u);
  congr = λ u v w e. uids_eq_is u w ∙ ap (λ z. uid_eq z (uid_of w)) ((uid_eq-Decides (uid_of u) (uid_of v)).0 (sym (uids_eq_is u v) ∙ e)) ∙ sym (uids_eq_is v w);
}

-- and has the uids that it had
pub members : (xs ss ys : List EntityUID) → IsPermutation xs ss → ys ≡ dedup uids_eq ss → (u : Uid) → Contains (uids ys) u ↔ Contains (uids xs) u
members xs ss ys p e u = (
  (λ k. let (x, c, is) = map_from uid_of (dedup uids_eq ss) u (subst (λ zs. Contains (uids zs) u) e k) in
      subst (λ z. Contains (uids xs) z) is (map_has uid_of xs x (Contains-permutation ss xs x (IsPermutation-sym xs ss p) (Contains-from_dedup uids_eq ss x c)))),
  (λ k. let (x, c, is) = map_from uid_of xs u k in
      let (n, y, l, at, same) = Any-dedup equivalence ss x (Contains-permutation xs ss x p c) in
      let uid : uid_of x ≡ uid_of y = (uid_eq-Decides (uid_of x) (uid_of y)).0 (sym (uids_eq_is x y) ∙ same) in
      subst (λ z. Contains (uids ys) z) (sym uid ∙ is) (map_has uid_of ys y (subst (λ zs. Contains zs y) (sym e) (n, l, at)))),
)
