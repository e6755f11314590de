-- Whether a uid is in a set, by what it is in the model.
use Rattle.std.proofs.Common.{◌≡◌, ◌||◌, ◌&&◌, refl, List, [], ◌∷◌, map, ap, ◌∙◌, sym}
use Rattle.std.proofs.lemmas.Map.Text.{is_eq-slice_cmp}
use Rattle.std.specs.BTreeMap.{is_at}
use Rattle.std.specs.List.{list_any}
use Rattle.std.specs.Ordering.{is_eq, nat_cmp, ordering_then}
use Rattle.std.specs.Cmp.Lexicographic.{slice_cmp}
use Rattle.std.specs.declared.cmp.Ordering.{Ordering}
use Rattle.std.specs.declared.cmp.Ordering.TheVariants.{Less, Equal, Greater}
use Rattle.cedar_expr_model.specs.Uid.{uid_eq}
use Rattle.cedar_expr_names.specs.Views.{name_bytes, eid_text, uid_of}
use Rattle.cedar_expr_names.specs.declared.entity.EntityUID.{EntityUID}
use Rattle.cedar_expr_names.proofs.Equality.{uids_eq_is}

-- what `cmp` computes of two uids
abbrev pub uids_by : EntityUID → EntityUID → Ordering
uids_by u v = ordering_then (slice_cmp nat_cmp (name_bytes u.entity_type.0.internal) (name_bytes v.entity_type.0.internal)) (slice_cmp nat_cmp (eid_text u.eid) (eid_text v.eid))

both_equal : (o p : Ordering) → is_eq (ordering_then o p) ≡ (is_eq o && is_eq p)
both_equal Less p = refl
both_equal Equal p = refl
both_equal Greater p = refl

pub same_uid : (u v : EntityUID) → is_at (uids_by u) v ≡ uid_eq (uid_of u) (uid_of v)
same_uid u v =
    both_equal (slice_cmp nat_cmp (name_bytes u.entity_type.0.internal) (name_bytes v.entity_type.0.internal)) (slice_cmp nat_cmp (eid_text u.eid) (eid_text v.eid))
    ∙ (λ i. is_eq-slice_cmp (name_bytes u.entity_type.0.internal) (name_bytes v.entity_type.0.internal) i && is_eq-slice_cmp (eid_text u.eid) (eid_text v.eid) i)
    ∙ uids_eq_is u v

pub uid_among : (u : EntityUID) (ks : List EntityUID) → list_any (is_at (uids_by u)) ks ≡ list_any (uid_eq (uid_of u)) (map uid_of ks)
uid_among u [] = refl
uid_among u (k ∷ ks) = λ i. same_uid u k i || uid_among u ks i
