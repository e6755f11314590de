-- What `cmp` computes of uids of the code, and what is looked up by them.
use Rattle.std.proofs.Common.{◌≡◌, ◌&&◌, Bool, cond, List, [], ◌∷◌, Option, Some, refl, sym, ◌∙◌}
use Rattle.std.proofs.lemmas.Bool.Decides.{same_from_decides}
use Rattle.std.proofs.lemmas.Map.Text.{is_eq-slice_cmp}
use Rattle.std.specs.BTreeMap.{is_at}
use Rattle.std.specs.Cmp.Lexicographic.{slice_cmp}
use Rattle.std.specs.Map.{lookup}
use Rattle.std.specs.Ordering.{is_eq, nat_cmp, ordering_then}
use Rattle.std.specs.declared.cmp.Ordering.{Ordering}
use Rattle.std.specs.declared.cmp.Ordering.TheVariants.{Less, Equal, Greater}
use Rattle.cedar_expr_model.specs.Uid.{Uid, uid_eq}
use Rattle.cedar_expr_model.proofs.Equality.{uid_eq-Decides}
use Rattle.cedar_expr_names.specs.Views.{name_bytes, eid_text, uid_of}
use Rattle.cedar_expr_names.specs.declared.entity.EntityUID.{EntityUID}
use Rattle.cedar_expr_names.proofs.Equality.{uids_eq_is}
use Rattle.cedar_store_entities.specs.Places.{found_at}

pub uid_eq_sym : (u v : Uid) → uid_eq u v ≡ uid_eq v u
uid_eq_sym u v = same_from_decides _ _ (uid_eq-Decides u v) (λ h. sym ((uid_eq-Decides v u).0 h), λ e. (uid_eq-Decides v u).1 (sym e))

-- what `cmp` computes of two uids
abbrev pub uids_by : EntityUID → EntityUID → Ordering
uids_by u v = ordering_then (slice_cmp nat_cmp (name_bytes u.entity_type.0.internal) (name_bytes v.entity_type.0.internal)) (slice_cmp nat_cmp (eid_text u.eid) (eid_text v.eid))

both_equal : (o p : Ordering) → is_eq (ordering_then o p) ≡ (is_eq o && is_eq p)
both_equal Less p = refl
both_equal Equal p = refl
both_equal Greater p = refl

pub same_uid : (u v : EntityUID) → is_at (uids_by u) v ≡ uid_eq (uid_of u) (uid_of v)
same_uid u v =
    both_equal (slice_cmp nat_cmp (name_bytes u.entity_type.0.internal) (name_bytes v.entity_type.0.internal)) (slice_cmp nat_cmp (eid_text u.eid) (eid_text v.eid))
    ∙ (λ i. is_eq-slice_cmp (name_bytes u.entity_type.0.internal) (name_bytes v.entity_type.0.internal) i && is_eq-slice_cmp (eid_text u.eid) (eid_text v.eid) i)
    ∙ uids_eq_is u v

-- what is looked up by a key is looked up by its uid
pub by_its_uid : {A : Type 0} (es : List (EntityUID × A)) (k : EntityUID) → lookup (is_at (uids_by k)) es ≡ found_at es (uid_of k)
by_its_uid [] k = refl
by_its_uid (e ∷ es) k = λ i. cond (same_uid k e.0 i) (Some e.1) (by_its_uid es k i)
