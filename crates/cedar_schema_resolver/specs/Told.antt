-- What `cmp` tells of names and uids: equal ones are the same.
-- Rule: descent (docs/RULES.md).
use Rattle.std.proofs.Common.{◌≡◌, ◌&&◌, refl, ap, ◌∙◌, sym}
use Rattle.std.proofs.lemmas.Map.Text.{is_eq-slice_cmp}
use Rattle.std.specs.BTreeMap.{is_at}
use Rattle.std.specs.Bool.{Decides}
use Rattle.std.specs.Ordering.{is_eq, nat_cmp, ordering_then}
use Rattle.std.specs.Cmp.Lexicographic.{slice_cmp}
use Rattle.std.specs.declared.cmp.Ordering.{Ordering}
use Rattle.std.specs.declared.cmp.Ordering.TheVariants.{Less, Equal, Greater}
use Rattle.cedar_expr_model.specs.Name.{name_eq, name_text}
use Rattle.cedar_expr_model.specs.UidOrder.{name_cmp}
use Rattle.cedar_expr_model.specs.Uid.{uid_eq}
use Rattle.cedar_expr_model.proofs.Equality.{name_eq-Decides, uid_eq-Decides}
use Rattle.cedar_expr_names.specs.Views.{name_of, name_bytes, eid_text, uid_of}
use Rattle.cedar_expr_names.specs.declared.internal_name.InternalName.{InternalName}
use Rattle.cedar_expr_names.specs.declared.entity.EntityUID.{EntityUID}
use Rattle.cedar_expr_names.proofs.Equality.{name_eq_is, well_formed, names_cmp_is, uids_cmp_is}

-- what `cmp` computes
abbrev names_cmp : InternalName → InternalName → Ordering
names_cmp m n = slice_cmp nat_cmp (name_bytes m) (name_bytes n)

abbrev uids_cmp : EntityUID → EntityUID → Ordering
uids_cmp u v = ordering_then (slice_cmp nat_cmp (name_bytes u.entity_type.0.internal) (name_bytes v.entity_type.0.internal)) (slice_cmp nat_cmp (eid_text u.eid) (eid_text v.eid))

name_met : (m n : InternalName) → is_at (names_cmp m) n ≡ name_eq (name_of m) (name_of n)
name_met m n = ap is_eq (names_cmp_is m n) ∙ is_eq-slice_cmp (name_text (name_of m)) (name_text (name_of n)) ∙ name_eq_is (name_of m) (name_of n) (well_formed m) (well_formed n)

both_equal : (o p : Ordering) → is_eq (ordering_then o p) ≡ (is_eq o && is_eq p)
both_equal Less p = refl
both_equal Equal p = refl
both_equal Greater p = refl

uid_met : (u v : EntityUID) → is_at (uids_cmp u) v ≡ uid_eq (uid_of u) (uid_of v)
uid_met u v =
    let m = (uid_of u).kind in
    let n = (uid_of v).kind in
    ap is_eq (uids_cmp_is u v)
    ∙ both_equal (name_cmp m n) (slice_cmp nat_cmp (uid_of u).id (uid_of v).id)
    ∙ (λ i. (is_eq-slice_cmp (name_text m) (name_text n) ∙ name_eq_is m n (well_formed u.entity_type.0.internal) (well_formed v.entity_type.0.internal)) i && is_eq-slice_cmp (uid_of u).id (uid_of v).id i)

pub names_told : (m n : InternalName) → Decides (is_at (names_cmp m) n) (name_of m ≡ name_of n)
names_told m n = let d = name_eq-Decides (name_of m) (name_of n) in (λ h. d.0 (sym (name_met m n) ∙ h), λ e. name_met m n ∙ d.1 e)

pub uids_told : (u v : EntityUID) → Decides (is_at (uids_cmp u) v) (uid_of u ≡ uid_of v)
uids_told u v = let d = uid_eq-Decides (uid_of u) (uid_of v) in (λ h. d.0 (sym (uid_met u v) ∙ h), λ e. uid_met u v ∙ d.1 e)
