-- Equality and order of names and uids: those of the names' texts are the model's.
use Rattle.std.proofs.Common.{◌≡◌, true, ◌&&◌, List, [], ◌∷◌, map, refl, sym, ap, ◌∙◌, Decides}
use Rattle.std.specs.List.{list_all}
use Rattle.std.specs.Str.{bytes_eq}
use Rattle.std.specs.Ordering.{nat_cmp, ordering_then}
use Rattle.std.specs.Cmp.Lexicographic.{slice_cmp}
use Rattle.cedar_expr_model.specs.UidOrder.{name_cmp, uid_cmp}
use Rattle.cedar_expr_model.specs.Order.{name_order, uid_order}
use Rattle.cedar_expr_model.proofs.WellFormed.{names_by_text, uids_by_text}
use Rattle.std.proofs.lemmas.Bool.Decides.{same_from_decides}
use Rattle.std.proofs.lemmas.Slice.Eq.{bytes_eq-Decides}
use Rattle.cedar_expr_model.specs.Name.{Name, name_text, name_eq, is_identifier, is_well_formed}
use Rattle.cedar_expr_model.specs.Uid.{uid_eq}
use Rattle.cedar_expr_model.proofs.Lists.{hold_both}
use Rattle.cedar_expr_model.proofs.Equality.{name_eq-Decides}
use Rattle.cedar_expr_model.proofs.UidText.{name_text_apart}
use Rattle.cedar_expr_names.specs.declared.id.Id.{Id}
use Rattle.cedar_expr_names.specs.declared.internal_name.InternalName.{InternalName}
use Rattle.cedar_expr_names.specs.declared.entity.EntityUID.{EntityUID}
use Rattle.cedar_expr_names.specs.Views.{id_text, name_of, name_bytes, eid_text, uid_of}

-- equality of well-formed names is that of their texts
pub name_eq_is : (m n : Name) → is_well_formed m ≡ true → is_well_formed n ≡ true → bytes_eq (name_text m) (name_text n) ≡ name_eq m n
name_eq_is m n h k =
    let same = name_eq-Decides m n in
    let by_name : Decides (name_eq m n) (name_text m ≡ name_text n) = (λ e. ap name_text (same.0 e), λ e. same.1 (name_text_apart m n h k e)) in
    same_from_decides _ (name_eq m n) (bytes_eq-Decides (name_text m) (name_text n)) by_name

ids_identify : (ids : List Id) → list_all is_identifier (map id_text ids) ≡ true
ids_identify [] = refl
ids_identify (i ∷ ids) = hold_both (is_identifier (id_text i)) _ i.identifies (ids_identify ids)

-- each name of the code is well-formed
pub well_formed : (n : InternalName) → is_well_formed (name_of n) ≡ true
well_formed n = hold_both _ (is_identifier (id_text n.content.value.id)) (ids_identify n.content.value.path.items) n.content.value.id.identifies

-- the text that a code name keeps is that of the name
pub text_is : (n : InternalName) → name_bytes n ≡ name_text (name_of n)
text_is n = n.content.value.written

-- what `==` computes of two names
pub names_eq_is : (m n : InternalName) → bytes_eq (name_bytes m) (name_bytes n) ≡ name_eq (name_of m) (name_of n)
names_eq_is m n =
    ap (λ t. bytes_eq t (name_bytes n)) (text_is m)
    ∙ ap (bytes_eq (name_text (name_of m))) (text_is n)
    ∙ name_eq_is (name_of m) (name_of n) (well_formed m) (well_formed n)

-- what `==` computes of two uids
pub uids_eq_is : (u v : EntityUID) → (bytes_eq (name_bytes u.entity_type.0.internal) (name_bytes v.entity_type.0.internal) && bytes_eq (eid_text u.eid) (eid_text v.eid)) ≡ uid_eq (uid_of u) (uid_of v)
uids_eq_is u v = ap (λ t. t && bytes_eq (eid_text u.eid) (eid_text v.eid)) (names_eq_is u.entity_type.0.internal v.entity_type.0.internal)

-- what `cmp` computes of two uids
pub uids_cmp_is : (u v : EntityUID) → ordering_then (slice_cmp nat_cmp (name_bytes u.entity_type.0.internal) (name_bytes v.entity_type.0.internal)) (slice_cmp nat_cmp (eid_text u.eid) (eid_text v.eid)) ≡ uid_cmp (uid_of u) (uid_of v)
uids_cmp_is u v =
    ap (λ t. ordering_then (slice_cmp nat_cmp t (name_bytes v.entity_type.0.internal)) (slice_cmp nat_cmp (eid_text u.eid) (eid_text v.eid))) (text_is u.entity_type.0.internal)
    ∙ ap (λ t. ordering_then (slice_cmp nat_cmp (name_text (uid_of u).kind) t) (slice_cmp nat_cmp (eid_text u.eid) (eid_text v.eid))) (text_is v.entity_type.0.internal)

-- what `cmp` computes of two names
pub names_cmp_is : (m n : InternalName) → slice_cmp nat_cmp (name_bytes m) (name_bytes n) ≡ name_cmp (name_of m) (name_of n)
names_cmp_is m n = ap (λ t. slice_cmp nat_cmp t (name_bytes n)) (text_is m) ∙ ap (slice_cmp nat_cmp (name_text (name_of m))) (text_is n)

-- what `cmp` computes of two names, by the order in which names that are not well-formed are told apart too
pub names_order_is : (m n : InternalName) → slice_cmp nat_cmp (name_bytes m) (name_bytes n) ≡ name_order (name_of m) (name_of n)
names_order_is m n = names_cmp_is m n ∙ sym (names_by_text (name_of m) (name_of n) (well_formed m) (well_formed n))

pub uids_order_is : (u v : EntityUID) → ordering_then (slice_cmp nat_cmp (name_bytes u.entity_type.0.internal) (name_bytes v.entity_type.0.internal)) (slice_cmp nat_cmp (eid_text u.eid) (eid_text v.eid)) ≡ uid_order (uid_of u) (uid_of v)
uids_order_is u v =
    uids_cmp_is u v ∙ sym (uids_by_text (uid_of u) (uid_of v) (well_formed u.entity_type.0.internal) (well_formed v.entity_type.0.internal))
