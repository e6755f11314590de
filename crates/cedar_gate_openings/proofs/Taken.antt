-- Which values names take.
use Rattle.std.proofs.Common.{◌≡◌, true, false, Bool, not, List, Option, Some, None, codes, refl, sym, ap, ◌∙◌}
use Rattle.std.specs.List.{list_any}
use Rattle.std.specs.Str.{bytes_eq}
use Rattle.std.proofs.lemmas.Slice.Eq.{bytes_eq-Decides}
use Rattle.cedar_expr_model.specs.Name.{Text, name_eq}
use Rattle.cedar_expr_model.specs.Uid.{Uid}
use Rattle.cedar_expr_model.specs.Made.{Made, bare, made_prim, made_set, made_record, made_extension}
use Rattle.cedar_expr_model.specs.Parts.{Unknown}
use Rattle.cedar_expr_model.specs.Substitution.{fits_annotation}
use Rattle.cedar_expr_model.proofs.Lists.{both_hold, hold_both}
use Rattle.cedar_expr_model.specs.Value.{truth, long, text, entity}
use Rattle.cedar_store_model.specs.Reads.{uid_of}
use Rattle.cedar_evaluator_model.specs.Scope.{Entry, uid, unknown_uid}
use Rattle.cedar_gate_model.specs.Session.{IsNoRecord, IsOtherKind}
use Rattle.cedar_gate_openings.specs.Values.{is_against_one, IsAgainstOne, IsNoEntity, IsNoContext, is_record, is_other_kind}
use Rattle.cedar_gate_openings.proofs.Absent.{any_there, any_absent}

not_true : (b : Bool) → not b ≡ true → b ≡ false
not_true true e = cc
not_true false e = refl

not_false : (b : Bool) → b ≡ false → not b ≡ true
not_false b e = ap not e

-- an unknown whose annotation the value is against, or none
pub against_there : (us : List Unknown) (n : Text) (m : Made) → list_any (is_against_one n (bare m)) us ≡ true → IsAgainstOne us n m
against_there us n m e =
    let k = any_there (is_against_one n (bare m)) us e in
    let p = both_hold (bytes_eq n (k.0).name) (not (fits_annotation (k.0).annotation (bare m))) k.2 in
    (k.0, k.1, sym ((bytes_eq-Decides n (k.0).name).0 p.0), not_true (fits_annotation (k.0).annotation (bare m)) p.1)

pub against_absent : (us : List Unknown) (n : Text) (m : Made) → list_any (is_against_one n (bare m)) us ≡ false → IsAgainstOne us n m → ⊥
against_absent us n m e h =
    any_absent (is_against_one n (bare m)) us e h.0 h.1
    (hold_both (bytes_eq n (h.0).name) (not (fits_annotation (h.0).annotation (bare m))) ((bytes_eq-Decides n (h.0).name).1 (sym h.2)) (not_false (fits_annotation (h.0).annotation (bare m)) h.3))

-- the context that gets no record, or not
pub no_record : (m : Made) → is_record m ≡ false → IsNoRecord m
no_record (made_record fs) e = cc
no_record (made_prim p) e = tt
no_record (made_set ms) e = tt
no_record (made_extension n k g ps) e = tt

record_is : (m : Made) → is_record m ≡ true → IsNoRecord m → ⊥
record_is (made_record fs) e h = h
record_is (made_prim p) e h = cc
record_is (made_set ms) e h = cc
record_is (made_extension n k g ps) e h = cc

pub no_context : (n : Text) (m : Made) → bytes_eq n (codes "context") ≡ true → is_record m ≡ false → IsNoContext n m
no_context n m e h = ((bytes_eq-Decides n (codes "context")).0 e, no_record m h)

never : true ≡ false → ⊥
never e = cc

pub other_name : (n : Text) (m : Made) → bytes_eq n (codes "context") ≡ false → IsNoContext n m → ⊥
other_name n m e h = never (sym ((bytes_eq-Decides n (codes "context")).1 h.0) ∙ e)

pub has_record : (n : Text) (m : Made) → is_record m ≡ true → IsNoContext n m → ⊥
has_record n m e h = record_is m e h.1

-- an entity of another type than the entry has, or not
pub other_kind : (e : Entry) (m : Made) (u : Uid) → uid_of (bare m) ≡ Some u → is_other_kind e u ≡ true → IsOtherKind (Some e) m
other_kind (unknown_uid (Some k)) (made_prim (entity v)) u q e = let same : v ≡ u = cc in not_true (name_eq v.kind k) (ap (λ (w : Uid). not (name_eq w.kind k)) same ∙ e)
other_kind (unknown_uid (Some k)) (made_prim (truth b)) u q e = cc
other_kind (unknown_uid (Some k)) (made_prim (long n)) u q e = cc
other_kind (unknown_uid (Some k)) (made_prim (text t)) u q e = cc
other_kind (unknown_uid (Some k)) (made_set ms) u q e = cc
other_kind (unknown_uid (Some k)) (made_record fs) u q e = cc
other_kind (unknown_uid (Some k)) (made_extension n l g ps) u q e = cc
other_kind (unknown_uid None) m u q e = cc
other_kind (uid v) m u q e = cc

pub same_kind : (e : Entry) (m : Made) (u : Uid) → uid_of (bare m) ≡ Some u → is_other_kind e u ≡ false → IsOtherKind (Some e) m → ⊥
same_kind (unknown_uid (Some k)) (made_prim (entity v)) u q e h = let same : v ≡ u = cc in never (sym (not_false (name_eq v.kind k) h) ∙ ap (λ (w : Uid). not (name_eq w.kind k)) same ∙ e)
same_kind (unknown_uid (Some k)) (made_prim (truth b)) u q e h = h
same_kind (unknown_uid (Some k)) (made_prim (long n)) u q e h = h
same_kind (unknown_uid (Some k)) (made_prim (text t)) u q e h = h
same_kind (unknown_uid (Some k)) (made_set ms) u q e h = h
same_kind (unknown_uid (Some k)) (made_record fs) u q e h = h
same_kind (unknown_uid (Some k)) (made_extension n l g ps) u q e h = h
same_kind (unknown_uid None) m u q e h = h
same_kind (uid v) m u q e h = h

-- it is some entity
pub is_entity : (e : Option Entry) (m : Made) (u : Uid) → uid_of (bare m) ≡ Some u → IsNoEntity e m → ⊥
is_entity e m u q h = let c : None ≡ Some u = sym h.1 ∙ q in cc
