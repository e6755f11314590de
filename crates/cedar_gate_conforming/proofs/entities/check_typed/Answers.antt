use Rattle.std.proofs.Common.{◌≡◌, Some, None, sym, subst, ap, refl, ◌∙◌}
use Rattle.std.specs.Prelude.{IfErr, OnOk}
use Rattle.cedar_expr_model.specs.Uid.{Uid}
use Rattle.cedar_gate_model.specs.Asked.{kept_fault_at}
use Rattle.cedar_gate_model.specs.First.{first_fault}
use Rattle.cedar_schema_built.specs.Views.{schema_kept}
use Rattle.cedar_schema_entries.specs.Views.{entity_type_seen}
use Rattle.cedar_schema_model.specs.Kept.{kept_type}
use Rattle.cedar_schema_model.specs.Conforming.{Place, undeclared}
use Rattle.cedar_store_entities.specs.Views.{entity_uid, entity_of}
use Rattle.cedar_gate_conforming.specs.Faults.{IsFirst}
use Rattle.cedar_gate_conforming.proofs.Placed.{place_found, place_none}
use Rattle.cedar_gate_conforming.proofs.entities.check_typed.Goals as goal

pub returns-in-Some-clause-none : goal.returns-in-Some-clause-none
returns-in-Some-clause-none c =
    let k = schema_kept c.args.schema.now in
    let u = entity_uid c.args.entity.now in
    let e = entity_of c.args.entity.now in
    let named = c.entity_type.ensures ∙ ap (λ (v : Uid). v.kind) c.uid.ensures in
    subst (λ (p : Place). OnOk c.check_of_type.result (first_fault (kept_fault_at k u e p) ≡ None)) (sym (place_found k u.kind (entity_type_seen c.in-Some.ty.now) (c.in-Some.ensures ∙ ap (kept_type k) named))) c.check_of_type.ensures.none

pub returns-in-Some-clause-first : goal.returns-in-Some-clause-first
returns-in-Some-clause-first c =
    let k = schema_kept c.args.schema.now in
    let u = entity_uid c.args.entity.now in
    let e = entity_of c.args.entity.now in
    let named = c.entity_type.ensures ∙ ap (λ (v : Uid). v.kind) c.uid.ensures in
    subst (λ (p : Place). IfErr c.check_of_type.result (IsFirst (kept_fault_at k u e p))) (sym (place_found k u.kind (entity_type_seen c.in-Some.ty.now) (c.in-Some.ensures ∙ ap (kept_type k) named))) c.check_of_type.ensures.first

pub returns-in-None-clause-first : goal.returns-in-None-clause-first
returns-in-None-clause-first c =
    let k = schema_kept c.args.schema.now in
    let u = entity_uid c.args.entity.now in
    let e = entity_of c.args.entity.now in
    let named = c.entity_type.ensures ∙ ap (λ (v : Uid). v.kind) c.uid.ensures in
    subst (λ (p : Place). first_fault (kept_fault_at k u e p) ≡ Some undeclared) (sym (place_none k u.kind (c.in-None.ensures ∙ ap (kept_type k) named))) refl
