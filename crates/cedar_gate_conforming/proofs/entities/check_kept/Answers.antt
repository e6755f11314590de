use Rattle.std.proofs.Common.{◌≡◌, None, sym, subst, ap, ◌∙◌}
use Rattle.std.specs.Prelude.{IfErr, OnOk}
use Rattle.cedar_gate_model.specs.Asked.{kept_fault_at}
use Rattle.cedar_gate_model.specs.First.{first_fault}
use Rattle.cedar_schema_built.specs.Views.{schema_kept}
use Rattle.cedar_schema_model.specs.Kept.{kept_action}
use Rattle.cedar_schema_model.specs.Conforming.{Place}
use Rattle.cedar_store_entities.specs.Views.{entity_uid, entity_of}
use Rattle.cedar_gate_conforming.specs.Faults.{IsFirst}
use Rattle.cedar_gate_conforming.proofs.Placed.{place_action, place_typed}
use Rattle.cedar_gate_conforming.proofs.entities.check_kept.Goals as goal

pub returns-in-Some-clause-none : goal.returns-in-Some-clause-none
returns-in-Some-clause-none c =
    let k = schema_kept c.args.schema.now in
    let u = entity_uid c.args.entity.now in
    let e = entity_of c.args.entity.now in
    subst (λ (p : Place). OnOk c.check_action.result (first_fault (kept_fault_at k u e p) ≡ None)) (sym (place_action k u _ (c.in-Some.ensures ∙ ap (kept_action k) c.uid.ensures))) c.check_action.ensures.none

pub returns-in-Some-clause-first : goal.returns-in-Some-clause-first
returns-in-Some-clause-first c =
    let k = schema_kept c.args.schema.now in
    let u = entity_uid c.args.entity.now in
    let e = entity_of c.args.entity.now in
    subst (λ (p : Place). IfErr c.check_action.result (IsFirst (kept_fault_at k u e p))) (sym (place_action k u _ (c.in-Some.ensures ∙ ap (kept_action k) c.uid.ensures))) c.check_action.ensures.first

pub returns-in-None-clause-none : goal.returns-in-None-clause-none
returns-in-None-clause-none c =
    let k = schema_kept c.args.schema.now in
    let u = entity_uid c.args.entity.now in
    let e = entity_of c.args.entity.now in
    subst (λ (p : Place). OnOk c.check_typed.result (first_fault (kept_fault_at k u e p) ≡ None)) (sym (place_typed k u (c.in-None.ensures ∙ ap (kept_action k) c.uid.ensures))) c.check_typed.ensures.none

pub returns-in-None-clause-first : goal.returns-in-None-clause-first
returns-in-None-clause-first c =
    let k = schema_kept c.args.schema.now in
    let u = entity_uid c.args.entity.now in
    let e = entity_of c.args.entity.now in
    subst (λ (p : Place). IfErr c.check_typed.result (IsFirst (kept_fault_at k u e p))) (sym (place_typed k u (c.in-None.ensures ∙ ap (kept_action k) c.uid.ensures))) c.check_typed.ensures.first
