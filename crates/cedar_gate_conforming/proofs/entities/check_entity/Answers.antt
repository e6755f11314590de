use Rattle.std.proofs.Common.{◌∙◌}
use Rattle.std.proofs.lemmas.Result.{on_ok_weaker, IfErr-weaker}
use Rattle.cedar_gate_model.specs.Asked.{kept_entity_fault}
use Rattle.cedar_schema_built.specs.Views.{schema_kept}
use Rattle.cedar_schema_model.specs.Conforming.{has_entity_fault}
use Rattle.cedar_store_entities.specs.Views.{entity_uid, entity_of}
use Rattle.cedar_gate_conforming.specs.Faults.{IsFirst, IsThere}
use Rattle.cedar_gate_conforming.proofs.Shown.{there}
use Rattle.cedar_gate_conforming.proofs.entities.check_entity.Goals as goal

pub returns-clause-conforms : goal.returns-clause-conforms
returns-clause-conforms c = λ s w.
    let k = schema_kept c.args.schema.now in
    let u = entity_uid c.args.entity.now in
    let e = entity_of c.args.entity.now in
    on_ok_weaker c.check_kept.result (λ h f. w.entities u e f ∙ c.first_faults_are_faults.ensures.none (kept_entity_fault k u e) h f) c.check_kept.ensures.none

pub returns-clause-refused : goal.returns-clause-refused
returns-clause-refused c = λ s w.
    let k = schema_kept c.args.schema.now in
    let u = entity_uid c.args.entity.now in
    let e = entity_of c.args.entity.now in
    IfErr-weaker c.check_kept.result (IsFirst (kept_entity_fault k u e)) (IsThere (has_entity_fault s u e))
    (there c.first_faults_are_faults.ensures.there (has_entity_fault s u e) (kept_entity_fault k u e) (w.entities u e)) c.check_kept.ensures.first
