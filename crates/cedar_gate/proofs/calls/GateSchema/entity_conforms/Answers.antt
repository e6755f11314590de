use Rattle.std.proofs.Common.{subst, sym}
use Rattle.cedar_store_entities.specs.Views.{entity_uid, entity_of}
use Rattle.cedar_schema_built.specs.Views.{schema_kept}
use Rattle.cedar_schema_built.specs.declared.schema.ValidatorSchema.{ValidatorSchema}
use Rattle.cedar_schema_model.specs.Resolved.{schema_of}
use Rattle.cedar_gate_accepted.specs.Alike.{IsKeptByTests}
use Rattle.cedar_gate.specs.Gates.{declared_in}
use Rattle.cedar_gate.proofs.Decided.{entity_decided, verdict_told}
use Rattle.cedar_gate.proofs.calls.GateSchema.entity_conforms.Goals as goal

pub returns : goal.returns
returns g c =
    let a = c.args.self.now in
    let e = c.args.entity.now in
    entity_decided c.what_is_kept_conforms_alike.ensures.declared (declared_in a) (schema_kept c.schema.result.now)
    (subst (λ (x : ValidatorSchema). IsKeptByTests (schema_of (declared_in a)) (schema_kept x)) (sym c.schema.ensures) a.kept) c.check_entity.result c.is_ok.result
    (verdict_told c.check_entity.result c.is_ok.result c.is_ok.ensures.value c.check_entity.ensures.told) (entity_uid e) (entity_of e)
    c.check_entity.ensures.conforms c.check_entity.ensures.refused
