use Rattle.std.proofs.Common.{subst, sym}
use Rattle.cedar_schema_built.specs.Views.{schema_kept}
use Rattle.cedar_schema_built.specs.declared.schema.ValidatorSchema.{ValidatorSchema}
use Rattle.cedar_schema_model.specs.Resolved.{schema_of}
use Rattle.cedar_gate_accepted.specs.Alike.{IsKeptByTests}
use Rattle.cedar_gate.specs.Gates.{declared_in}
use Rattle.cedar_gate.proofs.Acting.{actions_told}
use Rattle.cedar_gate.proofs.calls.GateSchema.actions.Goals as goal

pub returns : goal.returns
returns g c =
    let a = c.args.self.now in
    actions_told c.what_is_kept_conforms_alike.ensures.declared (declared_in a) (schema_kept c.schema.result.now)
    (subst (λ (x : ValidatorSchema). IsKeptByTests (schema_of (declared_in a)) (schema_kept x)) (sym c.schema.ensures) a.kept) c.actions.result c.actions.ensures
