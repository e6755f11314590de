use Rattle.std.proofs.Common.{sym, subst}
use Rattle.cedar_schema_built.specs.Views.{schema_kept}
use Rattle.cedar_schema_built.specs.declared.schema.ValidatorSchema.{ValidatorSchema}
use Rattle.cedar_typechecker_model.proofs.Seen.Tests.{tests_closed}
use Rattle.cedar_typechecker_model.specs.Seen.{IsClosed}
use Rattle.cedarcheck.proofs.report.report_accepted.Goals as goal

pub new-requires : goal.new-requires
new-requires g c = subst (λ (s : ValidatorSchema). IsClosed (schema_kept s)) (sym c.schema.ensures) (tests_closed (schema_kept c.args.gate.now.schema) c.args.gate.now.closed)
