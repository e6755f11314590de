use Rattle.std.proofs.Common.{sym, subst}
use Rattle.cedar_gate_accepted.proofs.Building.{error_refused}
use Rattle.cedar_gate_accepted.specs.Causes.{IsRefusedFor}
use Rattle.cedar_gate_fragments.specs.Written.{declared_by}
use Rattle.cedar_schema_builder.specs.Extensions.{types_given}
use Rattle.cedar_gate_accepted.proofs.declared.declared_schema.Goals as goal

pub returns-in-Err-clause-refused : goal.returns-in-Err-clause-refused
returns-in-Err-clause-refused g c =
    λ s w. subst (IsRefusedFor s) (sym c.from.ensures)
    (error_refused c.declarations_are_decided.ensures.faults (types_given c.args.table.now) (declared_by c.args.fragments.now) s w c.in-Err.error c.in-Err.ensures.refused)
