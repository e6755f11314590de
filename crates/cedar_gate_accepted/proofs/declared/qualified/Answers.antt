use Rattle.std.proofs.Common.{sym, ap, ◌∙◌}
use Rattle.std.specs.Prelude.{flat_map}
use Rattle.cedar_gate_accepted.proofs.Building.{fragment_faults}
use Rattle.cedar_schema_builder.specs.Faults.{fault_told}
use Rattle.cedar_schema_fragments.specs.Written.{written_fragment}
use Rattle.cedar_gate_accepted.proofs.declared.qualified.Goals as goal

pub returns-in-Err-clause-refused : goal.returns-in-Err-clause-refused
returns-in-Err-clause-refused c =
    λ x f k. fragment_faults c.fragments_are_written.ensures.told c.fragments_are_written.ensures.faulty x (flat_map written_fragment c.args.fragments.now) c.in-Err.error c.in-Err.ensures.refused f (ap fault_told (sym c.from.ensures) ∙ k)
