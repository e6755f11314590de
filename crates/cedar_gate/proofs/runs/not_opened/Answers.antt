use Rattle.std.proofs.Common.{rules, ◌≡◌, None, ap, refl, subst}
use Rattle.cedar_gate_model.specs.Session.{name_of_variable}
use Rattle.cedar_gate_openings.specs.Faults.{IsOpenFault}
use Rattle.cedar_gate_openings.specs.declared.faults.OpenFault.TheVariants.{NameOfVariable}
use Rattle.cedar_gate_runs.specs.Transcripts.{entries_of}
use Rattle.cedar_gate.proofs.Opening.{unopened}
use Rattle.cedar_gate.proofs.runs.not_opened.Goals as goal

pub returns-in-NameOfVariable-clause-stopped : goal.returns-in-NameOfVariable-clause-stopped
returns-in-NameOfVariable-clause-stopped c =
    let is : c.args.fault ≡ NameOfVariable = search rules in
    λ d h. unopened d (record { entries = c.new-entries.result; answer = None }) _ name_of_variable (ap entries_of c.new-entries.ensures.items) refl (subst (IsOpenFault d.start) is h)
