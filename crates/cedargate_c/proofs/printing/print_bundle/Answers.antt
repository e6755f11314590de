use Rattle.std.proofs.Common.{◌++◌, ◌∙◌, refl, sym, ap, subst}
use Rattle.cedar_gate_runs.specs.Statuses.{status_of}
use Rattle.cedargate_functions.specs.Served.{PrintsByRanks}
use Rattle.cedargate_c.proofs.printing.print_bundle.Goals as goal

pub returns-in-Ok : goal.returns-in-Ok
returns-in-Ok c =
    let (text, may, adds) = c.in-Ok.ensures.printed c.args.bundle.now refl in
    subst (PrintsByRanks c.args.bundle.now (status_of c.in-Ok.status)) (sym (adds ∙ ap (λ l. l ++ text) c.new-text.ensures.items)) may
