use Rattle.std.proofs.Common.{rules, ◌≡◌, ◌∙◌, ◌++◌, length, ap, refl, sym, subst, pos, to_z, of_z, w32}
use Rattle.std.specs.Prelude.{drop}
use Rattle.cedar_gate_runs.specs.Statuses.{status_of}
use Rattle.cedargate_functions.specs.Served.{PrintsByRanks}
use Rattle.cedargate_c.specs.Calls.{Outcome, served, outcome_number, Leaves}
use Rattle.cedargate_c.proofs.Rooms.{text_is_left, number_is}
use Rattle.cedargate_c.proofs.cedargate_serve.Goals as goal

pub returns-clause-outcome : goal.returns-clause-outcome
returns-clause-outcome c =
    let s = status_of c.in-Ok.printed.status in
    let text = c.as_slice-text.result.now in
    let may = subst (PrintsByRanks c.args.bundle.now s) (sym c.as_slice-text.ensures.value) c.in-Ok.ensures in
    let kept : to_z w32 (of_z w32 c.from.result) ≡ c.from.result = search rules in (
      served s,
      kept ∙ c.from.ensures ∙ ap pos (c.number.ensures ∙ number_is c.in-Ok.printed.status),
      subst (λ t. Leaves c.args.bundle.now (served s) c.args.room.now (t ++ drop (length text) c.args.room.now) (length text)) (sym c.copy_from_slice.ensures.after) (text_is_left c.args.bundle.now s c.args.room.now text (length text) refl may),
    )
