use Rattle.std.proofs.Common.{Some, None, sym, ◌∙◌}
use Rattle.std.specs.Rc.{rc_str_bytes}
use Rattle.cedar_typechecker_levels.specs.Paths.{path_of}
use Rattle.cedar_typechecker_levels.proofs.OfKinds.{record_steps}
use Rattle.cedar_typechecker_levels.proofs.Finding.{steps_found}
use Rattle.cedar_typechecker_levels.proofs.steps.+steps.Goals as goal

pub steps-returns-in-Some : goal.steps-returns-in-Some
steps-returns-in-Some t c =
    let split = c.in-Some.split in
    c.steps_in.ensures ∙ record_steps c.args.expr.now (path_of c.args.path.now) (rc_str_bytes split.name.now) (path_of split.others) c.in-Record.fields c.deref-in-Some.result.now (sym c.expr_kind.ensures.kind ∙ c.in-Record.is) c.deref-in-Some.ensures (sym c.in-Some.ensures)

pub steps_in-returns-in-Some : goal.steps_in-returns-in-Some
steps_in-returns-in-Some t c = c.steps.ensures ∙ steps_found (rc_str_bytes c.args.name.now) (path_of c.args.others.now) c.args.fields.now.entries (Some c.in-Some.e.now) c.in-Some.ensures.value

pub steps_in-returns-in-None : goal.steps_in-returns-in-None
steps_in-returns-in-None t c = steps_found (rc_str_bytes c.args.name.now) (path_of c.args.others.now) c.args.fields.now.entries None c.in-None.ensures.value
