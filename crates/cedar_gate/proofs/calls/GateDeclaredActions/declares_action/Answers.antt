use Rattle.std.proofs.Common.{◌∙◌}
use Rattle.std.specs.Borrow.{Bor}
use Rattle.cedar_expr_names.specs.Views.{uid_of}
use Rattle.cedar_schema_built.specs.Views.{schema_kept}
use Rattle.cedar_schema_entries.specs.Views.{action_seen}
use Rattle.cedar_schema_entries.specs.declared.action.ValidatorActionId.{ValidatorActionId}
use Rattle.cedar_typechecker_model.proofs.Seen.Told.{action_there}
use Rattle.cedar_gate.specs.Gates.{declared_in}
use Rattle.cedar_gate_accepted.proofs.Tested.{actions_alike}
use Rattle.cedar_gate.proofs.calls.GateDeclaredActions.declares_action.Goals as goal

pub returns : goal.returns
returns g c =
    let s = c.args.self.now in
    let u = uid_of c.args.uid.now in
    c.is_some.ensures
    ∙ action_there (schema_kept s.schema) u (λ (a : Bor ValidatorActionId). action_seen a.now) c.get_action_id.result c.get_action_id.ensures
    ∙ actions_alike c.seen_schemas_answer_alike.ensures.declared (declared_in s) (schema_kept s.schema) s.kept u
