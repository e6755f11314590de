use Rattle.std.proofs.Common.{ap, ◌∙◌}
use Rattle.std.specs.Prelude.{option_and_then}
use Rattle.cedar_evaluator_requests.specs.Views.{entry_uid, request_of}
use Rattle.cedar_schema_built.specs.Views.{schema_kept}
use Rattle.cedar_schema_model.specs.Kept.{kept_action}
use Rattle.cedar_gate_conforming.proofs.Placed.{known_is}
use Rattle.cedar_gate_conforming.proofs.requests.action_of.Goals as goal

pub returns-in-Some : goal.returns-in-Some
returns-in-Some c =
    let k = schema_kept c.args.schema.now in
    c.get_action_id.ensures ∙ ap (option_and_then (kept_action k)) (c.in-Some.ensures ∙ ap entry_uid c.action.ensures.entry ∙ known_is (request_of c.args.request.now).action)

pub returns-in-None : goal.returns-in-None
returns-in-None c =
    let k = schema_kept c.args.schema.now in
    ap (option_and_then (kept_action k)) (c.in-None.ensures ∙ ap entry_uid c.action.ensures.entry ∙ known_is (request_of c.args.request.now).action)
