use Rattle.std.proofs.Common.{ap, ◌∙◌}
use Rattle.cedar_gate_model.specs.Asked.{is_unlisted}
use Rattle.cedar_schema_built.specs.Views.{schema_kept}
use Rattle.cedar_schema_model.specs.Conforming.{where_known}
use Rattle.cedar_gate_conforming.specs.Views.{request_seen}
use Rattle.cedar_gate_conforming.proofs.Placed.{asked}
use Rattle.cedar_gate_conforming.proofs.requests.is_unlisted.Goals as goal

pub returns-in-Some : goal.returns-in-Some
returns-in-Some c =
    let r = request_seen c.args.request.now in
    c.applies_not.ensures ∙ ap (λ o. where_known o (is_unlisted r)) c.in-Some.ensures ∙ asked (schema_kept c.args.schema.now) r.action (is_unlisted r)

pub returns-in-None : goal.returns-in-None
returns-in-None c =
    let r = request_seen c.args.request.now in
    ap (λ o. where_known o (is_unlisted r)) c.in-None.ensures ∙ asked (schema_kept c.args.schema.now) r.action (is_unlisted r)
