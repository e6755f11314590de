use Rattle.std.proofs.Common.{Option, ap, ◌∙◌}
use Rattle.cedar_expr_model.specs.Uid.{Uid}
use Rattle.std.specs.Prelude.{is_none}
use Rattle.cedar_evaluator_requests.specs.Views.{entry_of}
use Rattle.cedar_schema_built.specs.Views.{schema_kept}
use Rattle.cedar_schema_model.specs.Kept.{kept_action}
use Rattle.cedar_schema_model.specs.Conforming.{where_known}
use Rattle.cedar_gate_conforming.proofs.Placed.{known_is}
use Rattle.cedar_gate_conforming.proofs.requests.names_undeclared.Goals as goal

pub returns-in-Some : goal.returns-in-Some
returns-in-Some c =
    let k = schema_kept c.args.schema.now in
    c.is_undeclared.ensures ∙ ap (λ (o : Option Uid). where_known o (λ u. is_none (kept_action k u))) (c.in-Some.ensures ∙ known_is (entry_of c.args.action.now))

pub returns-in-None : goal.returns-in-None
returns-in-None c =
    let k = schema_kept c.args.schema.now in
    ap (λ (o : Option Uid). where_known o (λ u. is_none (kept_action k u))) (c.in-None.ensures ∙ known_is (entry_of c.args.action.now))
