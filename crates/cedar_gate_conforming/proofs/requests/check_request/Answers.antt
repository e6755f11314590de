use Rattle.std.proofs.Common.{◌∙◌}
use Rattle.std.proofs.lemmas.Result.{on_ok_weaker, IfErr-weaker}
use Rattle.cedar_gate_model.specs.Asked.{kept_request_fault}
use Rattle.cedar_schema_built.specs.Views.{schema_kept}
use Rattle.cedar_schema_model.specs.Conforming.{has_request_fault}
use Rattle.cedar_gate_conforming.specs.Views.{request_seen}
use Rattle.cedar_gate_conforming.specs.Faults.{IsFirst, IsThere}
use Rattle.cedar_gate_conforming.proofs.Shown.{there}
use Rattle.cedar_gate_conforming.proofs.requests.check_request.Goals as goal

pub returns-clause-conforms : goal.returns-clause-conforms
returns-clause-conforms c = λ s w.
    let k = schema_kept c.args.schema.now in
    let r = request_seen c.args.request.now in
    on_ok_weaker c.check_kept.result (λ h f. w.requests r f ∙ c.first_faults_are_faults.ensures.none (kept_request_fault k r) h f) c.check_kept.ensures.none

pub returns-clause-refused : goal.returns-clause-refused
returns-clause-refused c = λ s w.
    let k = schema_kept c.args.schema.now in
    let r = request_seen c.args.request.now in
    IfErr-weaker c.check_kept.result (IsFirst (kept_request_fault k r)) (IsThere (has_request_fault s r))
    (there c.first_faults_are_faults.ensures.there (has_request_fault s r) (kept_request_fault k r) (w.requests r)) c.check_kept.ensures.first
