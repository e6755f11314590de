use Rattle.cedar_evaluator_model.specs.ReauthorizeLaws.{Step}
use Rattle.cedar_evaluator_reads.proofs.Canonical.{request_canonical, map_canonical}
use Rattle.cedar_evaluator_reads.specs.Scopes.{values_in}
use Rattle.cedar_evaluator.specs.Authorizers.{asks_table, keeps_limit}
use Rattle.cedar_evaluator.specs.Responses.{response_seen}
use Rattle.cedar_evaluator.specs.Scopes.{scope_for}
use Rattle.cedar_evaluator.proofs.Repeated.{AreOfValues, again_laws}
use Rattle.cedar_evaluator.proofs.Scoped.{values_for}
use Rattle.cedar_evaluator.proofs.partial_response.PartialResponse.reauthorize.Goals as goal

pub returns-clause-laws : goal.returns-clause-laws
returns-clause-laws g c = λ fs k.
    let r = response_seen c.args.self.now in
    let s = scope_for g.T.FunctionTable.table (asks_table c.args.auth.now) r.request c.args.es.now fs in
    let x : Step = record { scope = s; depth = keeps_limit c.args.auth.now; values = values_in c.args.mapping.now } in
    let context = request_canonical c.args.self.now.request.value in
    let scope = values_for g.T.FunctionTable.table (asks_table c.args.auth.now) r.request c.args.es.now fs context (g.met.T.FunctionTable.makes_values (asks_table c.args.auth.now) fs.calls k) in
    let values : AreOfValues x r = record { scope = scope; bound = map_canonical c.args.mapping.now; context = context } in
    again_laws x r c.resumed.result values (c.resumed.ensures fs k)
