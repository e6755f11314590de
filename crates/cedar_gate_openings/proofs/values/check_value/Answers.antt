use Rattle.std.proofs.Common.{option_map}
use Rattle.cedar_expr_values.specs.Extensions.{extension_of}
use Rattle.cedar_expr_values.specs.Values.{made}
use Rattle.cedar_evaluator_requests.specs.Views.{entry_of, context_or_unknown, request_of}
use Rattle.cedar_gate_openings.proofs.Refused.{takes_where_fit}
use Rattle.cedar_gate_openings.proofs.values.check_value.Goals as goal

pub returns-clause-takes : goal.returns-clause-takes
returns-clause-takes c =
    takes_where_fit (request_of c.args.request.now) c.args.name.now (made extension_of c.args.value.now) c.check_context.result (option_map (λ e. entry_of e.now) c.entry_named.result) (context_or_unknown (option_map (λ k. k.now) c.context.result))
    c.entry_named.ensures c.context.ensures c.in_ok-check_variable.ensures.kind c.in_ok-check_variable.ensures.entity c.in_ok-check_unknowns.ensures.fits c.check_context.ensures.fits
