-- What a context may be made of, and the context of a request with values put in.
-- Rule: reauthorizing (docs/RULES.md).
use Rattle.std.specs.Prelude.{Option, Some, None, option_map, codes}
use Rattle.std.specs.Borrow.{Bor}
use Rattle.cedar_expr_model.specs.Made.{Made, MadeFields, made_record}
use Rattle.cedar_expr_model.specs.Substitution.{Bindings}
use Rattle.cedar_evaluator_model.specs.Reauthorize.{Outcome, and_next, context_bound, context_substituted}
use Rattle.cedar_evaluator_model.specs.Response.{PartialRequest}
use Rattle.cedar_evaluator_model.specs.Scope.{Scope, Context}
use Rattle.cedar_evaluator_requests.specs.Views.{context_or_unknown}
use Rattle.cedar_evaluator_requests.specs.declared.context.Context as code

-- the fields of a value that is a record
abbrev pub fields_in_value : Made → Option MadeFields
fields_in_value (made_record fs) = Some fs
fields_in_value m = None

-- a context that is lent, where there is one
abbrev pub context_lent : Option (Bor code.Context) → Context
context_lent c = context_or_unknown (option_map (λ b. b.now) c)

-- The context of the request with these values: one of its own, if it is unknown, and those of its unknowns put in.
abbrev pub request_context_bound : Scope → Bindings → PartialRequest → Outcome Context
request_context_bound s b q = and_next (context_bound q.context (b (codes "context"))) (context_substituted s b)
