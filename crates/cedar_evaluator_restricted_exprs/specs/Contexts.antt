-- What is left of a record, as a context.
-- Rule: requests and contexts; restricted expressions (docs/RULES.md).
use Rattle.std.specs.Prelude.{◌≡◌, true, Option, Some, IfSome, IsSome, option_map}
use Rattle.cedar_expr_model.specs.Restricted.{is_restricted}
use Rattle.cedar_expr_model.specs.Tree.{Tree}
use Rattle.cedar_expr_model.specs.Unknowns.{has_unknown}
use Rattle.cedar_evaluator_model.specs.Reauthorize.{context_from}
use Rattle.cedar_evaluator_model.specs.Scope.{Left, value_left, residual, stopped}
use Rattle.cedar_evaluator_requests.specs.Views.{context_of}
use Rattle.cedar_evaluator_requests.specs.declared.context.Context as code

-- what is left of a record: one of values; or one of restricted expressions in which an unknown stands; or nothing
abbrev pub IsOfRecord : Left → Type 0
IsOfRecord (value_left m) = IsSome (context_from (value_left m))
IsOfRecord (residual r) = IsSome (context_from (residual r)) × (has_unknown r ≡ true) × (is_restricted r ≡ true)
IsOfRecord (stopped s) = Unit {0}

-- a context that is made of what is left is that of the record
abbrev pub IsContextOf : Left → Option code.Context → Type 0
IsContextOf l c = IfSome c (λ k. context_from l ≡ Some (context_of k))

-- Of a restricted expression in which an unknown stands, this is the context.
abbrev pub IsContextLeft : Tree → Option code.Context → Type 0
IsContextLeft t c = is_restricted t ≡ true → has_unknown t ≡ true → option_map context_of c ≡ context_from (residual t)
