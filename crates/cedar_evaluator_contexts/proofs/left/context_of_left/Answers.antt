use Rattle.std.proofs.Common.{◌≡◌, Option, Some, None, IsSome}
use Rattle.cedar_expr_values.specs.declared.extension.ExtValue.{ExtValue}
use Rattle.cedar_expr_partial.specs.declared.partial_value.PartialValue.{PartialValue}
use Rattle.cedar_expr_partial.specs.declared.partial_value.PartialValue.TheVariants.{Value as Whole, Residual}
use Rattle.cedar_evaluator_errors.specs.Outcomes.{left_seen}
use Rattle.cedar_evaluator_model.specs.Reauthorize.{context_from}
use Rattle.cedar_evaluator_model.specs.Scope as model
use Rattle.cedar_evaluator_restricted_exprs.specs.Contexts.{IsOfRecord}
use Rattle.cedar_evaluator_contexts.proofs.left.context_of_left.Goals as goal

none_there : (o : Option model.Context) → IsSome o → None ≡ o → ⊥
none_there None h e = cc
none_there (Some c) h e = cc

no_record : (left : PartialValue ExtValue) → IsOfRecord (left_seen left) → None ≡ context_from (left_seen left) → ⊥
no_record (Whole v) h e = none_there (context_from (left_seen (Whole v))) h e
no_record (Residual t) h e = none_there (context_from (left_seen (Residual t))) h.0 e

pub returns-in-Some : goal.returns-in-Some
returns-in-Some c = rw c.in-Some.is at c.in_ok-context.ensures.some

pub returns-in-None : goal.returns-in-None
returns-in-None c = λ m h.
    let made = rw c.in-None.is at c.in_ok-context.ensures.context in
    no_record c.args.left h (made h)
