use Rattle.std.proofs.Common.{rules, ap, sym, ◌∙◌}
use Rattle.cedar_expr_names.specs.Views.{uid_of}
use Rattle.cedar_evaluator_errors.specs.Contents.{told_of, no_attribute_or_tag}
use Rattle.cedar_evaluator_errors.proofs.Copied.{texts_copied}
use Rattle.cedar_evaluator_errors.proofs.Same.{same_error}
use Rattle.cedar_evaluator_errors.proofs.err.EvaluationErrorClone.clone.Goals as goal

-- src/err.rt:75:5
pub returns-in_ok-clone-in-EntityAttrDoesNotExist : goal.returns-in_ok-clone-in-EntityAttrDoesNotExist
returns-in_ok-clone-in-EntityAttrDoesNotExist c = let k = c.in_ok-clone-in-EntityAttrDoesNotExist.ensures.cases in record { cases = same_error _ _ ((λ i. no_attribute_or_tag (ap uid_of k.0 i) (k.1.0 i) (k.1.1.0 i) (k.1.1.1.0 i) (texts_copied _ _ k.1.1.1.1.0.0 i) (k.1.1.1.1.1.0 i)) ∙ sym (ap told_of c.in-EntityAttrDoesNotExist.is)) (search rules) }
