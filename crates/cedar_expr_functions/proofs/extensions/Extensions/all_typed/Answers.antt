use Rattle.std.proofs.Common.{is_some, sym, ◌∙◌}
use Rattle.std.proofs.lemmas.List.Folds.{list_all-map}
use Rattle.cedar_expr_functions.specs.Functions.{function_signature}
use Rattle.cedar_expr_functions.proofs.extensions.Extensions.all_typed.Goals as goal

pub returns-clause-typed : goal.returns-clause-typed
returns-clause-typed g c = rw c.as_slice.ensures.value at c.all_with_result.ensures ∙ sym (list_all-map (λ s. is_some s.result) (λ f. function_signature f.now) c.args.self.now.functions.items)

pub returns-clause-modelled : goal.returns-clause-modelled
returns-clause-modelled g c = λ answers. rw c.as_slice.ensures.value at c.all_with_result.ensures ∙ sym (list_all-map (λ s. is_some s.result) (λ f. function_signature f.now) c.args.self.now.functions.items)
