use Rattle.std.proofs.Common.{◌≡◌, map, ap, ◌∙◌, subst, sym, None}
use Rattle.std.specs.List.{filter_map}
use Rattle.cedar_expr_model.specs.Order.{core_eq}
use Rattle.cedar_expr_model.specs.Repeats.{repeated}
use Rattle.cedar_expr_model.specs.Table.{constructed}
use Rattle.cedar_expr_functions.specs.Functions.{function_signature}
use Rattle.cedar_expr_functions.specs.Refusals.{RefusesConstructors}
use Rattle.cedar_expr_functions.proofs.Found.{moved_signatures, moved_answers, moved_functions}
use Rattle.cedar_expr_functions.proofs.Faulty.{none_there, names_refused, constructors_refused}
use Rattle.cedar_expr_functions.proofs.extensions.Extensions.specific_extensions.Goals as goal

pub returns-in_err-functions-clause-refused : goal.returns-in_err-functions-clause-refused
returns-in_err-functions-clause-refused g c = names_refused c.args.extensions.now c.as_slice.result.now (ap (map (λ f. f.now)) c.as_slice.ensures.value ∙ c.in_ok-all.ensures) c.in_err-functions.field-0.0 c.in_err-functions.ensures.refused c.from_residual-in_err-functions.result c.from_residual-in_err-functions.ensures.1

pub returns-in_err-refuse_two_constructors-clause-refused : goal.returns-in_err-refuse_two_constructors-clause-refused
returns-in_err-refuse_two_constructors-clause-refused g c = constructors_refused c.args.extensions.now c.as_slice.result.now (ap (map (λ f. f.now)) c.as_slice.ensures.value ∙ c.in_ok-all.ensures) c.in_ok-functions.ensures.distinct c.in_err-refuse_two_constructors.field-0.0 (subst (λ fs. RefusesConstructors (filter_map constructed (map (λ f. function_signature f.now) fs)) c.in_err-refuse_two_constructors.field-0.0) (c.as_slice-2.ensures.value ∙ sym c.as_slice.ensures.value) c.in_err-refuse_two_constructors.ensures.refused) c.from_residual-in_err-refuse_two_constructors.result c.from_residual-in_err-refuse_two_constructors.ensures.1

pub returns-clause-functions : goal.returns-clause-functions
returns-clause-functions g c = moved_signatures c.args.extensions.now c.as_slice.result.now c.in_ok-functions.functions.items (ap (map (λ f. f.now)) c.as_slice.ensures.value ∙ c.in_ok-all.ensures) c.in_ok-functions.ensures.functions

pub returns-clause-answers : goal.returns-clause-answers
returns-clause-answers g c = moved_answers c.args.extensions.now c.as_slice.result.now _ (ap (map (λ f. f.now)) c.as_slice.ensures.value ∙ c.in_ok-all.ensures) c.in_ok-functions.ensures.functions

pub returns-clause-sound : goal.returns-clause-sound
returns-clause-sound g c = none_there c.args.extensions.now c.as_slice.result.now (ap (map (λ f. f.now)) c.as_slice.ensures.value ∙ c.in_ok-all.ensures) c.in_ok-functions.ensures.distinct (subst (λ fs. repeated core_eq (filter_map constructed (map (λ f. function_signature f.now) fs)) ≡ None) (c.as_slice-2.ensures.value ∙ sym c.as_slice.ensures.value) c.in_ok-refuse_two_constructors.ensures.distinct)

pub returns-clause-stored : goal.returns-clause-stored
returns-clause-stored g c = moved_functions c.args.extensions.now c.as_slice.result.now c.in_ok-functions.functions.items (ap (map (λ f. f.now)) c.as_slice.ensures.value ∙ c.in_ok-all.ensures) c.in_ok-functions.ensures.functions
