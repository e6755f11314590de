-- What a call comes to, by what the function answers.
use Rattle.std.proofs.Common.{◌≡◌, ◌&&◌, Bool, true, false, cond, List, [], ◌∷◌, map, length, Some, None, is_none, refl, sym, ap, ◌∙◌, subst}
use Rattle.std.proofs.lemmas.List.{length-map}
use Rattle.cedar_expr_model.specs.Name.{Name}
use Rattle.cedar_expr_model.specs.Made as model
use Rattle.cedar_expr_model.specs.Made.{Made}
use Rattle.cedar_expr_model.specs.Table.{Signature, takes_count, are_of_types}
use Rattle.cedar_expr_model.specs.Tree.{CoreType}
use Rattle.cedar_expr_values.specs.Extensions.{extension_of}
use Rattle.cedar_expr_values.specs.Values.{made}
use Rattle.cedar_expr_values.specs.declared.value.Value.{Value}
use Rattle.cedar_expr_values.specs.declared.extension.ExtValue.{ExtValue}
use Rattle.cedar_expr_functions.specs.Signatures.{takes, bare_values, first_mistyped}
use Rattle.cedar_expr_functions.specs.Tables.{IsNamedIn}
use Rattle.cedar_expr_functions.specs.declared.extension.ExtensionFunction.{ExtensionFunction}
use Rattle.cedar_expr_functions.specs.declared.extensions.Extensions.{Extensions}
use Rattle.cedar_expr_functions.proofs.Mistyped.{of_types}
use Rattle.cedar_store_model.specs.Outcome.{wrong_type, wrong_count}
use Rattle.cedar_evaluator_model.specs.Scope.{MadeCalled, Left}
use Rattle.cedar_evaluator_model.specs.Steps.{errs, answer_left}
use Rattle.cedar_evaluator_errors.specs.Calls.{call_by}
use Rattle.cedar_evaluator_errors.specs.Answers.{IsMadeBy, AnswersMade}

abbrev pub as_made : List (Value ExtValue) → List Made
as_made vs = map (made extension_of) vs

same_values : (vs : List (Value ExtValue)) → map model.bare (as_made vs) ≡ bare_values vs
same_values [] = refl
same_values (v ∷ vs) = ap (λ us. model.bare (made extension_of v) ∷ us) (same_values vs)

both : (a b : Bool) (x y z : Left) → (a && b) ≡ true → cond a (cond b x y) z ≡ x
both true true x y z h = refl
both true false x y z h = absurd (cc)
both false b x y z h = absurd (cc)

first_alone : (a b : Bool) (x y z : Left) → a ≡ true → b ≡ false → cond a (cond b x y) z ≡ y
first_alone true false x y z h k = refl
first_alone true true x y z h k = absurd (cc)
first_alone false b x y z h k = absurd (cc)

none : (a b : Bool) (x y z : Left) → a ≡ false → cond a (cond b x y) z ≡ z
none true b x y z h = absurd (cc)
none false b x y z h = refl

module _ (calls : Name → List Made → MadeCalled) (n : Name) (vs : List (Value ExtValue)) (g : Signature) where
  counted : takes_count g (length (as_made vs)) ≡ takes_count g (length (bare_values vs))
  counted = ap (takes_count g) (sym (length-map (as_made vs) model.bare)) ∙ ap (λ us. takes_count g (length us)) (same_values vs)

  typed : are_of_types g.parameters (map model.bare (as_made vs)) ≡ are_of_types g.parameters (bare_values vs)
  typed = ap (are_of_types g.parameters) (same_values vs)

  pub taken : takes g (bare_values vs) ≡ true → call_by calls n (as_made vs) g ≡ answer_left (calls n (as_made vs))
  taken h = both _ _ (answer_left (calls n (as_made vs))) (errs wrong_type) (errs wrong_count) ((λ i. counted i && typed i) ∙ h)

  pub mistyped : (p : CoreType × CoreType) → takes_count g (length (bare_values vs)) ≡ true → first_mistyped g.parameters (bare_values vs) ≡ Some p → call_by calls n (as_made vs) g ≡ errs wrong_type
  mistyped p t h = first_alone _ _ (answer_left (calls n (as_made vs))) (errs wrong_type) (errs wrong_count) (counted ∙ t) (typed ∙ of_types g.parameters (bare_values vs) ∙ ap is_none h)

  pub miscounted : takes_count g (length (bare_values vs)) ≡ false → call_by calls n (as_made vs) g ≡ errs wrong_count
  miscounted h = none _ _ (answer_left (calls n (as_made vs))) (errs wrong_type) (errs wrong_count) (counted ∙ h)

-- a function that a table finds under a name answers as the table does
pub found_made : {B : _} {F : _} {g : _} {t : Extensions B F g} {calls : Name → List Made → MadeCalled} {n : Name} {f : ExtensionFunction B F g} → AnswersMade t calls → IsNamedIn t n f → IsMadeBy f (calls n)
found_made {B} {F} {g} {t} {calls} {n} {f} h is = subst (λ m. IsMadeBy f (calls m)) is.named (h.each f is.among)
