-- A choice by the answers of its parts, and expressions that are equal.
use Rattle.std.proofs.Common.{◌≡◌, Option, Some, None, Result, refl, ap, ◌∙◌, subst}
use Rattle.std.specs.Prelude.{IfOk, option_and_then}
use Rattle.cedar_expr_model.specs.Tree.{Tree, choice}
use Rattle.cedar_typechecker_model.specs.Facts.{Facts}
use Rattle.cedar_typechecker_model.specs.Rules.{Setting}
use Rattle.cedar_typechecker_model.specs.Typed.{Typed, chosen_typed, choice_step, on_choice, typed}
use Rattle.cedar_typechecker_answers.specs.Answers.{seen}
use Rattle.cedar_typechecker_answers.specs.Steps.{both_with}
use Rattle.cedar_typechecker_answers.specs.declared.answer.TypecheckAnswer.{TypecheckAnswer}

-- both branches of a choice, by the step that takes both
both_is : (s : Setting) (a b : Tree) (first : Facts → Option Typed) (second : Option Typed) (o : Option Typed) (then : Facts)
    → option_and_then (λ x. option_and_then (λ y. option_and_then (chosen_typed s x y) second) (first then)) o ≡ on_choice first second s a b (both_with o then)
both_is s a b first second None then = refl
both_is s a b first second (Some x) then = refl

module _ (s : Setting) (known : Facts) {E : Type 0} (r : Result TypecheckAnswer E) where
  answered : (o p : Option Typed) → o ≡ p → IfOk r (λ a. seen a ≡ o) → IfOk r (λ a. seen a ≡ p)
  answered o p e h = subst (λ q. IfOk r (λ a. seen a ≡ q)) e h

  -- what an equal expression is typed to
  pub in_tree : (t u : Tree) → u ≡ t → IfOk r (λ a. seen a ≡ typed s known u) → IfOk r (λ a. seen a ≡ typed s known t)
  in_tree t u e h = answered (typed s known u) (typed s known t) (ap (typed s known) e) h

  -- both branches
  pub both_go : (test a b : Tree) (o p q : Option Typed) (then : Facts) → both_with o then ≡ choice_step known (typed s known test) → p ≡ typed s then a → q ≡ typed s known b
      → IfOk r (λ x. seen x ≡ option_and_then (λ u. option_and_then (λ v. option_and_then (chosen_typed s u v) q) p) o) → IfOk r (λ x. seen x ≡ typed s known (choice test a b))
  both_go test a b o p q then step first second answer =
      answered (option_and_then (λ u. option_and_then (λ v. option_and_then (chosen_typed s u v) q) p) o) (typed s known (choice test a b)) (parts ∙ whole) answer
    where
      parts : option_and_then (λ u. option_and_then (λ v. option_and_then (chosen_typed s u v) q) p) o ≡ option_and_then (λ u. option_and_then (λ v. option_and_then (chosen_typed s u v) (typed s known b)) (typed s then a)) o
      parts = λ i. option_and_then (λ u. option_and_then (λ v. option_and_then (chosen_typed s u v) (second i)) (first i)) o

      whole : option_and_then (λ u. option_and_then (λ v. option_and_then (chosen_typed s u v) (typed s known b)) (typed s then a)) o ≡ typed s known (choice test a b)
      whole = both_is s a b (λ f. typed s f a) (typed s known b) o then ∙ ap (on_choice (λ f. typed s f a) (typed s known b) s a b) step
