-- The answer of a choice by its judgement.
use Rattle.std.proofs.Common.{◌≡◌, Option, Some, None, Result, IfOk, option_and_then, refl, sym, ap, ◌∙◌, subst}
use Rattle.cedar_expr_model.specs.Tree.{choice}
use Rattle.cedar_expr_trees.specs.Trees.{tree_of}
use Rattle.cedar_expr_trees.specs.declared.expr.Expr.{Expr}
use Rattle.cedar_schema_types.specs.declared.types.Type.{«Type» as CodeType}
use Rattle.cedar_typechecker_environments.specs.Facts.{facts_of}
use Rattle.cedar_typechecker_model.specs.Facts.{Facts}
use Rattle.cedar_typechecker_model.specs.Rules.{Setting}
use Rattle.cedar_typechecker_model.specs.Typing.{Judgement}
use Rattle.cedar_typechecker_model.specs.Typed.{mark, noted, three, chosen_typed}
use Rattle.cedar_typechecker_answers.specs.Marked.{type_in, kind_marks}
use Rattle.cedar_typechecker_answers.specs.Answers.{typed_at, seen}
use Rattle.cedar_typechecker_answers.specs.declared.answer.TypecheckAnswer.{TypecheckAnswer}
use Rattle.cedar_typechecker_answers.specs.declared.answer.TypecheckAnswer.TheVariants.{Success, Fail}
use Rattle.cedar_typechecker_operators.specs.Choices.{chosen_judged, chosen_seen}

-- nothing comes of nothing
nothing : {A B : Type 0} (o : Option A) → option_and_then {T = A} {U = B} (λ x. None) o ≡ None
nothing (Some x) = refl
nothing None = refl

nothing_last : {A B D : Type 0} (p : Option A) (o : Option B) → option_and_then {T = A} {U = D} (λ x. option_and_then {T = B} {U = D} (λ y. None) o) p ≡ None
nothing_last (Some x) o = nothing o
nothing_last None o = refl

-- of a test and branches with types, or without
of_parts : (s : Setting) (e f g : Expr (Option CodeType)) (c d k : Facts) (p q r : Option CodeType)
    → noted (choice (tree_of e) (tree_of f) (tree_of g)) (three (mark (type_in p) (kind_marks e.expr_kind)) (mark (type_in q) (kind_marks f.expr_kind)) (mark (type_in r) (kind_marks g.expr_kind))) (chosen_judged s (typed_at e c p) (typed_at f d q) (typed_at g k r))
    ≡ option_and_then (λ x. option_and_then (λ y. option_and_then (chosen_typed s x y) (typed_at g k r)) (typed_at f d q)) (typed_at e c p)
of_parts s e f g c d k (Some t) (Some u) (Some v) = refl
of_parts s e f g c d k (Some t) (Some u) None = refl
of_parts s e f g c d k (Some t) None r = refl
of_parts s e f g c d k None q r = refl

-- the answer of a choice by its judgement is that of its parts
chosen_is : (s : Setting) (p a b : TypecheckAnswer) → chosen_seen p a b (chosen_judged s (seen p) (seen a) (seen b)) ≡ option_and_then (λ x. option_and_then (λ y. option_and_then (chosen_typed s x y) (seen b)) (seen a)) (seen p)
chosen_is s (Success e c) (Success f d) (Success g k) = of_parts s e f g (facts_of c) (facts_of d) (facts_of k) e.«data» f.«data» g.«data»
chosen_is s (Success e c) (Success f d) (Fail g) = sym (nothing_last (seen (Success e c)) (seen (Success f d)))
chosen_is s (Success e c) (Fail f) b = sym (nothing (seen (Success e c)))
chosen_is s (Fail e) a b = refl

pub chosen_goes : {E : Type 0} (r : Result TypecheckAnswer E) (s : Setting) (p a b : TypecheckAnswer) (j : Option Judgement) → j ≡ chosen_judged s (seen p) (seen a) (seen b) → IfOk r (λ x. seen x ≡ chosen_seen p a b j)
    → IfOk r (λ x. seen x ≡ option_and_then (λ u. option_and_then (λ v. option_and_then (chosen_typed s u v) (seen b)) (seen a)) (seen p))
chosen_goes r s p a b j is h = subst (λ q. IfOk r (λ x. seen x ≡ q)) (ap (chosen_seen p a b) is ∙ chosen_is s p a b) h
