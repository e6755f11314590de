-- Elements are compared by cases, and patterns element by element.
use Rattle.std.proofs.Common.{◌≡◌, refl, rules}
use Rattle.cedar_expr_model.specs.Shape.{element_cmp}
use Rattle.cedar_expr_leaves.specs.declared.pattern.PatternElem.{PatternElem}
use Rattle.cedar_expr_leaves.specs.declared.pattern.PatternElem.TheVariants.{Char, Wildcard}
use Rattle.cedar_expr_leaves.specs.Patterns.{element_of}
use Rattle.cedar_expr_leaves.proofs.Comparing.{slices_by, lists_by, lists_apart}
use Rattle.cedar_expr_leaves.proofs.laws.patterns_are_compared.Goals as goal

elements_apart : (a b : PatternElem) → element_of a ≡ element_of b → a ≡ b
elements_apart (Char c) (Char d) e = cc
elements_apart (Char c) Wildcard e = cc
elements_apart Wildcard (Char d) e = cc
elements_apart Wildcard Wildcard e = refl

pub returns-clause-order : goal.returns-clause-order
returns-clause-order c = λ p q. slices_by _ element_cmp element_of
    (λ a b. elim a [ Char x ↦ elim b [ Char y ↦ search rules | Wildcard ↦ search rules ] | Wildcard ↦ elim b [ Char y ↦ search rules | Wildcard ↦ search rules ] ])
    p.elems.value.items q.elems.value.items

pub returns-clause-equality : goal.returns-clause-equality
returns-clause-equality c = λ p q. lists_by _ element_cmp element_of
    (λ a b. elim a [ Char x ↦ elim b [ Char y ↦ search rules | Wildcard ↦ search rules ] | Wildcard ↦ elim b [ Char y ↦ search rules | Wildcard ↦ search rules ] ])
    p.elems.value.items q.elems.value.items

pub returns-clause-hash : goal.returns-clause-hash
returns-clause-hash c = λ p q e. let same : p.elems.value.items ≡ q.elems.value.items = lists_apart element_of elements_apart _ _ e in cc
