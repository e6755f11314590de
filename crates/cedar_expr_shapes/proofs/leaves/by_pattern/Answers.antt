use Rattle.std.proofs.Common.{◌∙◌, rules}
use Rattle.cedar_expr_model.specs.Shape.{element_cmp}
use Rattle.cedar_expr_leaves.specs.Patterns.{element_of}
use Rattle.cedar_expr_leaves.specs.declared.pattern.PatternElem.TheVariants.{Char, Wildcard}
use Rattle.cedar_expr_shapes.proofs.Comparing.{slices_by}
use Rattle.cedar_expr_shapes.proofs.leaves.by_pattern.Goals as goal

pub returns : goal.returns
returns c =
    c.cmp.ensures
    ∙ slices_by _ element_cmp element_of
    (λ a b. elim a [ Char x ↦ elim b [ Char y ↦ search rules | Wildcard ↦ search rules ] | Wildcard ↦ elim b [ Char y ↦ search rules | Wildcard ↦ search rules ] ])
    c.args.left.now.elems.value.items c.args.right.now.elems.value.items
