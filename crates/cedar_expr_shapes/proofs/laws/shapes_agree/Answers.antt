use Rattle.std.proofs.Common.{◌≡◌, true, refl}
use Rattle.std.specs.Ordering.{is_eq}
use Rattle.std.specs.declared.cmp.Ordering.{Ordering}
use Rattle.std.specs.declared.cmp.Ordering.TheVariants.{Less, Equal, Greater}
use Rattle.std.specs.Prelude.{◌↔◌}
use Rattle.cedar_expr_model.specs.Shape.{tree_cmp}
use Rattle.cedar_expr_shapes.specs.Compared.{trees_are_ordered, trees_are_equal, trees_are_hashed}
use Rattle.cedar_expr_shapes.proofs.laws.shapes_agree.Goals as goal

equal_is : (o : Ordering) → (o ≡ Equal) ↔ (is_eq o ≡ true)
equal_is Less = (λ e. cc, λ e. cc)
equal_is Equal = (λ e. refl, λ e. refl)
equal_is Greater = (λ e. cc, λ e. cc)

pub returns-clause-order : goal.returns-clause-order
returns-clause-order c = trees_are_ordered

pub returns-clause-equality : goal.returns-clause-equality
returns-clause-equality c = trees_are_equal

pub returns-clause-equal_by_order : goal.returns-clause-equal_by_order
returns-clause-equal_by_order c = λ t u. equal_is (tree_cmp t u)

pub returns-clause-hash : goal.returns-clause-hash
returns-clause-hash c = trees_are_hashed
