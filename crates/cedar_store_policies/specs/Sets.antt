-- Two expressions are equal in one way at most. A struct that keeps such an equation wants to know.
-- Rule: expressions (docs/RULES.md).
use Rattle.std.specs.Prelude.{◌≡◌, Bool, true, false, refl}
use Rattle.std.proofs.Common.{sym, ◌∙◌, true≢false}
use Rattle.std.specs.Bool.{Decides}
use mathlib.Core.HLevel.{hedberg}
use Rattle.cedar_expr_model.specs.Tree.{Tree}
use Rattle.cedar_expr_model.specs.Shape.{tree_eq}
use Rattle.cedar_expr_model.proofs.ShapeOrder.{trees_decide}

tested : {P : Type 0} (b t : Bool) → b ≡ t → Decides b P → Dec P
tested b true e d = yes (d.0 e)
tested b false e d = no (λ p. true≢false (sym (d.1 p) ∙ e))

pub tree_set : IsSet Tree
tree_set = hedberg (λ t u. tested (tree_eq t u) (tree_eq t u) refl (trees_decide t u))
