-- Texts and expressions are the same as themselves by their tests.
use Rattle.std.proofs.Common.{◌≡◌, true, refl}
use Rattle.std.specs.Str.{bytes_eq}
use Rattle.std.proofs.lemmas.Slice.Eq.{bytes_eq-Decides}
use Rattle.cedar_expr_model.specs.Name.{Text}
use Rattle.cedar_expr_model.specs.Tree.{Tree}
use Rattle.cedar_expr_model.specs.Shape.{tree_eq}
use Rattle.cedar_expr_model.proofs.ShapeOrder.{trees_decide}

pub bytes_same : (t : Text) → bytes_eq t t ≡ true
bytes_same t = (bytes_eq-Decides t t).1 refl

pub tree_same : (t : Tree) → tree_eq t t ≡ true
tree_same t = (trees_decide t t).1 refl
