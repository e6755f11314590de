-- What the laws of the code's expressions say.
-- Rule: expressions (docs/RULES.md).
use Rattle.std.specs.Prelude.{◌≡◌, ◌&&◌, ℕ, Bool, true, List}
use Rattle.cedar_expr_trees.specs.Trees.{kind_of, data_of}
use Rattle.cedar_expr_trees.specs.declared.expr.Expr.{Expr}
use Rattle.cedar_expr_trees.specs.declared.expr.ExprKind.{ExprKind}

-- an equality of expressions is one of their kinds and one of their data
abbrev pub EqualByParts : {T : Type 0} → (Expr T → Expr T → Bool) → (ExprKind T → ExprKind T → Bool) → (T → T → Bool) → Type 0
EqualByParts {T} eq kind_eq data_eq = (e f : Expr T) → eq e f ≡ (kind_eq (kind_of e) (kind_of f) && data_eq (data_of e) (data_of f))

-- what is equal feeds a hasher alike
abbrev pub HashedIfEqual : {A : Type 0} → (A → A → Bool) → (A → List (List ℕ)) → Type 0
HashedIfEqual {A} eq input = (x y : A) → eq x y ≡ true → input x ≡ input y
