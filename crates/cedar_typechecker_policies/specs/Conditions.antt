-- A typed condition, and what the verdict of its type is.
-- Rule: typing; the acceptance rules (docs/RULES.md).
use Rattle.std.specs.Prelude.{◌≡◌, Option, Some, None, MatchOption}
use Rattle.cedar_expr_model.specs.Tree.{Tree}
use Rattle.cedar_expr_trees.specs.Trees.{tree_of}
use Rattle.cedar_expr_trees.specs.declared.expr.Expr.{Expr}
use Rattle.cedar_schema_model.specs.Types.{Ty}
use Rattle.cedar_schema_types.specs.Types.{type_of}
use Rattle.cedar_schema_types.specs.declared.types.Type.{«Type» as CodeType}
use Rattle.cedar_typechecker_policies.specs.declared.verdict.Verdict.{Verdict}
use Rattle.cedar_typechecker_model.specs.Facts.{Facts, no_facts}
use Rattle.cedar_typechecker_model.specs.Rules.{Setting}
use Rattle.cedar_typechecker_model.specs.Verdicts.{is_bool, is_false}
use Rattle.cedar_typechecker_answers.specs.Marked.{kind_marks}
use Rattle.cedar_typechecker_model.specs.Typed.{typed}

-- The expression is the tree with the types of its parts, of which it has one itself.
pub record IsTypedAs (s : Setting) (t : Tree) (e : Expr (Option CodeType)) : Type 0 where
  pub type : CodeType
  pub facts : Facts
  pub held : e.«data» ≡ Some type
  pub is : typed s no_facts t ≡ Some (record { type = type_of type; facts = facts; at = tree_of e; below = kind_marks e.expr_kind })

-- the expression with the types of its parts, if it has one itself
abbrev pub IsTypedIfAny : Setting → Tree → Option (Expr (Option CodeType)) → Type 0
IsTypedIfAny s t o = MatchOption o (typed s no_facts t ≡ None) (IsTypedAs s t)

-- The verdict says of the type what the tests say.
pub record IsVerdictOf (t : Option Ty) (v : Verdict) : Type 0 where
  pub bools : v.is_bool ≡ is_bool t
  pub falses : v.is_false ≡ is_false t
