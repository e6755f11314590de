-- Tests of paths: what an answer is by the judgement of the test.
use Rattle.std.proofs.Common.{◌≡◌, map, Option, Some, Result, option_map, option_and_then, sym, ap, ◌∙◌, subst}
use Rattle.std.specs.Prelude.{IfOk}
use Rattle.std.specs.Rc.{rc_str_bytes}
use Rattle.std.specs.declared.alloc.Global.{Global}
use Rattle.std.specs.declared.rc.RcStr.{RcStr}
use Rattle.cedar_expr_leaves.specs.declared.non_empty.NonEmpty.{NonEmpty}
use Rattle.cedar_expr_model.specs.Tree.{Tree, has_path}
use Rattle.cedar_expr_trees.specs.Trees.{tree_of}
use Rattle.cedar_expr_trees.specs.declared.expr.Expr.{Expr}
use Rattle.cedar_schema_types.specs.Types.{type_of}
use Rattle.cedar_schema_types.specs.declared.types.Type.{«Type» as CodeType}
use Rattle.cedar_typechecker_answers.specs.Answers.{typed_at, judgement_seen}
use Rattle.cedar_typechecker_answers.specs.declared.answer.Judged.{Judged}
use Rattle.cedar_typechecker_model.specs.Facts.{Facts}
use Rattle.cedar_typechecker_model.specs.Rules.{Setting}
use Rattle.cedar_typechecker_model.specs.Typing.{Judgement, path_judged}
use Rattle.cedar_typechecker_answers.specs.Marked.{type_in, kind_marks}
use Rattle.cedar_typechecker_model.specs.Typed.{mark, one, noted, path_typed}

pub judged_so : {E : Type 0} (r : Result (Option Judged) E) (o p : Option Judgement) → o ≡ p → IfOk r (λ j. option_map judgement_seen j ≡ o) → IfOk r (λ j. option_map judgement_seen j ≡ p)
judged_so r o p e h = subst (λ q. IfOk r (λ j. option_map judgement_seen j ≡ q)) e h

module _ (s : Setting) (e : Tree) (n : NonEmpty (RcStr Global)) where
  abbrev path_of : NonEmpty (RcStr Global) → Tree → Tree
  path_of m t = has_path t (rc_str_bytes m.head) (map rc_str_bytes m.tail.items)

  pub path_noted : (x y : Expr (Option CodeType)) (f : Facts) (t : CodeType) (m : NonEmpty (RcStr Global)) (j : Option Judgement) → y ≡ x → x.«data» ≡ Some t → m ≡ n → j ≡ path_judged s (rc_str_bytes n.head) (map rc_str_bytes n.tail.items) e (type_of t)
      → noted (path_of m (tree_of y)) (one (mark (type_in y.«data») (kind_marks y.expr_kind))) j ≡ option_and_then (path_typed s e (rc_str_bytes n.head) (map rc_str_bytes n.tail.items)) (typed_at x f x.«data»)
  path_noted x y f t m j same held path is =
      ap (λ (z : Expr (Option CodeType)). noted (path_of m (tree_of z)) (one (mark (type_in z.«data») (kind_marks z.expr_kind))) j) same
      ∙ ap (λ d. noted (path_of m (tree_of x)) (one (mark (type_in d) (kind_marks x.expr_kind))) j) held
      ∙ ap (λ p. noted (path_of p (tree_of x)) (one (mark (Some (type_of t)) (kind_marks x.expr_kind))) j) path
      ∙ ap (λ q. noted (path_of n (tree_of x)) (one (mark (Some (type_of t)) (kind_marks x.expr_kind))) q) is
      ∙ ap (λ d. option_and_then (path_typed s e (rc_str_bytes n.head) (map rc_str_bytes n.tail.items)) (typed_at x f d)) (sym held)
