-- What expressions write, by what they are as a whole.
use Rattle.std.proofs.Common.{◌≡◌, ◌≤◌, Bool, true, false, List, [], ◌∷◌, length, map, Option, Some, None, refl, sym, arith}
use Rattle.std.specs.Prelude.{if◌then◌else◌}
use Rattle.cedar_expr_model.specs.Uid.{Uid}
use Rattle.cedar_expr_model.specs.Value.{truth, long, text, entity}
use Rattle.cedar_expr_model.specs.Tree.{principal, action, resource, context, Tree, lit, var, slot, unknown, choice, both, either, unary, binary, call, get_attr, has_attr, has_path, like, is_type, set_literal, record_literal, Trees, tree, no_trees}
use Rattle.cedar_expr_model.specs.Builder.{trees}
use Rattle.cedar_expr_model.specs.Parts.{uid_here}
use Rattle.cedar_expr_trees.specs.Trees.{tree_of}
use Rattle.cedar_expr_trees.specs.declared.expr.Expr.{Expr}
use Rattle.cedar_typechecker_model.specs.Rules.{Setting, written_uid, written_action, action_literal, is_text_literal}
use Rattle.cedar_typechecker_rules.specs.Uids.{is_action_variable, is_text}

-- the uid that an expression writes
pub written_uid_is : (s : Setting) (t : Tree) → written_uid s t ≡ (if is_action_variable t then Some s.env.action else uid_here t)
written_uid_is s (lit p) = refl
written_uid_is s (var principal) = refl
written_uid_is s (var action) = refl
written_uid_is s (var resource) = refl
written_uid_is s (var context) = refl
written_uid_is s (slot x) = refl
written_uid_is s (unknown n a) = refl
written_uid_is s (choice t a b) = refl
written_uid_is s (both a b) = refl
written_uid_is s (either a b) = refl
written_uid_is s (unary o a) = refl
written_uid_is s (binary o a b) = refl
written_uid_is s (call f ts) = refl
written_uid_is s (get_attr t a) = refl
written_uid_is s (has_attr t a) = refl
written_uid_is s (has_path t a bs) = refl
written_uid_is s (like t p) = refl
written_uid_is s (is_type t n) = refl
written_uid_is s (set_literal ts) = refl
written_uid_is s (record_literal fs) = refl

-- the declared action that an expression writes
pub written_action_is : (s : Setting) (t : Tree) → written_action s t ≡ (if is_action_variable t then Some s.env.action else action_literal s t)
written_action_is s (lit p) = refl
written_action_is s (var principal) = refl
written_action_is s (var action) = refl
written_action_is s (var resource) = refl
written_action_is s (var context) = refl
written_action_is s (slot x) = refl
written_action_is s (unknown n a) = refl
written_action_is s (choice t a b) = refl
written_action_is s (both a b) = refl
written_action_is s (either a b) = refl
written_action_is s (unary o a) = refl
written_action_is s (binary o a b) = refl
written_action_is s (call f ts) = refl
written_action_is s (get_attr t a) = refl
written_action_is s (has_attr t a) = refl
written_action_is s (has_path t a bs) = refl
written_action_is s (like t p) = refl
written_action_is s (is_type t n) = refl
written_action_is s (set_literal ts) = refl
written_action_is s (record_literal fs) = refl

-- one argument alone
pub text_alone : (t : Tree) → is_text_literal (tree t no_trees) ≡ is_text t
text_alone (lit (truth b)) = refl
text_alone (lit (long n)) = refl
text_alone (lit (text s)) = refl
text_alone (lit (entity u)) = refl
text_alone (var x) = refl
text_alone (slot x) = refl
text_alone (unknown n a) = refl
text_alone (choice t a b) = refl
text_alone (both a b) = refl
text_alone (either a b) = refl
text_alone (unary o a) = refl
text_alone (binary o a b) = refl
text_alone (call f ts) = refl
text_alone (get_attr t a) = refl
text_alone (has_attr t a) = refl
text_alone (has_path t a bs) = refl
text_alone (like t p) = refl
text_alone (is_type t n) = refl
text_alone (set_literal ts) = refl
text_alone (record_literal fs) = refl

-- several arguments
two_or_more : (t v : Tree) (ts : Trees) → is_text_literal (tree t (tree v ts)) ≡ false
two_or_more (lit (truth b)) v ts = refl
two_or_more (lit (long n)) v ts = refl
two_or_more (lit (text s)) v ts = refl
two_or_more (lit (entity e)) v ts = refl
two_or_more (var x) v ts = refl
two_or_more (slot x) v ts = refl
two_or_more (unknown n a) v ts = refl
two_or_more (choice t a b) v ts = refl
two_or_more (both a b) v ts = refl
two_or_more (either a b) v ts = refl
two_or_more (unary o a) v ts = refl
two_or_more (binary o a b) v ts = refl
two_or_more (call f us) v ts = refl
two_or_more (get_attr t a) v ts = refl
two_or_more (has_attr t a) v ts = refl
two_or_more (has_path t a bs) v ts = refl
two_or_more (like t p) v ts = refl
two_or_more (is_type t n) v ts = refl
two_or_more (set_literal us) v ts = refl
two_or_more (record_literal fs) v ts = refl

pub several : (es : List (Expr Unit)) → 2 ≤ length es → false ≡ is_text_literal (trees (map tree_of es))
several [] h = absurd (omega (arith, h))
several (e ∷ []) h = absurd (omega (arith, h))
several (e ∷ f ∷ es) h = sym (two_or_more (tree_of e) (tree_of f) (trees (map tree_of es)))
