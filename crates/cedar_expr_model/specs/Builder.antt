-- What a builder makes of an expression: one fold, with a step for each kind. A lawful builder makes of `and` and `or` of two
-- truth values their literal, and of a path of one attribute the plain test of it.
-- Rule: expressions (docs/RULES.md).
use Rattle.std.specs.Prelude.{List, [], ◌∷◌, ◌&&◌, ◌||◌, Bool, Option, Some, None}
use Rattle.cedar_expr_model.specs.Name.{Text, Name}
use Rattle.cedar_expr_model.specs.Value.{Literal, truth}
use Rattle.cedar_expr_model.specs.Pattern.{Pattern}
use Rattle.cedar_expr_model.specs.Tree.{Var, SlotId, CoreType, UnaryOp, BinaryOp, Tree, lit, var, slot, unknown, choice, both, either, unary, binary, call, get_attr, has_attr, has_path, like, is_type, set_literal, record_literal, Trees, no_trees, tree, TreeFields, no_tree_fields, tree_field}

-- a step for each kind of expression
pub record Builder (B : Type 0) : Type 0 where
  pub of_lit : Literal → B
  pub of_var : Var → B
  pub of_slot : SlotId → B
  pub of_unknown : Text → Option CoreType → B
  pub of_choice : B → B → B → B
  pub of_both : B → B → B
  pub of_either : B → B → B
  pub of_unary : UnaryOp → B → B
  pub of_binary : BinaryOp → B → B → B
  pub of_call : Name → List B → B
  pub of_get : B → Text → B
  pub of_has : B → Text → B
  pub of_path : B → Text → List Text → B
  pub of_like : B → Pattern → B
  pub of_is : B → Name → B
  pub of_set : List B → B
  pub of_record : List (Text × B) → B

-- what the builder makes of an expression
abbrev mutual
  pub built : {B : Type 0} → Builder B → Tree → B
  built b (lit p) = b.of_lit p
  built b (var x) = b.of_var x
  built b (slot s) = b.of_slot s
  built b (unknown n a) = b.of_unknown n a
  built b (choice t u v) = b.of_choice (built b t) (built b u) (built b v)
  built b (both t u) = b.of_both (built b t) (built b u)
  built b (either t u) = b.of_either (built b t) (built b u)
  built b (unary o t) = b.of_unary o (built b t)
  built b (binary o t u) = b.of_binary o (built b t) (built b u)
  built b (call f ts) = b.of_call f (built_list b ts)
  built b (get_attr t a) = b.of_get (built b t) a
  built b (has_attr t a) = b.of_has (built b t) a
  built b (has_path t a as_) = b.of_path (built b t) a as_
  built b (like t p) = b.of_like (built b t) p
  built b (is_type t n) = b.of_is (built b t) n
  built b (set_literal ts) = b.of_set (built_list b ts)
  built b (record_literal fs) = b.of_record (built_fields b fs)

  pub built_list : {B : Type 0} → Builder B → Trees → List B
  built_list b no_trees = []
  built_list b (tree t ts) = built b t ∷ built_list b ts

  pub built_fields : {B : Type 0} → Builder B → TreeFields → List (Text × B)
  built_fields b no_tree_fields = []
  built_fields b (tree_field a t fs) = (a, built b t) ∷ built_fields b fs

-- the truth value that an expression writes
abbrev pub written_truth : Tree → Option Bool
written_truth (lit (truth b)) = Some b
written_truth t = None

-- of two truth values their literal, else the tree as it is
abbrev pub folded : (Bool → Bool → Bool) → Option Bool → Option Bool → Tree → Tree
folded f (Some a) (Some b) t = lit (truth (f a b))
folded f a b t = t

-- The conjunction and the disjunction that a lawful builder makes.
abbrev pub conjunction : Tree → Tree → Tree
conjunction a b = folded (λ x y. x && y) (written_truth a) (written_truth b) (both a b)

abbrev pub disjunction : Tree → Tree → Tree
disjunction a b = folded (λ x y. x || y) (written_truth a) (written_truth b) (either a b)

-- the test of a path of one attribute or more
abbrev pub path_test : Tree → Text → List Text → Tree
path_test t a [] = has_attr t a
path_test t a (b ∷ bs) = has_path t a (b ∷ bs)

-- lists as the children of an expression
abbrev pub trees : List Tree → Trees
trees [] = no_trees
trees (t ∷ ts) = tree t (trees ts)

abbrev pub tree_fields : List (Text × Tree) → TreeFields
tree_fields [] = no_tree_fields
tree_fields (f ∷ fs) = tree_field f.0 f.1 (tree_fields fs)

-- the builder of trees
abbrev pub tree_builder : Builder Tree
tree_builder = record {
  of_lit = lit;
  of_var = var;
  of_slot = slot;
  of_unknown = unknown;
  of_choice = choice;
  of_both = conjunction;
  of_either = disjunction;
  of_unary = unary;
  of_binary = binary;
  of_call = λ f ts. call f (trees ts);
  of_get = get_attr;
  of_has = has_attr;
  of_path = path_test;
  of_like = like;
  of_is = is_type;
  of_set = λ ts. set_literal (trees ts);
  of_record = λ fs. record_literal (tree_fields fs);
}
