-- What is built where values stand in the place of unknowns.
use Rattle.std.proofs.Common.{◌≡◌, ◌&&◌, ◌||◌, Bool, List, [], ◌∷◌, Option, Some, None, Result, Ok, Err, IfErr, refl, sym, ap, ◌∙◌}
use Rattle.std.specs.Option.{option_map_or}
use Rattle.cedar_expr_model.specs.Name.{Text, Name}
use Rattle.cedar_expr_model.specs.Tree.{CoreType, Tree, lit, var, slot, unknown, choice, both, either, unary, binary, call, get_attr, has_attr, has_path, like, is_type, set_literal, record_literal, Trees, no_trees, tree, TreeFields, no_tree_fields, tree_field}
use Rattle.cedar_expr_model.specs.Builder.{Builder, built, built_list, built_fields, tree_builder}
use Rattle.cedar_expr_model.specs.BuilderForm.{IsLawful}
use Rattle.cedar_expr_model.specs.Made.{Made, written}
use Rattle.cedar_expr_model.specs.Substitution.{Bindings, substituted, built_under}
use Rattle.cedar_expr_model.proofs.Agreeing.{substitution_agrees, trees_are_lawful}
use Rattle.cedar_expr_builders.specs.Refusing.{and_then, all_made, fields_made, unless, refusing, refusal, IsRefusal}
use Rattle.cedar_expr_builders.specs.declared.err.BuildFault.{BuildFault}
use Rattle.cedar_expr_builders.specs.declared.err.BuildFault.TheVariants.{OutOfMemory, Refused}
use Rattle.cedar_expr_builders.specs.Views.{refuses_nothing}
use Rattle.cedar_expr_substitution.specs.Outcome.{with_placed, Refuses}
use Rattle.cedar_expr_substitution.specs.Bound.{placed_by}

-- what a builder makes of the expressions that bindings put in the place of unknowns
module _ {B : Type 0} (b : Builder B) where
  one_placed : (n : Text) (a : Option CoreType) (o : Option Made) → built b (option_map_or written o (unknown n a)) ≡ option_map_or (λ m. built b (written m)) o (b.of_unknown n a)
  one_placed n a None = refl
  one_placed n a (Some m) = refl

  pub placed_under : (env : Bindings) (t : Tree) → built (with_placed b (placed_by env)) t ≡ built_under b env t
  placed_under env t = λ i. built (record b { of_unknown = λ n a. one_placed n a (env n) i }) t

-- a builder that refuses nothing makes all
module _ {M R : Type 0} (b : Builder M) where
  abbrev all_of : Builder (Result M R)
  all_of = refusing b (refuses_nothing {M = M} {R = R})

  mutual
    makes_all : (t : Tree) → built all_of t ≡ Ok (built b t)
    makes_all (lit p) = refl
    makes_all (var x) = refl
    makes_all (slot s) = refl
    makes_all (unknown n a) = refl
    makes_all (choice t u v) = λ i. all_of.of_choice (makes_all t i) (makes_all u i) (makes_all v i)
    makes_all (both t u) = λ i. all_of.of_both (makes_all t i) (makes_all u i)
    makes_all (either t u) = λ i. all_of.of_either (makes_all t i) (makes_all u i)
    makes_all (unary o t) = ap (all_of.of_unary o) (makes_all t)
    makes_all (binary o t u) = λ i. all_of.of_binary o (makes_all t i) (makes_all u i)
    makes_all (call f ts) = ap (and_then (λ xs. unless (refuses_nothing f xs) (b.of_call f xs))) (make_all ts)
    makes_all (get_attr t a) = ap (λ o. all_of.of_get o a) (makes_all t)
    makes_all (has_attr t a) = ap (λ o. all_of.of_has o a) (makes_all t)
    makes_all (has_path t a as_) = ap (λ o. all_of.of_path o a as_) (makes_all t)
    makes_all (like t p) = ap (λ o. all_of.of_like o p) (makes_all t)
    makes_all (is_type t n) = ap (λ o. all_of.of_is o n) (makes_all t)
    makes_all (set_literal ts) = ap (and_then (λ xs. Ok (b.of_set xs))) (make_all ts)
    makes_all (record_literal fs) = ap (and_then (λ xs. Ok (b.of_record xs))) (fields_make_all fs)

    make_all : (ts : Trees) → all_made (built_list all_of ts) ≡ Ok (built_list b ts)
    make_all no_trees = refl
    make_all (tree t ts) = λ i. and_then (λ x. and_then (λ xs. Ok (x ∷ xs)) (make_all ts i)) (makes_all t i)

    fields_make_all : (fs : TreeFields) → fields_made (built_fields all_of fs) ≡ Ok (built_fields b fs)
    fields_make_all no_tree_fields = refl
    fields_make_all (tree_field a t fs) = λ i. and_then (λ x. and_then (λ xs. Ok ((a, x) ∷ xs)) (fields_make_all fs i)) (makes_all t i)

-- the own builder makes the expression under bindings
module _ {R : Type 0} where
  abbrev own : Builder (Result Tree R)
  own = refusing tree_builder (refuses_nothing {M = Tree} {R = R})

  own_lawful : IsLawful own
  own_lawful = record { conjoins = λ x y. refl; disjoins = λ x y. refl; walks_one = walks }
    where
      walks : (o : Result Tree R) (a : Text) → own.of_path o a [] ≡ own.of_has o a
      walks (Ok t) a = refl
      walks (Err r) a = refl

  pub own_substitutes : (env : Bindings) (t : Tree) → built_under own env t ≡ Ok (substituted env t)
  own_substitutes env t =
      sym (substitution_agrees own own_lawful env t)
      ∙ makes_all tree_builder (substituted env t)
      ∙ ap Ok (substitution_agrees tree_builder trees_are_lawful env t)

  -- what it made of an expression under bindings is the expression under them
  pub is_substituted : (env : Bindings) (t u : Tree) → built_under own env t ≡ Ok u → u ≡ substituted env t
  is_substituted env t u h = let e = sym h ∙ own_substitutes env t in cc

-- what bindings put in the place of an unknown that is bound, and of one that isn't
pub bound_placed : (env : Bindings) (n : Text) (a : Option CoreType) (m : Made) (t : Tree) → env n ≡ Some m → t ≡ written m → placed_by env n a ≡ t
bound_placed env n a m t h e = ap (λ o. option_map_or written o (unknown n a)) h ∙ sym e

pub free_placed : (env : Bindings) (n : Text) (a : Option CoreType) → env n ≡ None → placed_by env n a ≡ unknown n a
free_placed env n a h = ap (λ o. option_map_or written o (unknown n a)) h

-- a fault that tells the outcome is the refusal there is
pub refusal_told : {A E M R : Type 0} (says : E → R) (o : Result M R) (q : Result A (BuildFault E)) → IfErr q (λ f. Refuses says o f) → IfErr q (λ f. IsRefusal says (refusal o) f)
refusal_told says o (Ok a) h = tt
refusal_told says o (Err OutOfMemory) h = tt
refusal_told says o (Err (Refused e)) h = ap refusal (h (says e) refl)
