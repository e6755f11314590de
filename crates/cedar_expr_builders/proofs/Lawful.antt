-- Lawful builders that refuse calls, and builders that refuse nothing.
use Rattle.std.proofs.Common.{◌≡◌, List, [], ◌∷◌, Option, None, Result, Ok, Err, refl, ap}
use Rattle.cedar_expr_model.specs.Name.{Text, Name}
use Rattle.cedar_expr_model.specs.Tree.{Tree, lit, var, slot, unknown, choice, both, either, unary, binary, call, get_attr, has_attr, has_path, like, is_type, set_literal, record_literal, Trees, no_trees, tree, TreeFields, no_tree_fields, tree_field}
use Rattle.cedar_expr_model.specs.Builder.{Builder, built, built_list, built_fields, tree_builder}
use Rattle.cedar_expr_model.specs.BuilderForm.{IsLawful}
use Rattle.cedar_expr_model.specs.Substitution.{Bindings, substituted, built_under}
use Rattle.cedar_expr_model.proofs.Agreeing.{substitution_agrees}
use Rattle.cedar_expr_builders.specs.Refusing.{and_then, all_made, fields_made, unless, refusing, built_or_refused}
use Rattle.cedar_expr_builders.specs.Views.{refuses_nothing}

pub rebuilds_once : {B : Type 0} (b : Builder B) → IsLawful b → (t : Tree) → built b (built tree_builder t) ≡ built b t
rebuilds_once b h t = substitution_agrees b h (λ n. None) t

module _ {M R : Type 0} (b : Builder M) (refuses : Name → List M → Option R) where
  walks : IsLawful b → (o : Result M R) (a : Text) → (refusing b refuses).of_path o a [] ≡ (refusing b refuses).of_has o a
  walks h (Ok x) a = ap Ok (h.walks_one x a)
  walks h (Err r) a = refl

  pub stays_lawful : IsLawful b → IsLawful (refusing b refuses)
  stays_lawful h = record { conjoins = λ x y. ap Ok (h.conjoins x y); disjoins = λ x y. ap Ok (h.disjoins x y); walks_one = walks h }

  pub refusals_agree : IsLawful b → (env : Bindings) (t : Tree) → built_or_refused b refuses (substituted env t) ≡ built_under (refusing b refuses) env t
  refusals_agree h env t = substitution_agrees (refusing b refuses) (stays_lawful h) env t

-- a builder that refuses nothing makes all
module _ {M R : Type 0} (b : Builder M) where
  abbrev all_of : Builder (Result M R)
  all_of = refusing b (refuses_nothing {M = M} {R = R})

  mutual
    pub makes_all : (t : Tree) → built all_of t ≡ Ok (built b t)
    makes_all (lit p) = refl
    makes_all (var x) = refl
    makes_all (slot s) = refl
    makes_all (unknown n a) = refl
    makes_all (choice t u v) = λ i. all_of.of_choice (makes_all t i) (makes_all u i) (makes_all v i)
    makes_all (both t u) = λ i. all_of.of_both (makes_all t i) (makes_all u i)
    makes_all (either t u) = λ i. all_of.of_either (makes_all t i) (makes_all u i)
    makes_all (unary o t) = ap (all_of.of_unary o) (makes_all t)
    makes_all (binary o t u) = λ i. all_of.of_binary o (makes_all t i) (makes_all u i)
    makes_all (call f ts) = ap (and_then (λ xs. unless (refuses_nothing f xs) (b.of_call f xs))) (make_all ts)
    makes_all (get_attr t a) = ap (λ o. all_of.of_get o a) (makes_all t)
    makes_all (has_attr t a) = ap (λ o. all_of.of_has o a) (makes_all t)
    makes_all (has_path t a as_) = ap (λ o. all_of.of_path o a as_) (makes_all t)
    makes_all (like t p) = ap (λ o. all_of.of_like o p) (makes_all t)
    makes_all (is_type t n) = ap (λ o. all_of.of_is o n) (makes_all t)
    makes_all (set_literal ts) = ap (and_then (λ xs. Ok (b.of_set xs))) (make_all ts)
    makes_all (record_literal fs) = ap (and_then (λ xs. Ok (b.of_record xs))) (fields_make_all fs)

    make_all : (ts : Trees) → all_made (built_list all_of ts) ≡ Ok (built_list b ts)
    make_all no_trees = refl
    make_all (tree t ts) = λ i. and_then (λ x. and_then (λ xs. Ok (x ∷ xs)) (make_all ts i)) (makes_all t i)

    fields_make_all : (fs : TreeFields) → fields_made (built_fields all_of fs) ≡ Ok (built_fields b fs)
    fields_make_all no_tree_fields = refl
    fields_make_all (tree_field a t fs) = λ i. and_then (λ x. and_then (λ xs. Ok ((a, x) ∷ xs)) (fields_make_all fs i)) (makes_all t i)
