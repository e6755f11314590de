-- Levels by schemas that answer alike.
use Rattle.std.proofs.Common.{◌≡◌, ◌∙◌, ℕ, ◌+◌, List, [], ◌∷◌, ◌++◌, Option, Some, None, refl, ap, if◌then◌else◌}
use Rattle.std.specs.Option.{option_map_or}
use Rattle.std.specs.Str.{bytes_eq}
use Rattle.cedar_expr_model.specs.Name.{Text}
use Rattle.cedar_expr_model.specs.Table.{Table}
use Rattle.cedar_expr_model.specs.Tree.{Tree, lit, slot, choice, both, either, unary, binary, get_tag, call, get_attr, has_attr, has_path, like, is_type, set_literal, record_literal, Trees, no_trees, tree, TreeFields, no_tree_fields, tree_field}
use Rattle.cedar_expr_model.specs.Value.{truth, long, text, entity, Literal}
use Rattle.cedar_store_model.specs.Looks.{looks_up}
use Rattle.cedar_store_model.specs.Policy.{Policy, condition}
use Rattle.cedar_schema_model.specs.Environment.{Environment}
use Rattle.cedar_schema_model.specs.Schema.{Schema}
use Rattle.cedar_schema_model.specs.Types.{Ty, Mode}
use Rattle.cedar_typechecker_model.specs.Facts.{Facts, union, no_facts}
use Rattle.cedar_typechecker_model.specs.Levels.{joined, further, stepped, is_entity, literal_count, after_test, target_after_test, entity_steps, fields_before, path_violations, on_entity, violations, violations_among, violations_in_fields, target, target_in_fields, after, unless_false, unless_true}
use Rattle.cedar_typechecker_model.specs.Rules.{Setting}
use Rattle.cedar_typechecker_model.specs.Typing.{step_type, judgement, type_under}
use Rattle.cedar_typechecker_model.specs.Verdicts.{is_bool, violations_in}
use Rattle.cedar_typechecker_model.specs.Alike.{AnswersAlike, HasSameSignatures}
use Rattle.cedar_typechecker_model.proofs.Alike.Typing.{first, second, same_step, same_judgement, same_type}

module _ (s t : Schema) (m : AnswersAlike s t) (mode : Mode) (x z : Table) (q : HasSameSignatures x z) (e : Environment) where
  abbrev one : Setting
  one = first s t m mode x z q e

  abbrev two : Setting
  two = second s t m mode x z q e

  same_literal_count : (p : Literal) → literal_count one p ≡ literal_count two p
  same_literal_count (entity u) = refl
  same_literal_count (truth b) = refl
  same_literal_count (long n) = refl
  same_literal_count (text c) = refl

  same_steps : (a : Text) (bs : List Text) (o : Option Ty) → entity_steps one a bs o ≡ entity_steps two a bs o
  same_steps a bs None = refl
  same_steps a [] (Some y) = refl
  same_steps a (b ∷ bs) (Some y) =
      (λ i. (if is_entity (Some y) then 1 else 0) + entity_steps one b bs (same_step s t m mode x z q e y a i)) ∙ (λ i. (if is_entity (Some y) then 1 else 0) + same_steps b bs (step_type two y a) i)

  same_before : (a : Text) (bs : List Text) (o : Option Ty) → fields_before one a bs o ≡ fields_before two a bs o
  same_before a bs None = refl
  same_before a [] (Some y) = refl
  same_before a (b ∷ bs) (Some y) =
      (λ i. if is_entity (Some y) then [] else a ∷ fields_before one b bs (same_step s t m mode x z q e y a i)) ∙ (λ i. if is_entity (Some y) then [] else a ∷ same_before b bs (step_type two y a) i)

  same_on : (known : Facts) (r : Tree) → on_entity one known r ≡ on_entity two known r
  same_on known r = ap is_entity (same_type s t m mode x z q e known r)

  abbrev judged_same : (known : Facts) (r : Tree) → judgement one known r ≡ judgement two known r
  judged_same known r = same_judgement s t m mode x z q e known r

  steps_of : (known : Facts) (r : Tree) (a : Text) (bs : List Text) → entity_steps one a bs (type_under one known r) ≡ entity_steps two a bs (type_under two known r)
  steps_of known r a bs = (λ i. entity_steps one a bs (same_type s t m mode x z q e known r i)) ∙ same_steps a bs (type_under two known r)

  before_of : (known : Facts) (r : Tree) (a : Text) (bs : List Text) → fields_before one a bs (type_under one known r) ≡ fields_before two a bs (type_under two known r)
  before_of known r a bs = (λ i. fields_before one a bs (same_type s t m mode x z q e known r i)) ∙ same_before a bs (type_under two known r)

  module _ (n : ℕ) where
    mutual
      pub same_violations : (known : Facts) (a : Tree) → violations n one known a ≡ violations n two known a
      same_violations known (choice c a b) = λ i. same_violations known c i ++ after_test (judged_same known c i) (λ f. same_violations (union known f) a i) (same_violations known b i)
      same_violations known (both a b) = λ i. same_violations known a i ++ after unless_false (judged_same known a i) (λ f. same_violations (union known f) b i)
      same_violations known (either a b) = λ i. same_violations known a i ++ after unless_true (judged_same known a i) (λ f. same_violations known b i)
      same_violations known (unary o a) = same_violations known a
      same_violations known (binary o a b) = λ i. (if looks_up o then stepped n (binary o a b) (further 1 (same_target known [] a i)) else same_violations known a i) ++ same_violations known b i
      same_violations known (call f ts) = same_among known ts
      same_violations known (get_attr r a) = λ i. if same_on known r i then stepped n (get_attr r a) (further 1 (same_target known [] r i)) else same_violations known r i
      same_violations known (has_attr r a) = λ i. if same_on known r i then stepped n (has_attr r a) (further 1 (same_target known [] r i)) else same_violations known r i
      same_violations known (has_path r a bs) =
          (λ i. path_violations n (has_path r a bs) (steps_of known r a bs i) (same_target known (fields_before one a bs (type_under one known r)) r i) (same_violations known r i))
          ∙ (λ i. path_violations n (has_path r a bs) (entity_steps two a bs (type_under two known r)) (target n two known (before_of known r a bs i) r) (violations n two known r))
      same_violations known (like r p) = same_violations known r
      same_violations known (is_type r k) = same_violations known r
      same_violations known (set_literal ts) = same_among known ts
      same_violations known (record_literal fs) = same_in_fields known fs
      same_violations known r = refl

      same_among : (known : Facts) (ts : Trees) → violations_among n one known ts ≡ violations_among n two known ts
      same_among known no_trees = refl
      same_among known (tree r rs) = λ i. same_violations known r i ++ same_among known rs i

      same_in_fields : (known : Facts) (fs : TreeFields) → violations_in_fields n one known fs ≡ violations_in_fields n two known fs
      same_in_fields known no_tree_fields = refl
      same_in_fields known (tree_field a r fs) = λ i. same_violations known r i ++ same_in_fields known fs i

      same_target : (known : Facts) (path : List Text) (a : Tree) → target n one known path a ≡ target n two known path a
      same_target known path (lit p) = same_literal_count p
      same_target known path (slot v) = refl
      same_target known path (choice c a b) = λ i. joined (same_violations known c i) (target_after_test (judged_same known c i) (λ f. same_target (union known f) path a i) (same_target known path b i))
      same_target known path (get_attr r a) = λ i. if same_on known r i then further 1 (same_target known [] r i) else same_target known (a ∷ path) r i
      same_target known path (binary get_tag a b) = λ i. joined (same_violations known b i) (further 1 (same_target known [] a i))
      same_target known path (record_literal fs) = same_target_fields known path fs
      same_target known path r = refl

      same_target_fields : (known : Facts) (path : List Text) (fs : TreeFields) → target_in_fields n one known path fs ≡ target_in_fields n two known path fs
      same_target_fields known path no_tree_fields = refl
      same_target_fields known [] (tree_field b r fs) = λ i. joined (same_violations known r i) (same_target_fields known [] fs i)
      same_target_fields known (a ∷ path) (tree_field b r fs) =
          λ i. if bytes_eq a b then joined (same_in_fields known fs i) (same_target known path r i) else joined (same_violations known r i) (same_target_fields known (a ∷ path) fs i)

  -- of a policy in an environment
  pub same_is_bool : (p : Policy) → is_bool (type_under one no_facts (condition p)) ≡ is_bool (type_under two no_facts (condition p))
  same_is_bool p = ap is_bool (same_type s t m mode x z q e no_facts (condition p))

  pub same_violations_in : (n : ℕ) (p : Policy) → violations_in mode n s x p e ≡ violations_in mode n t z p e
  same_violations_in n p = λ i. option_map_or (λ y. same_violations n no_facts (condition p) i) (same_type s t m mode x z q e no_facts (condition p) i) []
