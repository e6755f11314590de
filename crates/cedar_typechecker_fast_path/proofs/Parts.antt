-- Expressions that stay within a level, by their parts.
use Rattle.std.proofs.Common.{◌≡◌, ◌≢◌, ◌≤◌, ℕ, max, List, [], ◌++◌, map, Option, Some, None, refl, ap, ◌∙◌, sym, subst, arith}
use Rattle.std.specs.Prelude.{option_map, option_and_then}
use Rattle.cedar_expr_model.specs.Builder.{trees}
use Rattle.cedar_expr_model.specs.Name.{Text, Name}
use Rattle.cedar_expr_model.specs.Tree.{UnaryOp, BinaryOp, Tree, choice, both, either, unary, binary, get_attr, has_attr, like, is_type, set_literal}
use Rattle.cedar_schema_model.specs.Types.{BoolType, any_bool, only_true, only_false, bool_type}
use Rattle.cedar_schema_types.specs.Kinds.{bool_type_of}
use Rattle.cedar_schema_types.specs.Types.{type_of}
use Rattle.cedar_schema_types.specs.declared.kinds.BoolType.{BoolType as CodeBool}
use Rattle.cedar_schema_types.specs.declared.kinds.BoolType.TheVariants.{AnyBool, True, False}
use Rattle.cedar_schema_types.specs.declared.types.Type.{«Type» as CodeType}
use Rattle.cedar_typechecker_model.specs.Facts.{Facts, union, attribute_part}
use Rattle.cedar_typechecker_model.specs.Levels.{Violation, Count, count, joined, violations, branches, after, after_test, unless_false, unless_true, target, target_after_test, is_entity, on_entity}
use Rattle.cedar_typechecker_model.specs.Rules.{Setting, unary_type, like_type, is_type_type, has_type, get_type, set_literal_type}
use Rattle.cedar_typechecker_model.specs.Typed.{conjoined_by, disjoined_by}
use Rattle.cedar_typechecker_model.specs.Typing.{Judgement, judgement, judgements, plain, tested, and_judged, or_judged, choice_judged, chosen, binary_judged}
use Rattle.cedar_typechecker_fast_path.specs.Steps.{greater}
use Rattle.cedar_typechecker_fast_path.specs.Within.{LeadsWithin, StaysWithin}

module _ (s : Setting) (known : Facts) where
  -- the judgement of an expression by those of its parts
  module _ (a : Tree) (j : Judgement) (one : judgement s known a ≡ Some j) where
    pub unary_is : (o : UnaryOp) → judgement s known (unary o a) ≡ plain (unary_type o j.type)
    unary_is o = ap (option_and_then (λ j. plain (unary_type o j.type))) one

    pub like_is : (p : _) → judgement s known (like a p) ≡ plain (like_type j.type)
    like_is p = ap (option_and_then (λ j. plain (like_type j.type))) one

    pub test_is : (m : Name) → judgement s known (is_type a m) ≡ plain (is_type_type m j.type)
    test_is m = ap (option_and_then (λ j. plain (is_type_type m j.type))) one

    pub get_is : (name : Text) → judgement s known (get_attr a name) ≡ plain (get_type s known a j.type name)
    get_is name = ap (option_and_then (λ j. plain (get_type s known a j.type name))) one

    pub has_is : (name : Text) → judgement s known (has_attr a name) ≡ option_map (tested a (attribute_part name)) (has_type s j.type name)
    has_is name = ap (option_and_then (λ j. option_map (tested a (attribute_part name)) (has_type s j.type name))) one

    pub entity_is : on_entity s known a ≡ is_entity (Some j.type)
    entity_is = ap (λ o. is_entity (option_map (λ j. j.type) o)) one

    pub binary_is : (o : BinaryOp) (b : Tree) (k : Judgement) → judgement s known b ≡ Some k → judgement s known (binary o a b) ≡ binary_judged s known o a b j.type k.type
    binary_is o b k two i = option_and_then (λ j. option_and_then (λ k. binary_judged s known o a b j.type k.type) (two i)) (one i)

  pub set_is : (ts : List Tree) (us : List CodeType) → judgements s known (trees ts) ≡ Some (map type_of us) → judgement s known (set_literal (trees ts)) ≡ plain (set_literal_type s.mode (map type_of us))
  set_is ts us all = ap (option_and_then (λ us. plain (set_literal_type s.mode us))) all

-- after a test by its judgement
and_goes : (right : Facts → Option Judgement) (l : CodeBool) (f : Facts) (k : Judgement) → l ≢ False → right f ≡ Some k
    → and_judged right (bool_type (bool_type_of l)) f ≡ conjoined_by (bool_type (bool_type_of l)) f k.type k.facts
and_goes right False f k not two = absurd (not refl)
and_goes right True f k not two = ap (option_and_then (λ r. conjoined_by (bool_type only_true) f r.type r.facts)) two
and_goes right AnyBool f k not two = ap (option_and_then (λ r. conjoined_by (bool_type any_bool) f r.type r.facts)) two

or_goes : (right : Option Judgement) (l : CodeBool) (f : Facts) (k : Judgement) → l ≢ True → right ≡ Some k
    → or_judged right (bool_type (bool_type_of l)) f ≡ disjoined_by (bool_type (bool_type_of l)) f k.type k.facts
or_goes right True f k not two = absurd (not refl)
or_goes right False f k not two = ap (option_and_then (λ r. disjoined_by (bool_type only_false) f r.type r.facts)) two
or_goes right AnyBool f k not two = ap (option_and_then (λ r. disjoined_by (bool_type any_bool) f r.type r.facts)) two

-- what is behind a part that decides, where nothing is there to be found
none_behind_false : (l : BoolType) (vs : List Violation) → vs ≡ [] → unless_false (bool_type l) vs ≡ []
none_behind_false only_false vs h = refl
none_behind_false only_true vs h = h
none_behind_false any_bool vs h = h

none_behind_true : (l : BoolType) (vs : List Violation) → vs ≡ [] → unless_true (bool_type l) vs ≡ []
none_behind_true only_true vs h = refl
none_behind_true only_false vs h = h
none_behind_true any_bool vs h = h

module _ (n : ℕ) (s : Setting) (known : Facts) (a b : Tree) (j : Judgement) (one : judgement s known a ≡ Some j) (clear : violations n s known a ≡ []) where
  -- a conjunction behind False
  module _ (is : j.type ≡ bool_type only_false) where
    pub and_false_is : judgement s known (both a b) ≡ plain (Some (bool_type only_false))
    and_false_is =
        ap (option_and_then (λ x. and_judged (λ f. judgement s (union known f) b) x.type x.facts)) one
        ∙ ap (λ t. and_judged (λ f. judgement s (union known f) b) t j.facts) is

    pub and_false_stays : violations n s known (both a b) ≡ []
    and_false_stays =
        (λ i. clear i ++ after unless_false (one i) (λ f. violations n s (union known f) b))
        ∙ ap (λ t. unless_false t (violations n s (union known j.facts) b)) is

  module _ (l : CodeBool) (is : j.type ≡ bool_type (bool_type_of l)) (k : Judgement) where
    -- a conjunction behind another type of truth values
    module _ (two : judgement s (union known j.facts) b ≡ Some k) where
      pub and_is : l ≢ False → judgement s known (both a b) ≡ conjoined_by j.type j.facts k.type k.facts
      and_is not =
          ap (option_and_then (λ x. and_judged (λ f. judgement s (union known f) b) x.type x.facts)) one
          ∙ ap (λ t. and_judged (λ f. judgement s (union known f) b) t j.facts) is
          ∙ and_goes (λ f. judgement s (union known f) b) l j.facts k not two
          ∙ ap (λ t. conjoined_by t j.facts k.type k.facts) (sym is)

    pub and_stays : violations n s (union known j.facts) b ≡ [] → violations n s known (both a b) ≡ []
    and_stays also =
        (λ i. clear i ++ after unless_false (one i) (λ f. violations n s (union known f) b))
        ∙ ap (λ t. unless_false t (violations n s (union known j.facts) b)) is
        ∙ none_behind_false (bool_type_of l) (violations n s (union known j.facts) b) also

    -- a disjunction behind another type than True
    module _ (two : judgement s known b ≡ Some k) where
      pub or_is : l ≢ True → judgement s known (either a b) ≡ disjoined_by j.type j.facts k.type k.facts
      or_is not =
          ap (option_and_then (λ x. or_judged (judgement s known b) x.type x.facts)) one
          ∙ ap (λ t. or_judged (judgement s known b) t j.facts) is
          ∙ or_goes (judgement s known b) l j.facts k not two
          ∙ ap (λ t. disjoined_by t j.facts k.type k.facts) (sym is)

    pub or_stays : violations n s known b ≡ [] → violations n s known (either a b) ≡ []
    or_stays also =
        (λ i. clear i ++ after unless_true (one i) (λ f. violations n s known b))
        ∙ ap (λ t. unless_true t (violations n s known b)) is
        ∙ none_behind_true (bool_type_of l) (violations n s known b) also

-- the greater of two counts, without violations
greater_near : (c d : Count) (i k : ℕ) → (c.steps ≤ i) × (c.found ≡ []) → (d.steps ≤ k) × (d.found ≡ []) → (max c.steps d.steps ≤ max i k) × (c.found ++ d.found ≡ [])
greater_near c d i k f g = let near : c.steps ≤ i = f.0 in let close : d.steps ≤ k = g.0 in (omega arith, λ r. f.1 r ++ g.1 r)

-- a choice whose test may be true and false
module _ (n : ℕ) (s : Setting) (known : Facts) (t a b : Tree) (j k q : Judgement) (i m : Option ℕ) (may : j.type ≡ bool_type any_bool)
    (test : StaysWithin n s known t j None) (one : StaysWithin n s (union known j.facts) a k i) (two : StaysWithin n s known b q m) where
  pub choice_is : judgement s known (choice t a b) ≡ chosen s k.type (union j.facts k.facts) q.type q.facts
  choice_is =
      ap (option_and_then (λ x. choice_judged s (λ f. judgement s (union known f) a) (judgement s known b) x.type x.facts)) test.judged
      ∙ ap (λ u. choice_judged s (λ f. judgement s (union known f) a) (judgement s known b) u j.facts) may
      ∙ (λ r. option_and_then (λ x. option_and_then (λ y. chosen s x.type (union j.facts x.facts) y.type y.facts) (two.judged r)) (one.judged r))

  pub choice_stays : violations n s known (choice t a b) ≡ []
  choice_stays =
      (λ r. test.within r ++ after_test (test.judged r) (λ f. violations n s (union known f) a) (violations n s known b))
      ∙ ap (λ u. branches (λ vs ws. vs ++ ws) u (violations n s (union known j.facts) a) (violations n s known b)) may
      ∙ (λ r. one.within r ++ two.within r)

  target_is : (path : List Text) → target n s known path (choice t a b) ≡ joined [] (count (max (target n s (union known j.facts) path a).steps (target n s known path b).steps) ((target n s (union known j.facts) path a).found ++ (target n s known path b).found))
  target_is path =
      (λ r. joined (test.within r) (target_after_test (test.judged r) (λ f. target n s (union known f) path a) (target n s known path b)))
      ∙ ap (λ u. joined [] (branches (λ c d. count (max c.steps d.steps) (c.found ++ d.found)) u (target n s (union known j.facts) path a) (target n s known path b))) may

  choice_near : (c d : ℕ) → LeadsWithin n s (union known j.facts) a (Some c) → LeadsWithin n s known b (Some d) → LeadsWithin n s known (choice t a b) (Some (max c d))
  choice_near c d f g path = subst (λ x. (x.steps ≤ max c d) × (x.found ≡ [])) (sym (target_is path)) (greater_near (target n s (union known j.facts) path a) (target n s known path b) c d (f path) (g path))

  leads_by : (i m : Option ℕ) → LeadsWithin n s (union known j.facts) a i → LeadsWithin n s known b m → LeadsWithin n s known (choice t a b) (greater i m)
  leads_by None m f g = tt
  leads_by (Some c) None f g = tt
  leads_by (Some c) (Some d) f g = choice_near c d f g

  pub choice_leads : LeadsWithin n s known (choice t a b) (greater i m)
  choice_leads = leads_by i m one.leads two.leads
