-- The way along a path of attributes: the judgement of the tests on it together with what is left, and the order of their facts.
use Rattle.std.proofs.Common.{◌≡◌, ◌||◌, ◌⊎◌, inl, inr, Bool, true, false, List, [], ◌∷◌, ◌++◌, Option, Some, None, Result, IfOk, option_map, option_and_then, refl, sym, ap, subst, ◌∙◌}
use Rattle.std.specs.List.{AllByRecursion, list_any}
use Rattle.std.proofs.lemmas.List.Folds.{list_any-append}
use Rattle.cedar_expr_model.specs.Name.{Text}
use Rattle.cedar_expr_model.specs.Tree.{Tree, get_attr}
use Rattle.cedar_expr_shapes.specs.Shapes.{shape_of}
use Rattle.cedar_expr_trees.specs.Trees.{tree_of}
use Rattle.cedar_schema_model.specs.Types.{BoolType, any_bool, only_true, only_false, Ty, bool_type}
use Rattle.cedar_schema_types.specs.Types.{type_of}
use Rattle.cedar_typechecker_model.specs.Facts.{Facts, no_facts, fact, union, attribute_part}
use Rattle.cedar_typechecker_model.specs.Rules.{Setting, has_type}
use Rattle.cedar_typechecker_model.specs.Typing.{Judgement, judged, tested, conjoined, and_judged, path_judged, step_type}
use Rattle.cedar_typechecker_environments.specs.Along.{Leads, LeadsTo, Before, AlongPath}
use Rattle.cedar_typechecker_environments.specs.Facts.{capability_of, is_of, facts_among}
use Rattle.cedar_typechecker_environments.specs.declared.facts.Capability.{Capability}
use Rattle.cedar_typechecker_environments.specs.declared.facts.Capability.TheVariants.{Attribute, Tag}
use Rattle.cedar_typechecker_answers.specs.Answers.{judgement_seen}
use Rattle.cedar_typechecker_answers.specs.declared.answer.Judged.{Judged}
use Rattle.cedar_typechecker_operators.specs.Ways.{type_of_tests, tests_judged, with_rest, stepped, judged_on, judged_past, Lead, IsOnPath, IsPast, IsNoted, PassesTo}
use Rattle.cedar_typechecker_operators.specs.declared.paths.Way.{Way}
use Rattle.cedar_typechecker_operators.specs.declared.paths.Passed.{Passed}
use Rattle.cedar_typechecker_operators.specs.declared.paths.Passed.TheVariants.{Done, On}
use Rattle.cedar_typechecker_operators.proofs.PathTests.{judged_so}

or_false : (b : Bool) → (b || false) ≡ b
or_false true = refl
or_false false = refl

beside : (a b c : Bool) → (a || (b || c)) ≡ ((a || b) || c)
beside true b c = refl
beside false b c = refl

-- the facts of tests, and one more
module _ (ks : List Capability) (k : Capability) (e : Tree) (a : Text) (is : capability_of k ≡ (e, attribute_part a)) where
  one_more : facts_among (ks ++ k ∷ []) ≡ union (facts_among ks) (fact e (attribute_part a))
  one_more = λ i x p. (list_any-append (is_of x p) ks (k ∷ []) ∙ ap (λ b. list_any (is_of x p) ks || b) (or_false (is_of x p k) ∙ ap (λ q. fact q.0 q.1 x p) is)) i

tests_end : (ks : List Capability) (k : Capability) → type_of_tests (ks ++ k ∷ []) ≡ any_bool
tests_end [] k = refl
tests_end (j ∷ ks) k = refl

-- a conjunction behind a test that is True
behind_true : (l : BoolType) (f : Facts) (rest : Option Judgement) →
    option_and_then (λ r. conjoined l f r.type r.facts) (option_and_then (λ r. conjoined only_true no_facts r.type r.facts) rest)
    ≡ option_and_then (λ r. conjoined l f r.type r.facts) rest
behind_true l f None = refl
behind_true l f (Some r) = by r.type r.facts
  where
    by : (t : Ty) (g : Facts) → option_and_then (λ r. conjoined l f r.type r.facts) (conjoined only_true no_facts t g) ≡ conjoined l f t g
    by (bool_type only_false) g = refl
    by (bool_type only_true) g = refl
    by (bool_type any_bool) g = refl
    by t g = refl

-- and behind one that isn't decided
behind_any : (l : BoolType) (f h : Facts) (rest : Option Judgement) →
    option_and_then (λ r. conjoined l f r.type r.facts) (option_and_then (λ r. conjoined any_bool h r.type r.facts) rest)
    ≡ option_and_then (λ r. conjoined any_bool (union f h) r.type r.facts) rest
behind_any l f h None = refl
behind_any l f h (Some r) = by r.type r.facts
  where
    by : (t : Ty) (g : Facts) → option_and_then (λ r. conjoined l f r.type r.facts) (conjoined any_bool h t g) ≡ conjoined any_bool (union f h) t g
    by (bool_type only_false) g = refl
    by (bool_type only_true) g = λ i. judged (bool_type any_bool) (λ x p. beside (f x p) (h x p) (g x p) i)
    by (bool_type any_bool) g = λ i. judged (bool_type any_bool) (λ x p. beside (f x p) (h x p) (g x p) i)
    by t g = refl

module _ (s : Setting) (a : Text) (e : Tree) (t : Ty) where
  -- what is judged of a path that goes on, by its first test
  abbrev by_test : Text → List Text → Option BoolType → Option Judgement
  by_test b bs there = option_and_then (λ j. and_judged (λ f. stepped s a e t b bs) j.type j.facts) (option_map (tested e (attribute_part a)) there)

  module _ (ks : List Capability) where
    pub passed_none : (b : Text) (bs : List Text) → has_type s t a ≡ None → None ≡ with_rest ks (path_judged s a (b ∷ bs) e t)
    passed_none b bs h = ap (λ o. with_rest ks (by_test b bs o)) (sym h)

    pub passed_false : (b : Text) (bs : List Text) → has_type s t a ≡ Some only_false → judged (bool_type only_false) no_facts ≡ with_rest ks (path_judged s a (b ∷ bs) e t)
    passed_false b bs h = ap (λ o. with_rest ks (by_test b bs o)) (sym h)

    pub passed_true : (b : Text) (bs : List Text) → has_type s t a ≡ Some only_true → with_rest ks (stepped s a e t b bs) ≡ with_rest ks (path_judged s a (b ∷ bs) e t)
    passed_true b bs h = sym (behind_true (type_of_tests ks) (facts_among ks) (stepped s a e t b bs)) ∙ ap (λ o. with_rest ks (by_test b bs o)) (sym h)

    pub ended_none : has_type s t a ≡ None → None ≡ with_rest ks (path_judged s a [] e t)
    ended_none h = ap (λ o. with_rest ks (option_map (tested e (attribute_part a)) o)) (sym h)

    pub ended_false : has_type s t a ≡ Some only_false → judged (bool_type only_false) no_facts ≡ with_rest ks (path_judged s a [] e t)
    ended_false h = ap (λ o. with_rest ks (option_map (tested e (attribute_part a)) o)) (sym h)

    ends : (l : List Capability) → with_rest l (judged (bool_type only_true) no_facts) ≡ Some (tests_judged l)
    ends [] = refl
    ends (k ∷ l) = λ i. judged (bool_type any_bool) (λ x p. or_false (facts_among (k ∷ l) x p) i)

    pub ended_true : has_type s t a ≡ Some only_true → Some (tests_judged ks) ≡ with_rest ks (path_judged s a [] e t)
    ended_true h = sym (ends ks) ∙ ap (λ o. with_rest ks (option_map (tested e (attribute_part a)) o)) (sym h)

    module _ (k : Capability) (is : capability_of k ≡ (e, attribute_part a)) where
      noted : with_rest (ks ++ k ∷ []) ≡ option_and_then (λ r. conjoined any_bool (union (facts_among ks) (fact e (attribute_part a))) r.type r.facts)
      noted = λ i. option_and_then (λ r. conjoined (tests_end ks k i) (one_more ks k e a is i) r.type r.facts)

      pub passed_any : (b : Text) (bs : List Text) → has_type s t a ≡ Some any_bool → with_rest (ks ++ k ∷ []) (stepped s a e t b bs) ≡ with_rest ks (path_judged s a (b ∷ bs) e t)
      passed_any b bs h =
          ap (λ w. w (stepped s a e t b bs)) noted
          ∙ sym (behind_any (type_of_tests ks) (facts_among ks) (fact e (attribute_part a)) (stepped s a e t b bs))
          ∙ ap (λ o. with_rest ks (by_test b bs o)) (sym h)

      last_any : (l : BoolType) → judged (bool_type any_bool) (union (facts_among ks) (fact e (attribute_part a))) ≡ conjoined l (facts_among ks) (bool_type any_bool) (fact e (attribute_part a))
      last_any l = refl

      pub ended_any : has_type s t a ≡ Some any_bool → Some (tests_judged (ks ++ k ∷ [])) ≡ with_rest ks (path_judged s a [] e t)
      ended_any h =
          (λ i. judged (bool_type (tests_end ks k i)) (one_more ks k e a is i))
          ∙ last_any (type_of_tests ks)
          ∙ ap (λ o. with_rest ks (option_map (tested e (attribute_part a)) o)) (sym h)

  -- where nothing is gone yet
  begun_by : (bs : List Text) (there : Option BoolType) → has_type s t a ≡ there → with_rest [] (path_judged s a bs e t) ≡ path_judged s a bs e t
  begun_by [] None h = ap (λ o. with_rest [] (option_map (tested e (attribute_part a)) o)) h ∙ ap (option_map (tested e (attribute_part a))) (sym h)
  begun_by [] (Some only_true) h = ap (λ o. with_rest [] (option_map (tested e (attribute_part a)) o)) h ∙ ap (option_map (tested e (attribute_part a))) (sym h)
  begun_by [] (Some only_false) h = ap (λ o. with_rest [] (option_map (tested e (attribute_part a)) o)) h ∙ ap (option_map (tested e (attribute_part a))) (sym h)
  begun_by [] (Some any_bool) h = ap (λ o. with_rest [] (option_map (tested e (attribute_part a)) o)) h ∙ ap (option_map (tested e (attribute_part a))) (sym h)
  begun_by (b ∷ bs) None h = ap (λ o. with_rest [] (by_test b bs o)) h ∙ ap (by_test b bs) (sym h)
  begun_by (b ∷ bs) (Some only_false) h = ap (λ o. with_rest [] (by_test b bs o)) h ∙ ap (by_test b bs) (sym h)
  begun_by (b ∷ bs) (Some only_true) h = ap (λ o. with_rest [] (by_test b bs o)) h ∙ behind_true only_true no_facts (stepped s a e t b bs) ∙ ap (by_test b bs) (sym h)
  begun_by (b ∷ bs) (Some any_bool) h = ap (λ o. with_rest [] (by_test b bs o)) h ∙ behind_any only_true no_facts (fact e (attribute_part a)) (stepped s a e t b bs) ∙ ap (by_test b bs) (sym h)

  pub begun : (bs : List Text) → with_rest [] (path_judged s a bs e t) ≡ path_judged s a bs e t
  begun bs = begun_by bs (has_type s t a) refl

all_last : {K : Type 0} (P : K → Type 0) (xs : List K) (x : K) → AllByRecursion P xs → P x → AllByRecursion P (xs ++ x ∷ [])
all_last P [] x a p = (p, tt)
all_last P (y ∷ ys) x a p = (a.0, all_last P ys x a.1 p)

each : {K : Type 0} (P Q : K → Type 0) → ((x : K) → P x → Q x) → (xs : List K) → AllByRecursion P xs → AllByRecursion Q xs
each P Q f [] a = tt
each P Q f (x ∷ xs) a = (f x a.0, each P Q f xs a.1)

-- the order of facts behind the next step
module _ (e : Tree) (a : Text) where
  leads_further : (k : Capability) → LeadsTo e k → LeadsTo (get_attr e a) k
  leads_further (Attribute x b) h = inr h
  leads_further (Tag x u) h = absurd h

  pub further : (ks : List Capability) → Lead e ks → Lead (get_attr e a) ks
  further ks h = (h.0, each (LeadsTo e) (LeadsTo (get_attr e a)) leads_further ks h.1)

  module _ (k : Capability) (c : Text) (is : capability_of k ≡ (e, attribute_part c)) where
    itself : (l : Capability) → capability_of l ≡ (e, attribute_part c) → LeadsTo (get_attr e a) l
    itself (Attribute x b) h = inl (ap (λ p. p.0) h)
    itself (Tag x u) h = let r = ap (λ p. p.1) h in absurd (cc)

    comes_before : (l j : Capability) → capability_of l ≡ (e, attribute_part c) → LeadsTo e j → Before j l
    comes_before (Attribute x b) j h b_ = subst (λ u. LeadsTo u j) (sym (ap (λ p. p.0) h)) b_
    comes_before (Tag x u) j h b_ = let r = ap (λ p. p.1) h in absurd (cc)

    along_last : (ks : List Capability) → AlongPath ks → AllByRecursion (LeadsTo e) ks → AlongPath (ks ++ k ∷ [])
    along_last [] p h = (tt, tt)
    along_last (j ∷ ks) p h = (all_last (Before j) ks k p.0 (comes_before k j is h.0), along_last ks p.1 h.1)

    pub noted_further : (ks : List Capability) → Lead e ks → Lead (get_attr e a) (ks ++ k ∷ [])
    noted_further ks h = (along_last ks h.0 h.1, all_last (LeadsTo (get_attr e a)) ks k (further ks h).1 (itself k is))

-- what follows a test that is passed, over the way itself
module _ (s : Setting) (w : Way) (a : Text) where
  noted_lead : (v : Way) → IsNoted w a v → IsOnPath w → IsPast v a
  noted_lead v n h =
      subst (λ ks. Lead (get_attr (tree_of v.at.value) a) ks) (sym n.4)
      (subst (λ e. Lead (get_attr e a) (w.facts.items ++ n.2 ∷ [])) (sym n.0) (noted_further (tree_of w.at.value) a n.2 a n.3 w.facts.items h))

  pub noted_past : (v : Way) → IsNoted w a v → IsOnPath w → IsPast v a
  noted_past v n h = noted_lead v n h

  pub noted_along : (v : Way) → IsNoted w a v → IsOnPath w → AlongPath v.facts.items
  noted_along v n h = (noted_lead v n h).0

  pub noted_judged : (v : Way) → IsNoted w a v → has_type s (type_of w.ty) a ≡ Some any_bool → (b : Text) (bs : List Text) → judged_past s v a b bs ≡ judged_on s w a (b ∷ bs)
  noted_judged v n h b bs =
      (λ i. with_rest (n.4 i) (stepped s a (n.0 i) (n.1 i) b bs))
      ∙ passed_any s a (tree_of w.at.value) (type_of w.ty) w.facts.items n.2 n.3 b bs h

  pub noted_ended : (v : Way) → IsNoted w a v → has_type s (type_of w.ty) a ≡ Some any_bool → Some (tests_judged v.facts.items) ≡ judged_on s w a []
  noted_ended v n h =
      (λ i. Some (tests_judged (n.4 i)))
      ∙ ended_any s a (tree_of w.at.value) (type_of w.ty) w.facts.items n.2 n.3 h

  pub gone_nowhere : step_type s (type_of w.ty) a ≡ None → (b : Text) (bs : List Text) → None ≡ judged_past s w a b bs
  gone_nowhere h b bs = ap (λ o. with_rest w.facts.items (option_and_then (path_judged s b bs (get_attr (tree_of w.at.value) a)) o)) (sym h)

  pub gone_further : (at : Tree) (u : Ty) → at ≡ get_attr (tree_of w.at.value) a → Some u ≡ step_type s (type_of w.ty) a → (b : Text) (bs : List Text) → with_rest w.facts.items (path_judged s b bs at u) ≡ judged_past s w a b bs
  gone_further at u p h b bs =
      ap (λ e. with_rest w.facts.items (path_judged s b bs e u)) p
      ∙ ap (λ o. with_rest w.facts.items (option_and_then (path_judged s b bs (get_attr (tree_of w.at.value) a)) o)) h

  pub led : (at : Tree) → at ≡ get_attr (tree_of w.at.value) a → IsPast w a → Lead at w.facts.items
  led at p h = subst (λ e. Lead e w.facts.items) (sym p) h

pub passes_so : {E : Type 0} (s : Setting) (r : Result Passed E) (f g : Text → List Text → Option Judgement) → ((b : Text) (bs : List Text) → f b bs ≡ g b bs) → IfOk r (PassesTo s f) → IfOk r (PassesTo s g)
passes_so s r f g e h = subst (λ q. IfOk r (PassesTo s q)) (λ i b bs. e b bs i) h

-- the whole path, by the way gone and what is left
abbrev pub SoFar : Setting → Option Judgement → Way → Text → List Text → Type 0
SoFar s whole w a bs = (judged_on s w a bs ≡ whole) × IsOnPath w

module _ (s : Setting) where
  pub from_start : (w : Way) (a : Text) (bs : List Text) (e : Tree) (t : Ty) → tree_of w.at.value ≡ e → type_of w.ty ≡ t → w.facts.items ≡ [] → SoFar s (path_judged s a bs e t) w a bs
  from_start w a bs e t p q h = (
    (λ i. with_rest (h i) (path_judged s a bs (p i) (q i))) ∙ begun s a e t bs,
    subst (Lead (tree_of w.at.value)) (sym h) (tt, tt),
  )

  module _ (whole : Option Judgement) (w : Way) (a : Text) (left : List Text) (h : SoFar s whole w a left) where
    pub goes_on : (v : Way) (b : Text) (bs : List Text) → left ≡ b ∷ bs → PassesTo s (λ c cs. judged_on s w a (c ∷ cs)) (On v) → SoFar s whole v b bs
    goes_on v b bs d p = (p.0 b bs ∙ ap (judged_on s w a) (sym d) ∙ h.0, p.1)

    pub is_done : (j : Option Judged) (b : Text) (bs : List Text) → left ≡ b ∷ bs → PassesTo s (λ c cs. judged_on s w a (c ∷ cs)) (Done j) → option_map judgement_seen j ≡ whole
    is_done j b bs d p = p b bs ∙ ap (judged_on s w a) (sym d) ∙ h.0

    pub at_end : {E : Type 0} (r : Result (Option Judged) E) → left ≡ [] → IfOk r (λ j. option_map judgement_seen j ≡ judged_on s w a []) → IfOk r (λ j. option_map judgement_seen j ≡ whole)
    at_end r d k = judged_so r _ _ (ap (judged_on s w a) (sym d) ∙ h.0) k
