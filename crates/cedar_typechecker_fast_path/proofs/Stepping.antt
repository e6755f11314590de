-- Steps that stay within a level.
use Rattle.std.proofs.Common.{◌≡◌, ◌≤◌, ◌<◌, ℕ, ◌+◌, Bool, true, false, List, [], ◌∷◌, ◌++◌, Option, Some, None, refl, ap, ◌∙◌, sym, subst, zero-le, arith}
use Rattle.std.specs.Prelude.{option_map, if◌then◌else◌}
use Rattle.std.proofs.lemmas.Bool.{le-leb, ltb-true}
use Rattle.std.proofs.lemmas.Option.{none-some, cond_some}
use Rattle.cedar_expr_model.specs.Name.{Text}
use Rattle.cedar_expr_model.specs.Value.{Literal, truth, long, text, entity}
use Rattle.cedar_expr_model.specs.Tree.{BinaryOp, equal, less, less_or_equal, plus, difference, times, remainder, is_in, contains, contains_all, contains_any, get_tag, has_tag, Tree, lit, binary, get_attr, has_attr}
use Rattle.cedar_typechecker_model.specs.Facts.{Facts}
use Rattle.cedar_typechecker_model.specs.Levels.{Count, needed, stepped, further, violations, target, on_entity}
use Rattle.cedar_typechecker_model.specs.Rules.{Setting}
use Rattle.cedar_typechecker_fast_path.specs.Steps.{one_more, literal_steps, looked_up, operator_steps, attribute_steps}
use Rattle.cedar_typechecker_fast_path.specs.Within.{LeadsWithin}

-- what is there is one thing
same : {A : Type 0} (x y : A) → Some x ≡ Some y → x ≡ y
same x y h = (cond_some true x y h).1

-- what a function gives of what is there
given : {A B : Type 0} (f : A → B) (o : Option A) (y : B) → option_map f o ≡ Some y → (x : A) × (o ≡ Some x) × (f x ≡ y)
given f None y h = absurd (none-some y h)
given f (Some x) y h = (x, refl, same (f x) y h)

module _ (n : ℕ) where
  stays : (e : Tree) (c : Count) → c.steps ≤ n → c.found ≡ [] → stepped n e c ≡ []
  stays e c near none = ap (λ (b : Bool). if b then c.found else (record { at = e; required = Some (needed c.steps) } ∷ c.found)) (le-leb c.steps n near) ∙ none

  -- no step leads to a truth value or a number
  module _ (s : Setting) (known : Facts) where
    pub literal_leads : (p : Literal) → LeadsWithin n s known (lit p) (literal_steps p)
    literal_leads (truth b) = λ path. (zero-le, refl)
    literal_leads (long i) = λ path. (zero-le, refl)
    literal_leads (text t) = λ path. (zero-le, refl)
    literal_leads (entity u) = tt

    module _ (a : Tree) where
      -- a step further stays within the level, and leads so far
      pub step_stays : (e : Tree) (k : Option ℕ) (m : ℕ) → LeadsWithin n s known a k → one_more n k ≡ Some m → stepped n e (further 1 (target n s known [] a)) ≡ []
      step_stays e None m l h = absurd (none-some m h)
      step_stays e (Some i) m l h =
          let more = cond_some _ (i + 1) m h in
          let near : (target n s known [] a).steps ≤ i = (l []).0 in
          let below : i < n = ltb-true i n more.0 in
          stays e (further 1 (target n s known [] a)) (omega arith) (l []).1

      pub step_leads : (k : Option ℕ) (m : ℕ) → LeadsWithin n s known a k → one_more n k ≡ Some m → ((target n s known [] a).steps + 1 ≤ m) × ((target n s known [] a).found ≡ [])
      step_leads None m l h = absurd (none-some m h)
      step_leads (Some i) m l h =
          let more = cond_some _ (i + 1) m h in
          let near : (target n s known [] a).steps ≤ i = (l []).0 in
          let is : i + 1 ≡ m = more.1 in
          (omega arith, (l []).1)

      module _ (b : Tree) (k : Option ℕ) (m : ℕ) (one : violations n s known a ≡ []) (leads : LeadsWithin n s known a k) (two : violations n s known b ≡ []) where
        -- of an operator
        pub operator_stays : (o : BinaryOp) → operator_steps n o k ≡ Some m → violations n s known (binary o a b) ≡ []
        operator_stays equal h = λ i. one i ++ two i
        operator_stays less h = λ i. one i ++ two i
        operator_stays less_or_equal h = λ i. one i ++ two i
        operator_stays plus h = λ i. one i ++ two i
        operator_stays difference h = λ i. one i ++ two i
        operator_stays times h = λ i. one i ++ two i
        operator_stays remainder h = λ i. one i ++ two i
        operator_stays contains h = λ i. one i ++ two i
        operator_stays contains_all h = λ i. one i ++ two i
        operator_stays contains_any h = λ i. one i ++ two i
        operator_stays is_in h = let at = given (looked_up is_in) (one_more n k) m h in λ i. step_stays (binary is_in a b) k at.0 leads at.1 i ++ two i
        operator_stays has_tag h = let at = given (looked_up has_tag) (one_more n k) m h in λ i. step_stays (binary has_tag a b) k at.0 leads at.1 i ++ two i
        operator_stays get_tag h = let at = given (looked_up get_tag) (one_more n k) m h in λ i. step_stays (binary get_tag a b) k at.0 leads at.1 i ++ two i

        pub operator_leads : (o : BinaryOp) → operator_steps n o k ≡ Some m → LeadsWithin n s known (binary o a b) (Some m)
        operator_leads equal h = λ path. (zero-le, refl)
        operator_leads less h = λ path. (zero-le, refl)
        operator_leads less_or_equal h = λ path. (zero-le, refl)
        operator_leads plus h = λ path. (zero-le, refl)
        operator_leads difference h = λ path. (zero-le, refl)
        operator_leads times h = λ path. (zero-le, refl)
        operator_leads remainder h = λ path. (zero-le, refl)
        operator_leads contains h = λ path. (zero-le, refl)
        operator_leads contains_all h = λ path. (zero-le, refl)
        operator_leads contains_any h = λ path. (zero-le, refl)
        operator_leads is_in h = λ path. (zero-le, refl)
        operator_leads has_tag h = λ path. (zero-le, refl)
        operator_leads get_tag h =
            let at = given (looked_up get_tag) (one_more n k) m h in
            let more = step_leads k m leads (at.1 ∙ ap Some at.2) in
            λ path. (more.0, λ i. two i ++ more.1 i)

      -- of an attribute
      module _ (name : Text) (k : Option ℕ) (one : violations n s known a ≡ []) (leads : LeadsWithin n s known a k) where
        pub attribute_stays : (b : Bool) (m : Option ℕ) → on_entity s known a ≡ b → attribute_steps n b k ≡ Some m → violations n s known (get_attr a name) ≡ []
        attribute_stays true m is h =
            let at = given Some (one_more n k) m h in
            ap (λ (b : Bool). if b then stepped n (get_attr a name) (further 1 (target n s known [] a)) else violations n s known a) is ∙ step_stays (get_attr a name) k at.0 leads at.1
        attribute_stays false m is h = ap (λ (b : Bool). if b then stepped n (get_attr a name) (further 1 (target n s known [] a)) else violations n s known a) is ∙ one

        pub test_stays : (b : Bool) (m : Option ℕ) → on_entity s known a ≡ b → attribute_steps n b k ≡ Some m → violations n s known (has_attr a name) ≡ []
        test_stays true m is h =
            let at = given Some (one_more n k) m h in
            ap (λ (b : Bool). if b then stepped n (has_attr a name) (further 1 (target n s known [] a)) else violations n s known a) is ∙ step_stays (has_attr a name) k at.0 leads at.1
        test_stays false m is h = ap (λ (b : Bool). if b then stepped n (has_attr a name) (further 1 (target n s known [] a)) else violations n s known a) is ∙ one

        -- what any fields lead to from it, by whether it is an entity's
        abbrev leads_from : List Text → Bool → Count
        leads_from path b = if b then further 1 (target n s known [] a) else target n s known (name ∷ path) a

        leads_on : (b : Bool) (m : ℕ) → on_entity s known a ≡ b → attribute_steps n b k ≡ Some (Some m) → (path : List Text) → ((leads_from path (on_entity s known a)).steps ≤ m) × ((leads_from path (on_entity s known a)).found ≡ [])
        leads_on true m is h path =
            let at = given Some (one_more n k) (Some m) h in
            subst (λ b. ((leads_from path b).steps ≤ m) × ((leads_from path b).found ≡ [])) (sym is) (step_leads k m leads (at.1 ∙ at.2))
        leads_on false m is h path =
            let near : LeadsWithin n s known a (Some m) = subst (LeadsWithin n s known a) (same k (Some m) h) leads in
            subst (λ b. ((leads_from path b).steps ≤ m) × ((leads_from path b).found ≡ [])) (sym is) (near (name ∷ path))

        pub attribute_leads : (b : Bool) (m : Option ℕ) → on_entity s known a ≡ b → attribute_steps n b k ≡ Some m → LeadsWithin n s known (get_attr a name) m
        attribute_leads b None is h = tt
        attribute_leads b (Some m) is h = leads_on b m is h
