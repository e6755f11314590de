-- The first of the faults.
use Rattle.std.proofs.Common.{◌≡◌, ◌∙◌, List, [], ◌∷◌, Bool, true, false, cond, Option, Some, None, refl, sym, ap}
use Rattle.std.specs.Prelude.{Contains}
use Rattle.std.specs.List.{find}
use Rattle.cedar_expr_model.proofs.Lists.{contains_cases, contains_none}
use Rattle.cedar_schema_model.specs.Conforming.{ConformFault, undeclared, not_listed, no_member, lacks_attribute, undeclared_attribute, attribute_value, tag, ancestor, context_value, open_part, conform_faults}
use Rattle.cedar_schema_model.proofs.Decls.Conforming.{each_fault}
use Rattle.cedar_gate_model.specs.First.{first_fault}
use Rattle.cedar_gate_model.specs.ConformingLaws.{FirstIsFault, NoneIsFaultless}

module _ {X : Type 0} (p : X → Bool) where
  found_holds : (xs : List X) (x : X) → find p xs ≡ Some x → p x ≡ true
  found_holds [] x h = absurd (cc)
  found_holds (y ∷ ys) x h = go (p y) refl (found_holds ys x)
    where
      step : (t : Bool) → p y ≡ t → cond t (Some y) (find p ys) ≡ Some x
      step t e = ap (λ c. cond c (Some y) (find p ys)) (sym e) ∙ h

      go : (t : Bool) → p y ≡ t → (find p ys ≡ Some x → p x ≡ true) → p x ≡ true
      go true e rest = let same : y ≡ x = (let q = step true e in cc) in ap p (sym same) ∙ e
      go false e rest = rest (step false e)

  none_holds : (xs : List X) → find p xs ≡ None → (x : X) → Contains xs x → p x ≡ false
  none_holds [] h x c = absurd (contains_none x c)
  none_holds (y ∷ ys) h x c = go (p y) refl (none_holds ys)
    where
      step : (t : Bool) → p y ≡ t → cond t (Some y) (find p ys) ≡ None
      step t e = ap (λ c. cond c (Some y) (find p ys)) (sym e) ∙ h

      go : (t : Bool) → p y ≡ t → (find p ys ≡ None → (x : X) → Contains ys x → p x ≡ false) → p x ≡ false
      go true e rest = absurd (let q = step true e in cc)
      go false e rest = contains_cases (p x ≡ false) y ys x c (λ q. ap p (sym q) ∙ e) (λ d. rest (step false e) x d)

pub first_is_fault : FirstIsFault
first_is_fault has f h = found_holds has conform_faults f h

pub none_is_faultless : NoneIsFaultless
none_is_faultless has h f = none_holds has conform_faults h f (each_fault f)

-- the first of the faults by the tests of each
abbrev chosen : Bool → Bool → Bool → Bool → Bool → Bool → Bool → Bool → Bool → Bool → Option ConformFault
chosen a b c d e f g h x y = cond a (Some undeclared) (cond b (Some not_listed) (cond c (Some no_member) (cond d (Some lacks_attribute) (cond e (Some undeclared_attribute) (cond f (Some attribute_value) (cond g (Some tag) (cond h (Some ancestor) (cond x (Some context_value) (cond y (Some open_part) None)))))))))

module _ (has : ConformFault → Bool) where
  pub first_undeclared : has undeclared ≡ true → first_fault has ≡ Some undeclared
  first_undeclared a = λ i. chosen (a i) (has not_listed) (has no_member) (has lacks_attribute) (has undeclared_attribute) (has attribute_value) (has tag) (has ancestor) (has context_value) (has open_part)

  pub first_not_listed : has undeclared ≡ false → has not_listed ≡ true → first_fault has ≡ Some not_listed
  first_not_listed a b = λ i. chosen (a i) (b i) (has no_member) (has lacks_attribute) (has undeclared_attribute) (has attribute_value) (has tag) (has ancestor) (has context_value) (has open_part)

  pub first_no_member : has undeclared ≡ false → has not_listed ≡ false → has no_member ≡ true → first_fault has ≡ Some no_member
  first_no_member a b c = λ i. chosen (a i) (b i) (c i) (has lacks_attribute) (has undeclared_attribute) (has attribute_value) (has tag) (has ancestor) (has context_value) (has open_part)

  pub first_lacks_attribute : has undeclared ≡ false → has not_listed ≡ false → has no_member ≡ false → has lacks_attribute ≡ true → first_fault has ≡ Some lacks_attribute
  first_lacks_attribute a b c d = λ i. chosen (a i) (b i) (c i) (d i) (has undeclared_attribute) (has attribute_value) (has tag) (has ancestor) (has context_value) (has open_part)

  pub first_undeclared_attribute : has undeclared ≡ false → has not_listed ≡ false → has no_member ≡ false → has lacks_attribute ≡ false → has undeclared_attribute ≡ true → first_fault has ≡ Some undeclared_attribute
  first_undeclared_attribute a b c d e = λ i. chosen (a i) (b i) (c i) (d i) (e i) (has attribute_value) (has tag) (has ancestor) (has context_value) (has open_part)

  pub first_attribute_value : has undeclared ≡ false → has not_listed ≡ false → has no_member ≡ false → has lacks_attribute ≡ false → has undeclared_attribute ≡ false → has attribute_value ≡ true → first_fault has ≡ Some attribute_value
  first_attribute_value a b c d e f = λ i. chosen (a i) (b i) (c i) (d i) (e i) (f i) (has tag) (has ancestor) (has context_value) (has open_part)

  pub first_tag : has undeclared ≡ false → has not_listed ≡ false → has no_member ≡ false → has lacks_attribute ≡ false → has undeclared_attribute ≡ false → has attribute_value ≡ false → has tag ≡ true → first_fault has ≡ Some tag
  first_tag a b c d e f g = λ i. chosen (a i) (b i) (c i) (d i) (e i) (f i) (g i) (has ancestor) (has context_value) (has open_part)

  pub first_ancestor : has undeclared ≡ false → has not_listed ≡ false → has no_member ≡ false → has lacks_attribute ≡ false → has undeclared_attribute ≡ false → has attribute_value ≡ false → has tag ≡ false → has ancestor ≡ true → first_fault has ≡ Some ancestor
  first_ancestor a b c d e f g h = λ i. chosen (a i) (b i) (c i) (d i) (e i) (f i) (g i) (h i) (has context_value) (has open_part)

  pub first_context_value : has undeclared ≡ false → has not_listed ≡ false → has no_member ≡ false → has lacks_attribute ≡ false → has undeclared_attribute ≡ false → has attribute_value ≡ false → has tag ≡ false → has ancestor ≡ false → has context_value ≡ true → first_fault has ≡ Some context_value
  first_context_value a b c d e f g h x = λ i. chosen (a i) (b i) (c i) (d i) (e i) (f i) (g i) (h i) (x i) (has open_part)

  pub first_open_part : has undeclared ≡ false → has not_listed ≡ false → has no_member ≡ false → has lacks_attribute ≡ false → has undeclared_attribute ≡ false → has attribute_value ≡ false → has tag ≡ false → has ancestor ≡ false → has context_value ≡ false → has open_part ≡ true → first_fault has ≡ Some open_part
  first_open_part a b c d e f g h x y = λ i. chosen (a i) (b i) (c i) (d i) (e i) (f i) (g i) (h i) (x i) (y i)

  pub first_none : has undeclared ≡ false → has not_listed ≡ false → has no_member ≡ false → has lacks_attribute ≡ false → has undeclared_attribute ≡ false → has attribute_value ≡ false → has tag ≡ false → has ancestor ≡ false → has context_value ≡ false → has open_part ≡ false → first_fault has ≡ None
  first_none a b c d e f g h x y = λ i. chosen (a i) (b i) (c i) (d i) (e i) (f i) (g i) (h i) (x i) (y i)

pub first_alike : (has is : ConformFault → Bool) → ((f : ConformFault) → has f ≡ is f) → first_fault has ≡ first_fault is
first_alike has is same = λ i. find (λ f. same f i) conform_faults
