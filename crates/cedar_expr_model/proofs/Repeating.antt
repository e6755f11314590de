-- What is met again in a list, and which fault a list of functions has.
use Rattle.std.proofs.Common.{◌≡◌, Bool, true, false, cond, List, [], ◌∷◌, ◌++◌, Contains, Option, Some, None, Decides, append_assoc, refl, sym, ap, ◌∙◌, subst, ⊎_elim, option_map}
use Rattle.std.specs.Prelude.{◌↔◌}
use Rattle.std.specs.List.{list_any, filter_map}
use Rattle.std.specs.Option.{option_or}
use Rattle.std.proofs.lemmas.List.Elements.{Contains-append_left, Contains-append_right, Contains-append_cases}
use Rattle.cedar_expr_model.specs.Name.{Name, name_eq}
use Rattle.cedar_expr_model.specs.Tree.{CoreType}
use Rattle.cedar_expr_model.specs.Order.{core_eq}
use Rattle.cedar_expr_model.specs.Table.{Signature, constructed}
use Rattle.cedar_expr_model.specs.Repeats.{first_again, repeated, TableFault, repeated_function, repeated_constructor, table_fault}
use Rattle.cedar_expr_model.specs.ListLaws.{AreDistinct, IsMetAgain, function_names}
use Rattle.cedar_expr_model.proofs.Lists.{contains_head, contains_tail, contains_cases, contains_none, found-Decides}
use Rattle.cedar_expr_model.proofs.Equality.{name_eq-Decides}
use Rattle.cedar_expr_model.proofs.CoreTypes.{core_eq-Decides}

module _ {A : Type 0} where
  only_one : (y x : A) → Contains (y ∷ []) x → y ≡ x
  only_one y x h = contains_cases (y ≡ x) y [] x h (λ e. e) (λ k. absurd (contains_none x k))

  in_last : (before : List A) (y : A) → Contains (before ++ y ∷ []) y
  in_last before y = Contains-append_right before (y ∷ []) y (contains_head y [])

  -- what is distinct in a row
  pub distinct_apart : (before : List A) (y : A) (ys : List A) → AreDistinct (before ++ y ∷ ys) → Contains before y → ⊥
  distinct_apart [] y ys d h = contains_none y h
  distinct_apart (x ∷ before) y ys d h =
      contains_cases ⊥ x before y h
      (λ e. d.0 (Contains-append_right before (y ∷ ys) x (subst (Contains (y ∷ ys)) (sym e) (contains_head y ys))))
      (λ k. distinct_apart before y ys d.1 k)

  pub distinct_last : (before : List A) (y : A) → AreDistinct before → ¬ (Contains before y) → AreDistinct (before ++ y ∷ [])
  distinct_last [] y d h = (λ k. contains_none y k, tt)
  distinct_last (x ∷ before) y d h = (
    λ k. ⊎_elim d.0 (λ l. h (subst (Contains (x ∷ before)) (sym (only_one y x l)) (contains_head x before))) (Contains-append_cases before (y ∷ []) x k),
    distinct_last before y d.1 (λ k. h (contains_tail x before y k)),
  )

  append_none : (xs : List A) → xs ++ [] ≡ xs
  append_none [] = refl
  append_none (x ∷ xs) = ap (λ l. x ∷ l) (append_none xs)

  module _ (eq : A → A → Bool) (decides : (x y : A) → Decides (eq x y) (x ≡ y)) where
    -- none is met again where all are distinct, and none of them was met before
    abbrev Fresh : List A → List A → Type 0
    Fresh before xs = AreDistinct xs × ((x : A) → Contains xs x → ¬ (Contains before x))

    none_case : (before : List A) (y : A) (ys : List A) (t : Bool) → list_any (eq y) before ≡ t → ((first_again eq (before ++ y ∷ []) ys ≡ None) ↔ Fresh (before ++ y ∷ []) ys) → (cond t (Some y) (first_again eq (before ++ y ∷ []) ys) ≡ None) ↔ Fresh before (y ∷ ys)
    none_case before y ys true e d = (λ h. cc, λ f. absurd (f.1 y (contains_head y ys) ((found-Decides eq decides y before).0 e)))
    none_case before y ys false e d = (
      λ h.
          let f = d.0 h in (
            (λ k. f.1 y k (in_last before y), f.0),
            λ x c k. contains_cases ⊥ y ys x c
                (λ q. let r = (found-Decides eq decides y before).1 (subst (Contains before) (sym q) k) in cc)
                (λ l. f.1 x l (Contains-append_left before (y ∷ []) x k)),
          ),
      λ f. d.1 (
        (f.0).1,
        λ x c k.
            ⊎_elim (λ l. f.1 x (contains_tail y ys x c) l) (λ l. (f.0).0 (subst (Contains ys) (sym (only_one y x l)) c)) (Contains-append_cases before (y ∷ []) x k),
      ),
    )

    none_again : (before xs : List A) → (first_again eq before xs ≡ None) ↔ Fresh before xs
    none_again before [] = (λ _. (tt, λ x c k. contains_none x c), λ _. refl)
    none_again before (y ∷ ys) = none_case before y ys (list_any (eq y) before) refl (none_again (before ++ y ∷ []) ys)

    pub repeats_decide : (xs : List A) → (repeated eq xs ≡ None) ↔ AreDistinct xs
    repeats_decide xs =
        let h = none_again [] xs in
        (λ e. (h.0 e).0, λ d. h.1 (d, λ x c k. contains_none x k))

    -- what is found is met again
    some_case : (before : List A) (y : A) (ys : List A) (x : A) (t : Bool) → list_any (eq y) before ≡ t → AreDistinct before → (AreDistinct (before ++ y ∷ []) → first_again eq (before ++ y ∷ []) ys ≡ Some x → IsMetAgain x ((before ++ y ∷ []) ++ ys)) → cond t (Some y) (first_again eq (before ++ y ∷ []) ys) ≡ Some x → IsMetAgain x (before ++ y ∷ ys)
    some_case before y ys x true e d rest h =
        let q : y ≡ x = cc in
        (before, ys, ap (λ z. before ++ z ∷ ys) q, d, subst (Contains before) q ((found-Decides eq decides y before).0 e))
    some_case before y ys x false e d rest h =
        let fresh : ¬ (Contains before y) = λ k. let r = (found-Decides eq decides y before).1 k in cc in
        subst (IsMetAgain x) (append_assoc before (y ∷ []) ys) (rest (distinct_last before y d fresh) h)

    met_from : (before xs : List A) (x : A) → AreDistinct before → first_again eq before xs ≡ Some x → IsMetAgain x (before ++ xs)
    met_from before [] x d h = cc
    met_from before (y ∷ ys) x d h = some_case before y ys x (list_any (eq y) before) refl d (met_from (before ++ y ∷ []) ys x) h

    met_to : (before front back : List A) (x : A) → AreDistinct (before ++ front) → Contains (before ++ front) x → first_again eq before (front ++ x ∷ back) ≡ Some x
    met_to before [] back x d c =
        let e = (found-Decides eq decides x before).1 (subst (λ l. Contains l x) (append_none before) c) in
        rw e refl
    met_to before (y ∷ front) back x d c =
        let r = met_to (before ++ y ∷ []) front back x (subst AreDistinct (sym (append_assoc before (y ∷ []) front)) d) (subst (λ l. Contains l x) (sym (append_assoc before (y ∷ []) front)) c) in
        later (list_any (eq y) before) refl r
      where
        later : (t : Bool) → list_any (eq y) before ≡ t → first_again eq (before ++ y ∷ []) (front ++ x ∷ back) ≡ Some x → cond t (Some y) (first_again eq (before ++ y ∷ []) (front ++ x ∷ back)) ≡ Some x
        later true e r = absurd (distinct_apart before y front d ((found-Decides eq decides y before).0 e))
        later false e r = r

    pub repeat_is_first : (xs : List A) (x : A) → (repeated eq xs ≡ Some x) ↔ IsMetAgain x xs
    repeat_is_first xs x = (met_from [] xs x tt, λ m. ap (repeated eq) m.2 ∙ met_to [] m.0 m.1 x m.3 m.4)

-- the fault of a table, by its two parts
abbrev fault_of : Option Name → Option CoreType → Option TableFault
fault_of a b = option_or (option_map repeated_function a) (option_map repeated_constructor b)

fault_none : (a : Option Name) (b : Option CoreType) → (fault_of a b ≡ None) ↔ ((a ≡ None) × (b ≡ None))
fault_none None None = (λ _. (refl, refl), λ _. refl)
fault_none None (Some t) = (λ h. cc, λ p. let q = p.1 in cc)
fault_none (Some f) b = (λ h. cc, λ p. let q = p.0 in cc)

fault_function : (a : Option Name) (b : Option CoreType) (f : Name) → (fault_of a b ≡ Some (repeated_function f)) ↔ (a ≡ Some f)
fault_function None None f = (λ h. cc, λ h. cc)
fault_function None (Some t) f = (λ h. cc, λ h. cc)
fault_function (Some g) b f = (λ h. cc, λ h. cc)

fault_constructor : (a : Option Name) (b : Option CoreType) (t : CoreType) → (fault_of a b ≡ Some (repeated_constructor t)) ↔ ((a ≡ None) × (b ≡ Some t))
fault_constructor None None t = (λ h. cc, λ p. let q = p.1 in cc)
fault_constructor None (Some u) t = (λ h. (refl, cc), λ p. let q = p.1 in cc)
fault_constructor (Some g) b t = (λ h. cc, λ p. let q = p.0 in cc)

module _ (ss : List Signature) where
  abbrev again : Option Name
  again = repeated name_eq (function_names ss)

  abbrev again_made : Option CoreType
  again_made = repeated core_eq (filter_map constructed ss)

  pub table_fault_decides : (table_fault ss ≡ None) ↔ (AreDistinct (function_names ss) × AreDistinct (filter_map constructed ss))
  table_fault_decides =
      let h = fault_none again again_made in
      let a = repeats_decide name_eq name_eq-Decides (function_names ss) in
      let b = repeats_decide core_eq core_eq-Decides (filter_map constructed ss) in
      (λ e. let p = h.0 e in (a.0 p.0, b.0 p.1), λ p. h.1 (a.1 p.0, b.1 p.1))

  pub function_fault : (f : Name) → (table_fault ss ≡ Some (repeated_function f)) ↔ IsMetAgain f (function_names ss)
  function_fault f =
      let h = fault_function again again_made f in
      let a = repeat_is_first name_eq name_eq-Decides (function_names ss) f in
      (λ e. a.0 (h.0 e), λ m. h.1 (a.1 m))

  pub constructor_fault : (t : CoreType) → (table_fault ss ≡ Some (repeated_constructor t)) ↔ (AreDistinct (function_names ss) × IsMetAgain t (filter_map constructed ss))
  constructor_fault t =
      let h = fault_constructor again again_made t in
      let a = repeats_decide name_eq name_eq-Decides (function_names ss) in
      let b = repeat_is_first core_eq core_eq-Decides (filter_map constructed ss) t in
      (λ e. let p = h.0 e in (a.0 p.0, b.0 p.1), λ p. h.1 (a.1 p.0, b.1 p.1))
