-- Tests of the subexpressions of an expression, by its parts; and what holds of each unknown, by recursion on the expression.
use Rattle.std.proofs.Common.{◌≡◌, Bool, true, false, ◌||◌, List, [], ◌∷◌, ◌++◌, Option, Some, None, Contains, refl, sym, ap, ◌∙◌, subst, ⊎_elim}
use Rattle.std.specs.Prelude.{◌↔◌}
use Rattle.std.specs.List.{list_all, list_any, filter_map}
use Rattle.std.specs.Option.{option_or}
use Rattle.std.proofs.lemmas.List.Elements.{filter_map-append, Contains-append_left, Contains-append_right, Contains-append_cases}
use Rattle.std.proofs.lemmas.List.Folds.{list_any-append, list_all-append}
use Rattle.cedar_expr_model.specs.Name.{Text}
use Rattle.cedar_expr_model.specs.Lists.{first_found}
use Rattle.cedar_expr_model.specs.Tree.{CoreType, Tree, lit, var, slot, unknown, choice, both, either, unary, binary, call, get_attr, has_attr, has_path, like, is_type, set_literal, record_literal, Trees, no_trees, tree, TreeFields, no_tree_fields, tree_field}
use Rattle.cedar_expr_model.specs.Unknowns.{EachUnknown}
use Rattle.cedar_expr_model.specs.Parts.{subexpressions, subexpressions_among, subexpressions_in_fields, Unknown, unknown_here}
use Rattle.cedar_expr_model.proofs.Lists.{both_hold, hold_both, contains_head, contains_tail, contains_cases, contains_none}

-- a test that all items of two lists pass
pub all_join : {X : Type 0} (p : X → Bool) (xs ys : List X) → list_all p xs ≡ true → list_all p ys ≡ true → list_all p (xs ++ ys) ≡ true
all_join p xs ys h k = list_all-append p xs ys ∙ hold_both _ _ h k

pub all_split : {X : Type 0} (p : X → Bool) (xs ys : List X) → list_all p (xs ++ ys) ≡ true → (list_all p xs ≡ true) × (list_all p ys ≡ true)
all_split p xs ys h = both_hold _ _ (sym (list_all-append p xs ys) ∙ h)

-- a test that no item of two lists passes
neither : (a b : Bool) → a ≡ false → b ≡ false → (a || b) ≡ false
neither true b e f = cc
neither false b e f = f

pub none_join : {X : Type 0} (p : X → Bool) (xs ys : List X) → list_any p xs ≡ false → list_any p ys ≡ false → list_any p (xs ++ ys) ≡ false
none_join p xs ys h k = list_any-append p xs ys ∙ neither _ _ h k

-- a function finds nothing exactly where it gives nothing of any item
or_none : {A : Type 0} (a b : Option A) → a ≡ None → b ≡ None → option_or a b ≡ None
or_none None b e f = f
or_none (Some x) b e f = cc

both_none : {A : Type 0} (a b : Option A) → option_or a b ≡ None → (a ≡ None) × (b ≡ None)
both_none None b e = (refl, e)
both_none (Some x) b e = cc

pub found_none : {A B : Type 0} (f : A → Option B) (xs : List A) → (first_found f xs ≡ None) ↔ ((x : A) → Contains xs x → f x ≡ None)
found_none f [] = (λ e x c. absurd (contains_none x c), λ h. refl)
found_none f (y ∷ ys) =
    let rest = found_none f ys in (
      λ e x c. let p = both_none (f y) (first_found f ys) e in contains_cases (f x ≡ None) y ys x c (λ q. ap f (sym q) ∙ p.0) (rest.0 p.1 x),
      λ h. or_none (f y) (first_found f ys) (h y (contains_head y ys)) (rest.1 (λ x c. h x (contains_tail y ys x c))),
    )

pub found_none_join : {A B : Type 0} (f : A → Option B) (xs ys : List A) → first_found f xs ≡ None → first_found f ys ≡ None → first_found f (xs ++ ys) ≡ None
found_none_join f [] ys e k = k
found_none_join f (x ∷ xs) ys e k =
    let p = both_none (f x) (first_found f xs) e in
    or_none (f x) (first_found f (xs ++ ys)) p.0 (found_none_join f xs ys p.1 k)

-- what holds of each unknown, by recursion on the expression
abbrev mutual
  pub EachIn : (Text → Option CoreType → Type 0) → Tree → Type 0
  EachIn P (lit p) = Unit {0}
  EachIn P (var x) = Unit {0}
  EachIn P (slot s) = Unit {0}
  EachIn P (unknown n a) = P n a
  EachIn P (choice t a b) = EachIn P t × EachIn P a × EachIn P b
  EachIn P (both a b) = EachIn P a × EachIn P b
  EachIn P (either a b) = EachIn P a × EachIn P b
  EachIn P (unary o a) = EachIn P a
  EachIn P (binary o a b) = EachIn P a × EachIn P b
  EachIn P (call f ts) = EachAmong P ts
  EachIn P (get_attr t a) = EachIn P t
  EachIn P (has_attr t a) = EachIn P t
  EachIn P (has_path t a bs) = EachIn P t
  EachIn P (like t p) = EachIn P t
  EachIn P (is_type t n) = EachIn P t
  EachIn P (set_literal ts) = EachAmong P ts
  EachIn P (record_literal fs) = EachInFields P fs

  pub EachAmong : (Text → Option CoreType → Type 0) → Trees → Type 0
  EachAmong P no_trees = Unit {0}
  EachAmong P (tree t ts) = EachIn P t × EachAmong P ts

  pub EachInFields : (Text → Option CoreType → Type 0) → TreeFields → Type 0
  EachInFields P no_tree_fields = Unit {0}
  EachInFields P (tree_field a t fs) = EachIn P t × EachInFields P fs

-- that a property holds of each unknown in a list of expressions
module _ (P : Unknown → Type 0) where
  abbrev At : Text → Option CoreType → Type 0
  At n a = P (record { name = n; annotation = a })

  abbrev Each : List Tree → Type 0
  Each ts = (u : Unknown) → Contains (filter_map unknown_here ts) u → P u

  each_none : Each []
  each_none u h = absurd (contains_none u h)

  each_two : {F G : Type 0} (xs ys : List Tree) → F ↔ Each xs → G ↔ Each ys → (F × G) ↔ Each (xs ++ ys)
  each_two xs ys h k =
      let e = filter_map-append unknown_here xs ys in (
        λ p u c. ⊎_elim (h.0 p.0 u) (k.0 p.1 u) (Contains-append_cases (filter_map unknown_here xs) (filter_map unknown_here ys) u (subst (λ l. Contains l u) e c)),
        λ f. (
          h.1 (λ u c. f u (subst (λ l. Contains l u) (sym e) (Contains-append_left (filter_map unknown_here xs) (filter_map unknown_here ys) u c))),
          k.1 (λ u c. f u (subst (λ l. Contains l u) (sym e) (Contains-append_right (filter_map unknown_here xs) (filter_map unknown_here ys) u c))),
        ),
      )

  each_three : {F G H : Type 0} (xs ys zs : List Tree) → F ↔ Each xs → G ↔ Each ys → H ↔ Each zs → (F × G × H) ↔ Each (xs ++ (ys ++ zs))
  each_three xs ys zs f g h =
      let d = each_two xs (ys ++ zs) f (each_two ys zs g h) in
      (λ p. d.0 (p.0, (p.1, p.2)), λ e. let q = d.1 e in (q.0, (q.1).0, (q.1).1))

  each_one : (n : Text) (a : Option CoreType) → At n a ↔ Each (unknown n a ∷ [])
  each_one n a =
      let here : Unknown = record { name = n; annotation = a } in
      (λ p u c. contains_cases (P u) here [] u c (λ e. subst P e p) (λ k. absurd (contains_none u k)), λ f. f here (contains_head here []))

  mutual
    listed : (t : Tree) → EachIn At t ↔ Each (subexpressions t)
    listed (lit p) = (λ _. each_none, λ _. tt)
    listed (var x) = (λ _. each_none, λ _. tt)
    listed (slot s) = (λ _. each_none, λ _. tt)
    listed (unknown n a) = each_one n a
    listed (choice t a b) = each_three (subexpressions t) (subexpressions a) (subexpressions b) (listed t) (listed a) (listed b)
    listed (both a b) = each_two (subexpressions a) (subexpressions b) (listed a) (listed b)
    listed (either a b) = each_two (subexpressions a) (subexpressions b) (listed a) (listed b)
    listed (unary o a) = listed a
    listed (binary o a b) = each_two (subexpressions a) (subexpressions b) (listed a) (listed b)
    listed (call f ts) = listed_among ts
    listed (get_attr t a) = listed t
    listed (has_attr t a) = listed t
    listed (has_path t a bs) = listed t
    listed (like t p) = listed t
    listed (is_type t n) = listed t
    listed (set_literal ts) = listed_among ts
    listed (record_literal fs) = listed_in_fields fs

    listed_among : (ts : Trees) → EachAmong At ts ↔ Each (subexpressions_among ts)
    listed_among no_trees = (λ _. each_none, λ _. tt)
    listed_among (tree t ts) = each_two (subexpressions t) (subexpressions_among ts) (listed t) (listed_among ts)

    listed_in_fields : (fs : TreeFields) → EachInFields At fs ↔ Each (subexpressions_in_fields fs)
    listed_in_fields no_tree_fields = (λ _. each_none, λ _. tt)
    listed_in_fields (tree_field a t fs) = each_two (subexpressions t) (subexpressions_in_fields fs) (listed t) (listed_in_fields fs)

pub each_in : (P : Text → Option CoreType → Type 0) (t : Tree) → EachUnknown P t ↔ EachIn P t
each_in P t = let h = listed (λ u. P u.name u.annotation) t in (h.1, h.0)
