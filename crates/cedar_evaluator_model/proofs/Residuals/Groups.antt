-- Which policies stand in the groups of a response.
use Rattle.std.proofs.Common.{◌≡◌, true, false, List, [], ◌∷◌, refl, sym, ap, ◌∙◌, subst, ◌⊎◌, inl, inr}
use Rattle.std.specs.Prelude.{Option, Some, None, Contains}
use Rattle.std.specs.List.{filter_map, cons_option}
use Rattle.cedar_expr_model.specs.Value.{truth}
use Rattle.cedar_expr_model.specs.Tree.{Tree}
use Rattle.cedar_expr_model.specs.Made.{made_prim}
use Rattle.cedar_expr_model.proofs.Lists.{contains_head, contains_tail, contains_cases, contains_none}
use Rattle.cedar_store_model.specs.Policy.{Policy, Effect, permit, forbid}
use Rattle.cedar_evaluator_model.specs.Scope.{Stop, Left, value_left, residual, stopped}
use Rattle.cedar_evaluator_model.specs.Steps.{truth_left}
use Rattle.cedar_evaluator_model.specs.Response.{Noted, ErrorState, no_error, with_error, noted, of_effect, if_true, if_false, if_residual, group}

-- what a function gives of the items of a list
cons_has : {X : Type 0} (o : Option X) (xs : List X) (x : X) → Contains xs x → Contains (cons_option o xs) x
cons_has None xs x c = c
cons_has (Some y) xs x c = contains_tail y xs x c

pub kept_has : {X Y : Type 0} (f : X → Option Y) (xs : List X) (x : X) (y : Y) → Contains xs x → f x ≡ Some y → Contains (filter_map f xs) y
kept_has f [] x y c e = absurd (contains_none x c)
kept_has f (z ∷ xs) x y c e =
    contains_cases (Contains (filter_map f (z ∷ xs)) y) z xs x c (λ i. subst (λ o. Contains (cons_option o (filter_map f xs)) y) (sym (ap f i ∙ e)) (contains_head y (filter_map f xs)))
    (λ d. cons_has (f z) (filter_map f xs) y (kept_has f xs x y d e))

kept_case : {X Y : Type 0} (f : X → Option Y) (z : X) (xs : List X) (y : Y) (o : Option Y) → f z ≡ o → (Contains (filter_map f xs) y → (x : X) × Contains xs x × (f x ≡ Some y))
    → Contains (cons_option o (filter_map f xs)) y → (x : X) × Contains (z ∷ xs) x × (f x ≡ Some y)
kept_case f z xs y None e rest c = let k = rest c in (k.0, contains_tail z xs k.0 k.1, k.2)
kept_case {X} f z xs y (Some a) e rest c =
    contains_cases ((x : X) × Contains (z ∷ xs) x × (f x ≡ Some y)) a (filter_map f xs) y c (λ i. (z, contains_head z xs, e ∙ ap Some i))
    (λ d. let k = rest d in (k.0, contains_tail z xs k.0 k.1, k.2))

pub kept_from : {X Y : Type 0} (f : X → Option Y) (xs : List X) (y : Y) → Contains (filter_map f xs) y → (x : X) × Contains xs x × (f x ≡ Some y)
kept_from f [] y c = absurd (contains_none y c)
kept_from f (z ∷ xs) y c = kept_case f z xs y (f z) refl (kept_from f xs y) c

-- policies of an effect
effect_same : {A : Type 0} (e d : Effect) (o : Option A) → d ≡ e → of_effect e d o ≡ o
effect_same permit permit o h = refl
effect_same forbid forbid o h = refl
effect_same permit forbid o h = cc
effect_same forbid permit o h = cc

effect_only : {A : Type 0} (e d : Effect) (o : Option A) (a : A) → of_effect e d o ≡ Some a → (d ≡ e) × (o ≡ Some a)
effect_only permit permit o a h = (refl, h)
effect_only forbid forbid o a h = (refl, h)
effect_only permit forbid o a h = cc
effect_only forbid permit o a h = cc

pub group_has : {A : Type 0} (e : Effect) (takes : Policy → Option A) (ps : List Policy) (p : Policy) (a : A) → Contains ps p → p.effect ≡ e → takes p ≡ Some a → Contains (group e takes ps) a
group_has e takes ps p a c h t = kept_has (λ p. of_effect e p.effect (takes p)) ps p a c (effect_same e p.effect (takes p) h ∙ t)

pub group_from : {A : Type 0} (e : Effect) (takes : Policy → Option A) (ps : List Policy) (a : A) → Contains (group e takes ps) a
    → (p : Policy) × Contains ps p × (p.effect ≡ e) × (takes p ≡ Some a)
group_from e takes ps a c =
    let k = kept_from (λ p. of_effect e p.effect (takes p)) ps a c in
    let r = effect_only e (k.0).effect (takes k.0) a k.2 in
    (k.0, k.1, r.0, r.1)

-- what each group takes of a verdict
pub true_taken : (p : Policy) (l : Left) → l ≡ truth_left true → if_true p l ≡ Some (noted p)
true_taken p l e = ap (if_true p) e

pub residual_taken : (p : Policy) (l : Left) (r : Tree) → l ≡ residual r → if_residual p l ≡ Some (noted p, r)
residual_taken p l r e = ap (if_residual p) e

pub true_only : (p : Policy) (l : Left) (n : Noted) → if_true p l ≡ Some n → (l ≡ truth_left true) × (n ≡ noted p)
true_only p (value_left (made_prim (truth true))) n h = let e : n ≡ noted p = cc in (refl, e)
true_only p (value_left m) n h = cc
true_only p (residual r) n h = cc
true_only p (stopped s) n h = cc

pub residual_only : (p : Policy) (l : Left) (x : Noted × Tree) → if_residual p l ≡ Some x → (l ≡ residual x.1) × (x.0 ≡ noted p)
residual_only p (residual r) x h = let e : (noted p, r) ≡ x = cc in (ap (λ y. residual y.1) e, ap (λ y. y.0) (sym e))
residual_only p (value_left m) x h = cc
residual_only p (stopped s) x h = cc

-- false, or it stopped
abbrev pub IsFalse : Left → Type 0
IsFalse l = (l ≡ truth_left false) ⊎ ((s : Stop) × (l ≡ stopped s))

pub false_only : (p : Policy) (l : Left) (x : Noted × ErrorState) → if_false p l ≡ Some x → IsFalse l × (x.0 ≡ noted p)
false_only p (value_left (made_prim (truth false))) x h = let e : (noted p, no_error) ≡ x = cc in (inl refl, ap (λ y. y.0) (sym e))
false_only p (value_left m) x h = cc
false_only p (residual r) x h = cc
false_only p (stopped s) x h = let e : (noted p, with_error) ≡ x = cc in (inr (s, refl), ap (λ y. y.0) (sym e))

pub false_taken : (p : Policy) (l : Left) → IsFalse l → (x : Noted × ErrorState) × (if_false p l ≡ Some x) × (x.0 ≡ noted p)
false_taken p l (inl e) = ((noted p, no_error), ap (if_false p) e, refl)
false_taken p l (inr (s, e)) = ((noted p, with_error), ap (if_false p) e, refl)
