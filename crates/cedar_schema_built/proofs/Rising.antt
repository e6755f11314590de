-- Lists whose items rise by an order: what stands in them, what is made of them, and that two with the same members are one.
use Rattle.std.proofs.Common.{◌≡◌, ◌&&◌, true, List, [], ◌∷◌, ◌++◌, map, refl, sym, ap, ◌∙◌, ⊎_elim}
use Rattle.std.specs.Prelude.{Contains}
use Rattle.std.specs.Cmp.{IsTotalOrder}
use Rattle.std.specs.List.{flat_map}
use Rattle.std.specs.Ordering.{is_lt}
use Rattle.std.specs.declared.cmp.Ordering.{Ordering}
use Rattle.std.specs.declared.cmp.Ordering.TheVariants.{Less}
use Rattle.std.proofs.lemmas.Cmp.{nat_list_cmp_total, on_total, then_total, tied_itself}
use Rattle.std.proofs.lemmas.List.Elements.{Contains-append_cases}
use Rattle.cedar_expr_model.specs.Name.{name_text}
use Rattle.cedar_expr_model.specs.Uid.{Uid}
use Rattle.cedar_expr_model.specs.UidOrder.{name_cmp, uid_cmp}
use Rattle.cedar_expr_model.specs.Lists.{rises}
use Rattle.cedar_expr_model.proofs.Lists.{both_hold, hold_both, contains_head, contains_tail, contains_cases, contains_none, flat_from}
use Rattle.cedar_expr_model.proofs.Rising.{is_less, less_is}
use Rattle.cedar_schema_model.specs.BagLaws.{HasTwice}

pub name_total : IsTotalOrder name_cmp
name_total = on_total name_text nat_list_cmp_total

pub uid_total : IsTotalOrder uid_cmp
uid_total = then_total (on_total (λ (u : Uid). name_text u.kind) nat_list_cmp_total) (on_total (λ (u : Uid). u.id) nat_list_cmp_total)

-- a list seen by a function rises as it does by the function
pub rises_seen : {A B : Type 0} (by : B → B → Ordering) (f : A → B) (xs : List A) → rises by (map f xs) ≡ rises (λ x y. by (f x) (f y)) xs
rises_seen by f [] = refl
rises_seen by f (x ∷ []) = refl
rises_seen by f (x ∷ y ∷ ys) = ap (λ b. is_lt (by (f x) (f y)) && b) (rises_seen by f (y ∷ ys))

-- and a function that keeps the order makes a rising list of one
pub map_rises : {A B : Type 0} (by : A → A → Ordering) (order : B → B → Ordering) (f : A → B) → ((x y : A) → by x y ≡ Less → order (f x) (f y) ≡ Less) → (xs : List A) → rises by xs ≡ true → rises order (map f xs) ≡ true
map_rises by order f h [] r = refl
map_rises by order f h (x ∷ []) r = refl
map_rises by order f h (x ∷ y ∷ ys) r =
    let p = both_hold (is_lt (by x y)) (rises by (y ∷ ys)) r in
    hold_both (is_lt (order (f x) (f y))) (rises order (map f (y ∷ ys))) (is_less (order (f x) (f y)) (h x y (less_is (by x y) p.0))) (map_rises by order f h (y ∷ ys) p.1)

module _ {A : Type 0} {by : A → A → Ordering} (o : IsTotalOrder by) where
  never_below_itself : (x : A) → by x x ≡ Less → ⊥
  never_below_itself x e = let q = tied_itself o x in cc

  -- the rest of a rising list rises, and the first stands before each of it
  pub rest_rises : (x : A) (xs : List A) → rises by (x ∷ xs) ≡ true → rises by xs ≡ true
  rest_rises x [] r = refl
  rest_rises x (y ∷ ys) r = (both_hold (is_lt (by x y)) (rises by (y ∷ ys)) r).1

  pub below_each : (x : A) (xs : List A) → rises by (x ∷ xs) ≡ true → (y : A) → Contains xs y → by x y ≡ Less
  below_each x [] r y k = absurd (contains_none y k)
  below_each x (z ∷ zs) r y k =
      let p = both_hold (is_lt (by x z)) (rises by (z ∷ zs)) r in
      let first = less_is (by x z) p.0 in
      contains_cases (by x y ≡ Less) z zs y k (λ e. ap (by x) (sym e) ∙ first) (λ m. o.trans x z y first (below_each z zs p.1 y m))

  pub rises_more : (x : A) (xs : List A) → ((y : A) → Contains xs y → by x y ≡ Less) → rises by xs ≡ true → rises by (x ∷ xs) ≡ true
  rises_more x [] h r = refl
  rises_more x (y ∷ ys) h r = hold_both (is_lt (by x y)) (rises by (y ∷ ys)) (is_less (by x y) (h y (contains_head y ys))) r

  -- and none of it stands twice
  pub rises_once : (xs : List A) → rises by xs ≡ true → HasTwice xs → ⊥
  rises_once [] r t = t
  rises_once (x ∷ xs) r t = ⊎_elim (λ k. never_below_itself x (below_each x xs r x k)) (rises_once xs (rest_rises x xs r)) t

  -- one list behind another
  both_rise : (xs ys : List A) → rises by xs ≡ true → rises by ys ≡ true → ((x y : A) → Contains xs x → Contains ys y → by x y ≡ Less) → rises by (xs ++ ys) ≡ true
  both_rise [] ys r s h = s
  both_rise (x ∷ xs) ys r s h =
      rises_more x (xs ++ ys)
      (λ y k. ⊎_elim (below_each x xs r y) (λ m. h x y (contains_head x xs) m) (Contains-append_cases xs ys y k))
      (both_rise xs ys (rest_rises x xs r) s (λ z y k m. h z y (contains_tail x xs z k) m))

  -- rising lists with the same members are one
  head_is : (x y : A) (xs ys : List A) → rises by (x ∷ xs) ≡ true → rises by (y ∷ ys) ≡ true → Contains (y ∷ ys) x → Contains (x ∷ xs) y → x ≡ y
  head_is x y xs ys r s k l =
      contains_cases (x ≡ y) y ys x k (λ e. sym e)
      (λ a. contains_cases (x ≡ y) x xs y l (λ e. e) (λ b. absurd (never_below_itself x (o.trans x y x (below_each x xs r y b) (below_each y ys s x a)))))

  later : (x y z : A) (xs ys : List A) → x ≡ y → rises by (x ∷ xs) ≡ true → Contains xs z → Contains (y ∷ ys) z → Contains ys z
  later x y z xs ys e r k l = contains_cases (Contains ys z) y ys z l (λ q. absurd (never_below_itself x (ap (by x) (e ∙ q) ∙ below_each x xs r z k))) (λ m. m)

  pub same_rising : (xs ys : List A) → rises by xs ≡ true → rises by ys ≡ true → ((z : A) → Contains xs z → Contains ys z) → ((z : A) → Contains ys z → Contains xs z) → xs ≡ ys
  same_rising [] [] r s f g = refl
  same_rising [] (y ∷ ys) r s f g = absurd (contains_none y (g y (contains_head y ys)))
  same_rising (x ∷ xs) [] r s f g = absurd (contains_none x (f x (contains_head x xs)))
  same_rising (x ∷ xs) (y ∷ ys) r s f g =
      let e = head_is x y xs ys r s (f x (contains_head x xs)) (g y (contains_head y ys)) in
      let rest = same_rising xs ys (rest_rises x xs r) (rest_rises y ys s) (λ z k. later x y z xs ys e r k (f z (contains_tail x xs z k))) (λ z k. later y x z ys xs (sym e) s k (g z (contains_tail y ys z k))) in
      λ i. e i ∷ rest i

-- what a function gives of each, one list behind the other
module _ {A B : Type 0} {by : A → A → Ordering} {order : B → B → Ordering} (o : IsTotalOrder by) (p : IsTotalOrder order) (f : A → List B) (keeps : (x y : A) → by x y ≡ Less → (b c : B) → Contains (f x) b → Contains (f y) c → order b c ≡ Less) where
  pub flat_rises : (xs : List A) → rises by xs ≡ true → ((x : A) → Contains xs x → rises order (f x) ≡ true) → rises order (flat_map f xs) ≡ true
  flat_rises [] r each = refl
  flat_rises (x ∷ xs) r each =
      both_rise p (f x) (flat_map f xs) (each x (contains_head x xs)) (flat_rises xs (rest_rises o x xs r) (λ y k. each y (contains_tail x xs y k)))
      (λ b c k m. let y = flat_from f xs c m in keeps x y.0 (below_each o x xs r y.0 y.1) b c k y.2)
