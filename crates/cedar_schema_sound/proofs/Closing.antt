-- Whether what descends from each has its own among the same: it is so of one where it is so of one below it, and of what is not below that.
use Rattle.std.proofs.Common.{◌≡◌, ◌<◌, ℕ, zero, suc, List, [], ◌∷◌, length, map, Bool, true, false, cond, Option, Some, None, option_map, refl, sym, ap, ◌∙◌, subst, arith}
use Rattle.std.specs.Prelude.{Contains, find, is_some, is_none}
use Rattle.std.specs.Bool.{Decides}
use Rattle.std.specs.List.{list_any, list_all}
use Rattle.std.specs.Option.{option_or, option_map_or}
use Rattle.cedar_expr_model.specs.Lists.{first_found}
use Rattle.cedar_expr_model.proofs.Lists.{contains_head, contains_tail, contains_cases, contains_none, found-Decides, all_from, all_each}
use Rattle.cedar_expr_model.specs.Name.{Name, name_eq}
use Rattle.cedar_expr_model.specs.Uid.{Uid, uid_eq}
use Rattle.cedar_expr_model.proofs.Equality.{name_eq-Decides, uid_eq-Decides}
use Rattle.cedar_schema_model.specs.Kept.{KeptType, KeptAction, Kept, kept_type, kept_action}
use Rattle.cedar_schema_model.specs.Unsound.{Unsound, unless, undeclared_type, undeclared_action, type_left_out, action_left_out, type_among, type_below_fault, action_among, action_below_fault}
use Rattle.cedar_schema_sound.specs.Closed.{is_type_closed, IsTypeBelow, IsTypeClosedAfter, is_action_closed, IsActionBelow, IsActionClosedAfter}

pub none_is : {X : Type 0} (o : Option X) → is_none o ≡ true → o ≡ None
none_is None h = refl
none_is (Some x) h = cc

-- where nothing is found, nothing is found of any
none_first : {Y : Type 0} (o p : Option Y) → is_none (option_or o p) ≡ true → (is_none o ≡ true) × (is_none p ≡ true)
none_first None p h = (refl, h)
none_first (Some y) p h = cc

first_none : {Y : Type 0} (o p : Option Y) → is_none o ≡ true → is_none p ≡ true → is_none (option_or o p) ≡ true
first_none None p h k = k
first_none (Some y) p h k = cc

pub none_each : {X Y : Type 0} (f : X → Option Y) (xs : List X) → is_none (first_found f xs) ≡ true → (x : X) → Contains xs x → is_none (f x) ≡ true
none_each f [] h x c = absurd (contains_none x c)
none_each f (y ∷ ys) h x c =
    let n = none_first (f y) (first_found f ys) h in
    contains_cases (is_none (f x) ≡ true) y ys x c (λ s. ap (λ z. is_none (f z)) (sym s) ∙ n.0) (none_each f ys n.1 x)

pub none_from : {X Y : Type 0} (f : X → Option Y) (xs : List X) → ((x : X) → Contains xs x → is_none (f x) ≡ true) → is_none (first_found f xs) ≡ true
none_from f [] h = refl
none_from f (y ∷ ys) h = first_none (f y) (first_found f ys) (h y (contains_head y ys)) (none_from f ys (λ x c. h x (contains_tail y ys x c)))

-- what is found by a test is in the list
found_at : {X : Type 0} (p : X → Bool) (y : X) (ys : List X) (x : X) (b : Bool) → cond b (Some y) (find p ys) ≡ Some x → (find p ys ≡ Some x → Contains ys x) → Contains (y ∷ ys) x
found_at p y ys x true h rest = let e : y ≡ x = cc in subst (Contains (y ∷ ys)) e (contains_head y ys)
found_at p y ys x false h rest = contains_tail y ys x (rest h)

find_in : {X : Type 0} (p : X → Bool) (xs : List X) (x : X) → find p xs ≡ Some x → Contains xs x
find_in p [] x h = absurd (cc)
find_in p (y ∷ ys) x h = found_at p y ys x (p y) h (find_in p ys x)

-- Of what is left of a list, when one more was taken of it: it is in the whole, and what was found in it is found.
module _ {X K : Type 0} (of : X → K) (left later : List X) (x : X) (is : left ≡ x ∷ later) where
  pub this_one : (whole : List K) → ((k : K) → Contains (map of left) k → Contains whole k) → Contains whole (of x)
  this_one whole h = h (of x) (subst (λ xs. Contains (map of xs) (of x)) (sym is) (contains_head (of x) (map of later)))

  pub rest_after : (whole : List K) → ((k : K) → Contains (map of left) k → Contains whole k) → (k : K) → Contains (map of later) k → Contains whole k
  rest_after whole h k c = h k (subst (λ xs. Contains (map of xs) k) (sym is) (contains_tail (of x) (map of later) k c))

  pub searched_on : {Y : Type 0} (f : K → Option Y) (whole : Option Y) → first_found f (map of left) ≡ whole → f (of x) ≡ None → first_found f (map of later) ≡ whole
  searched_on f whole h e = ap (λ o. option_or o (first_found f (map of later))) (sym e) ∙ ap (λ xs. first_found f (map of xs)) (sym is) ∙ h

  pub next_is : (p : K → Bool) → list_all p (map of left) ≡ true → p (of x) ≡ true
  next_is p h = all_each p (map of left) h (of x) (subst (λ xs. Contains (map of xs) (of x)) (sym is) (contains_head (of x) (map of later)))

  pub rest_are : (p : K → Bool) → list_all p (map of left) ≡ true → list_all p (map of later) ≡ true
  rest_are p h = all_from p (map of later) (λ k c. all_each p (map of left) h k (subst (λ xs. Contains (map of xs) k) (sym is) (contains_tail (of x) (map of later) k c)))

  pub all_but : (P : K → Type 0) → P (of x) → ((k : K) → Contains (map of later) k → P k) → (k : K) → Contains (map of left) k → P k
  all_but P h rest k c = contains_cases (P k) (of x) (map of later) k (subst (λ xs. Contains (map of xs) k) is c) (λ e. subst P e h) (rest k)

-- an option that is made of another has something where that has
pub some_is_some : {X Y : Type 0} (f : X → Y) (o : Option X) (p : Option Y) → option_map f o ≡ p → is_some o ≡ true → is_none p ≡ false
some_is_some f None p h e = cc
some_is_some f (Some x) p h e = ap is_none (sym h)

pub none_is_none : {X Y : Type 0} (f : X → Y) (o : Option X) (p : Option Y) → option_map f o ≡ p → is_some o ≡ false → p ≡ None
none_is_none f None p h e = sym h
none_is_none f (Some x) p h e = cc

module _ {K A : Type 0} (eq : K → K → Bool) (decides : (x y : K) → Decides (eq x y) (x ≡ y)) (below : A → List K) (left : A → K → Unsound) (undeclared : K → Unsound) (get : K → Option A) where
  abbrev among : A → K → Option Unsound
  among t m = unless (list_any (eq m) (below t)) (left t m)

  abbrev at : A → Option A → Unsound → Option Unsound
  at t o f = option_map_or (λ u. first_found (among t) (below u)) o (Some f)

  abbrev fault : A → K → Option Unsound
  fault t n = at t (get n) (undeclared n)

  abbrev closed : A → Bool
  closed t = is_none (first_found (fault t) (below t))

  unless_none : (b : Bool) (f : Unsound) → is_none (unless b f) ≡ true → b ≡ true
  unless_none true f h = refl
  unless_none false f h = cc

  none_unless : (b : Bool) (f : Unsound) → b ≡ true → is_none (unless b f) ≡ true
  none_unless true f h = refl
  none_unless false f h = cc

  -- What descends from one below need not be looked at, where that is closed and what descends from it is among the same.
  pub passed_over : (t m : A) → closed m ≡ true → is_none (first_found (among t) (below m)) ≡ true → (n : K) → list_any (eq n) (below m) ≡ true → fault t n ≡ None
  passed_over t m h w n a = none_is (fault t n) (go (get n) (none_each (fault m) (below m) h n ((found-Decides eq decides n (below m)).0 a)))
    where
      go : (o : Option A) → is_none (at m o (undeclared n)) ≡ true → is_none (at t o (undeclared n)) ≡ true
      go None e = cc
      go (Some u) e =
          none_from (among t) (below u)
          (λ x c. none_each (among t) (below m) w x ((found-Decides eq decides x (below m)).0 (unless_none (list_any (eq x) (below m)) (left m x) (none_each (among m) (below u) e x c))))

  -- What descends from one below is among the same where all is.
  pub kept_out : (t m : A) (n : K) → Contains (below t) n → get n ≡ Some m → is_none (first_found (among t) (below m)) ≡ false → closed t ≡ false
  kept_out t m n c g w = go (closed t) refl
    where
      go : (b : Bool) → closed t ≡ b → closed t ≡ false
      go false e = e
      go true e = let k = none_each (fault t) (below t) e n c in let f = ap (λ o. is_none (at t o (undeclared n))) (sym g) ∙ k in cc

  -- Nothing is wrong with any where all is closed.
  pub amiss_at : (t : A) (n : K) → Contains (below t) n → is_none (fault t n) ≡ false → closed t ≡ false
  amiss_at t n c w = go (closed t) refl
    where
      go : (b : Bool) → closed t ≡ b → closed t ≡ false
      go false e = e
      go true e = let k = none_each (fault t) (below t) e n c in cc

  -- Where each is closed if those are from which fewer descend, each is closed.
  pub each_closed : (as_ : List A) → ((t : A) → Contains as_ t → ((u : A) → Contains as_ u → length (below u) < length (below t) → closed u ≡ true) → closed t ≡ true) → list_all closed as_ ≡ true
  each_closed as_ after = all_from closed as_ (λ t c. up (suc (length (below t))) t c (omega arith))
    where
      up : (n : ℕ) (t : A) → Contains as_ t → length (below t) < n → closed t ≡ true
      up zero t c l = absurd (omega (arith, l))
      up (suc n) t c l = after t c (λ u d m. up n u d (omega (arith, l, m)))

  -- Where one isn't closed, not all are.
  pub not_closed : (as_ : List A) (t : A) → Contains as_ t → closed t ≡ false → list_all closed as_ ≡ false
  not_closed as_ t c h = go (list_all closed as_) refl
    where
      go : (b : Bool) → list_all closed as_ ≡ b → list_all closed as_ ≡ false
      go false e = e
      go true e = let k = all_each closed as_ e t c in cc

-- Entity types, by their names.
module _ (k : Kept) where
  abbrev type_left : KeptType → Name → Unsound
  type_left t m = type_left_out t.name m

  abbrev types_below : KeptType → List Name
  types_below t = t.descendants

  pub type_kept : (t u : KeptType) → IsTypeBelow k t u → Contains k.types u
  type_kept t u b = find_in (λ (v : KeptType). name_eq b.name v.name) k.types u b.kept

  pub type_passed_over : (t u : KeptType) → is_type_closed k u ≡ true → first_found (type_among t) u.descendants ≡ None → (n : Name) → list_any (name_eq n) u.descendants ≡ true → type_below_fault k t n ≡ None
  type_passed_over t u h w = passed_over name_eq name_eq-Decides types_below type_left undeclared_type (kept_type k) t u h (ap is_none w)

  pub type_kept_out : (t u : KeptType) → IsTypeBelow k t u → is_none (first_found (type_among t) u.descendants) ≡ false → is_type_closed k t ≡ false
  type_kept_out t u b = kept_out name_eq name_eq-Decides types_below type_left undeclared_type (kept_type k) t u b.name b.among b.kept

  pub type_amiss_at : (t : KeptType) (n : Name) → Contains t.descendants n → is_none (type_below_fault k t n) ≡ false → is_type_closed k t ≡ false
  type_amiss_at = amiss_at name_eq name_eq-Decides types_below type_left undeclared_type (kept_type k)

  pub each_type_closed : ((t : KeptType) → Contains k.types t → IsTypeClosedAfter k t) → list_all (is_type_closed k) k.types ≡ true
  each_type_closed = each_closed name_eq name_eq-Decides types_below type_left undeclared_type (kept_type k) k.types

  pub type_not_closed : (t : KeptType) → Contains k.types t → is_type_closed k t ≡ false → list_all (is_type_closed k) k.types ≡ false
  type_not_closed = not_closed name_eq name_eq-Decides types_below type_left undeclared_type (kept_type k) k.types

-- Actions, by their uids.
module _ (k : Kept) where
  abbrev action_left : KeptAction → Uid → Unsound
  action_left a v = action_left_out a.uid v

  abbrev actions_below : KeptAction → List Uid
  actions_below a = a.descendants

  pub action_kept : (a b : KeptAction) → IsActionBelow k a b → Contains k.actions b
  action_kept a b h = find_in (λ (v : KeptAction). uid_eq h.uid v.uid) k.actions b h.kept

  pub action_passed_over : (a b : KeptAction) → is_action_closed k b ≡ true → first_found (action_among a) b.descendants ≡ None → (u : Uid) → list_any (uid_eq u) b.descendants ≡ true → action_below_fault k a u ≡ None
  action_passed_over a b h w = passed_over uid_eq uid_eq-Decides actions_below action_left undeclared_action (kept_action k) a b h (ap is_none w)

  pub action_kept_out : (a b : KeptAction) → IsActionBelow k a b → is_none (first_found (action_among a) b.descendants) ≡ false → is_action_closed k a ≡ false
  action_kept_out a b h = kept_out uid_eq uid_eq-Decides actions_below action_left undeclared_action (kept_action k) a b h.uid h.among h.kept

  pub action_amiss_at : (a : KeptAction) (u : Uid) → Contains a.descendants u → is_none (action_below_fault k a u) ≡ false → is_action_closed k a ≡ false
  action_amiss_at = amiss_at uid_eq uid_eq-Decides actions_below action_left undeclared_action (kept_action k)

  pub each_action_closed : ((a : KeptAction) → Contains k.actions a → IsActionClosedAfter k a) → list_all (is_action_closed k) k.actions ≡ true
  each_action_closed = each_closed uid_eq uid_eq-Decides actions_below action_left undeclared_action (kept_action k) k.actions

  pub action_not_closed : (a : KeptAction) → Contains k.actions a → is_action_closed k a ≡ false → list_all (is_action_closed k) k.actions ≡ false
  action_not_closed = not_closed uid_eq uid_eq-Decides actions_below action_left undeclared_action (kept_action k) k.actions
