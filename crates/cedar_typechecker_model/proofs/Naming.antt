-- What a policy names, and the tests of it.
use Rattle.std.proofs.Common.{◌≡◌, ◌↔◌, ◌⊎◌, inl, inr, ⊎_elim, Bool, true, List, [], ◌∷◌, ◌++◌, map, Option, Some, None, refl, sym, ap, ◌∙◌, subst, Decides}
use Rattle.std.specs.Prelude.{Contains, option_to_list}
use Rattle.std.specs.List.{list_all, filter_map}
use Rattle.std.proofs.lemmas.List.Elements.{Contains-append_left, Contains-append_right, Contains-append_cases}
use Rattle.cedar_expr_model.specs.Name.{Name}
use Rattle.cedar_expr_model.specs.Uid.{Uid}
use Rattle.cedar_expr_model.specs.Value.{entity}
use Rattle.cedar_expr_model.specs.Tree.{Tree, lit, is_type}
use Rattle.cedar_expr_model.specs.Parts.{subexpressions, uid_here}
use Rattle.cedar_expr_model.proofs.Lists.{all_each, all_from, map_has, map_from, contains_head, contains_none, contains_cases, contains_tail}
use Rattle.cedar_store_model.specs.Policy.{Policy, condition}
use Rattle.cedar_schema_model.specs.Schema.{Schema}
use Rattle.cedar_typechecker_model.specs.ScopeRules.{kind_here, policy_uids, policy_kinds, NamesUid, NamesType, is_known_type, is_no_unknown_action, is_no_unknown_member, NamesKnownTypes, NamesKnownActions, NamesKnownMembers, names_known_types, names_known_actions, names_known_members}
use Rattle.cedar_typechecker_model.proofs.Named.{uids_of, kinds_of}

-- what a partial function gives of the items of a list
step_has : {X Y : Type 0} (f : X → Option Y) (x : X) (xs : List X) (y : Y) → (o : Option Y) → f x ≡ o → (o ≡ Some y) ⊎ Contains (filter_map f xs) y → Contains (filter_map f (x ∷ xs)) y
step_has f x xs y None e (inl k) = cc
step_has f x xs y (Some z) e (inl k) = let q : z ≡ y = cc in rw e (subst (λ w. Contains (w ∷ filter_map f xs) y) (sym q) (contains_head y (filter_map f xs)))
step_has f x xs y None e (inr k) = rw e k
step_has f x xs y (Some z) e (inr k) = rw e (contains_tail z (filter_map f xs) y k)

step_from : {X Y : Type 0} (f : X → Option Y) (x : X) (xs : List X) (y : Y) → (o : Option Y) → f x ≡ o → Contains (filter_map f (x ∷ xs)) y → (f x ≡ Some y) ⊎ Contains (filter_map f xs) y
step_from f x xs y None e h = inr (rw e at h)
step_from f x xs y (Some z) e h = contains_cases ((f x ≡ Some y) ⊎ Contains (filter_map f xs) y) z (filter_map f xs) y (rw e at h) (λ q. inl (e ∙ ap Some q)) (λ k. inr k)

given_has : {X Y : Type 0} (f : X → Option Y) (xs : List X) (x : X) (y : Y) → Contains xs x → f x ≡ Some y → Contains (filter_map f xs) y
given_has f [] x y h e = absurd (contains_none x h)
given_has f (z ∷ xs) x y h e = contains_cases (Contains (filter_map f (z ∷ xs)) y) z xs x h
    (λ q. step_has f z xs y (f z) refl (inl (ap f q ∙ e)))
    (λ k. step_has f z xs y (f z) refl (inr (given_has f xs x y k e)))

given_from : {X Y : Type 0} (f : X → Option Y) (xs : List X) (y : Y) → Contains (filter_map f xs) y → (x : X) × Contains xs x × (f x ≡ Some y)
given_from f [] y h = absurd (contains_none y h)
given_from f (z ∷ xs) y h = ⊎_elim (λ e. (z, contains_head z xs, e)) (λ k. let r = given_from f xs y k in (r.0, contains_tail z xs r.0 r.1, r.2)) (step_from f z xs y (f z) refl h)

uid_there : (t : Tree) (u : Uid) → uid_here t ≡ Some u → t ≡ lit (entity u)
uid_there (lit (entity v)) u e = let q : v ≡ u = cc in ap (λ w. lit (entity w)) q
uid_there t u e = cc

kind_there : (t : Tree) (n : Name) → kind_here t ≡ Some n → (e : Tree) × (t ≡ is_type e n)
kind_there (is_type e m) n h = let q : m ≡ n = cc in (e, ap (is_type e) q)
kind_there t n h = cc

uids_are_written : (t : Tree) (u : Uid) → Contains (uids_of t) u ↔ Contains (subexpressions t) (lit (entity u))
uids_are_written t u = (
  λ h. let r = given_from uid_here (subexpressions t) u h in subst (Contains (subexpressions t)) (uid_there r.0 u r.2) r.1,
  λ h. given_has uid_here (subexpressions t) (lit (entity u)) u h refl,
)

kinds_are_tested : (t : Tree) (n : Name) → Contains (kinds_of t) n ↔ ((e : Tree) × Contains (subexpressions t) (is_type e n))
kinds_are_tested t n = (
  λ h. let r = given_from kind_here (subexpressions t) n h in let k = kind_there r.0 n r.2 in (k.0, subst (Contains (subexpressions t)) k.1 r.1),
  λ h. given_has kind_here (subexpressions t) (is_type h.0 n) n h.1 refl,
)

bound_is : (o : Option Uid) (u : Uid) → Contains (option_to_list o) u ↔ (o ≡ Some u)
bound_is None u = (λ h. absurd (contains_none u h), λ e. cc)
bound_is (Some v) u = (
  λ h. contains_cases (Some v ≡ Some u) v [] u h (λ q. ap Some q) (λ k. absurd (contains_none u k)),
  λ e. let q : v ≡ u = cc in subst (λ w. Contains (w ∷ []) u) (sym q) (contains_head u []),
)

pub uids_are_named : (p : Policy) (u : Uid) → Contains (policy_uids p) u ↔ NamesUid p u
uids_are_named p u = (forward, back)
  where
    a : Contains (uids_of (condition p)) u ↔ Contains (subexpressions (condition p)) (lit (entity u))
    a = uids_are_written (condition p) u

    forward : Contains (policy_uids p) u → NamesUid p u
    forward h = ⊎_elim (λ k. inl (a.0 k)) (λ k. inr (⊎_elim (λ m. inl ((bound_is p.bindings.principal u).0 m)) (λ m. inr ((bound_is p.bindings.resource u).0 m)) (Contains-append_cases (option_to_list p.bindings.principal) (option_to_list p.bindings.resource) u k))) (Contains-append_cases (uids_of (condition p)) (option_to_list p.bindings.principal ++ option_to_list p.bindings.resource) u h)

    back : NamesUid p u → Contains (policy_uids p) u
    back (inl k) = Contains-append_left (uids_of (condition p)) _ u (a.1 k)
    back (inr (inl e)) = Contains-append_right (uids_of (condition p)) _ u (Contains-append_left (option_to_list p.bindings.principal) (option_to_list p.bindings.resource) u ((bound_is p.bindings.principal u).1 e))
    back (inr (inr e)) = Contains-append_right (uids_of (condition p)) _ u (Contains-append_right (option_to_list p.bindings.principal) (option_to_list p.bindings.resource) u ((bound_is p.bindings.resource u).1 e))

abbrev kind_of : Uid → Name
kind_of u = u.kind

pub types_are_named : (p : Policy) (n : Name) → Contains (policy_kinds p) n ↔ NamesType p n
types_are_named p n = (forward, back)
  where
    forward : Contains (policy_kinds p) n → NamesType p n
    forward h = ⊎_elim (λ k. let r = map_from kind_of (policy_uids p) n k in inl (r.0, (uids_are_named p r.0).0 r.1, sym r.2)) (λ k. inr ((kinds_are_tested (condition p) n).0 k)) (Contains-append_cases (map kind_of (policy_uids p)) (kinds_of (condition p)) n h)

    back : NamesType p n → Contains (policy_kinds p) n
    back (inl k) = Contains-append_left (map kind_of (policy_uids p)) (kinds_of (condition p)) n (subst (Contains (map kind_of (policy_uids p))) (sym k.2) (map_has kind_of (policy_uids p) k.0 ((uids_are_named p k.0).1 k.1)))
    back (inr k) = Contains-append_right (map kind_of (policy_uids p)) (kinds_of (condition p)) n ((kinds_are_tested (condition p) n).1 k)

-- a test of each item, by what names the items
each-Decides : {X : Type 0} (test : X → Bool) (xs : List X) (P : X → Type 0) → ((x : X) → Contains xs x ↔ P x) → Decides (list_all test xs) ((x : X) → P x → test x ≡ true)
each-Decides test xs P same = (λ h x k. all_each test xs h x ((same x).1 k), λ h. all_from test xs (λ x k. h x ((same x).0 k)))

pub known_types-Decides : (s : Schema) (p : Policy) → Decides (names_known_types s p) (NamesKnownTypes s p)
known_types-Decides s p = each-Decides (is_known_type s) (policy_kinds p) (NamesType p) (types_are_named p)

pub known_actions-Decides : (s : Schema) (p : Policy) → Decides (names_known_actions s p) (NamesKnownActions s p)
known_actions-Decides s p = each-Decides (is_no_unknown_action s) (policy_uids p) (NamesUid p) (uids_are_named p)

pub known_members-Decides : (s : Schema) (p : Policy) → Decides (names_known_members s p) (NamesKnownMembers s p)
known_members-Decides s p = each-Decides (is_no_unknown_member s) (policy_uids p) (NamesUid p) (uids_are_named p)
