-- Policies by schemas that answer alike.
use Rattle.std.proofs.Common.{◌≡◌, ◌∙◌, ℕ, Bool, true, ◌&&◌, List, [], ◌∷◌, ◌++◌, Some, refl, sym, ap, subst}
use Rattle.std.specs.Prelude.{Contains, map}
use Rattle.std.specs.List.{list_all, filter, flat_map}
use Rattle.cedar_expr_model.specs.Name.{Name}
use Rattle.cedar_expr_model.specs.Lists.{is_nil}
use Rattle.cedar_expr_model.specs.Table.{Table}
use Rattle.cedar_expr_model.proofs.Lists.{contains_head, contains_tail, contains_cases, map_has, map_from, filter_has, filter_only, all_each, all_from, flat_from, flat_has}
use Rattle.cedar_store_model.specs.Policy.{Policy, condition}
use Rattle.cedar_schema_model.specs.Environment.{Environment, SlotUse, no_slot, equal_slot, in_slot, environments, types_above, slot_types, with_slots}
use Rattle.cedar_schema_model.specs.Schema.{Schema}
use Rattle.cedar_schema_model.specs.Types.{Mode, strict}
use Rattle.cedar_schema_model.proofs.Named.{linked}
use Rattle.cedar_typechecker_model.specs.Facts.{no_facts}
use Rattle.cedar_typechecker_model.specs.Typing.{type_of}
use Rattle.cedar_typechecker_model.specs.Verdicts.{scope_use, policy_environments, in_mode, is_bool, is_false, fits, RequestType, is_of_request, passes_in, is_warned, impossible, irrelevant_for, violations_in, policy_violations_in}
use Rattle.cedar_typechecker_model.specs.Alike.{AnswersAlike, HasSameSignatures}
use Rattle.cedar_typechecker_model.specs.AlikeLaws.{TypesAreAlike, CountsAreAlike, EnvironmentsAreAlike, PassingIsAlike, WarningsAreAlike, ImpossibleIsAlike, IrrelevantIsAlike, ViolationsAreAlike, LevelsAreAlike}
use Rattle.cedar_typechecker_model.proofs.Alike.Schemas.{alike_back, same_test}
use Rattle.cedar_typechecker_model.proofs.Alike.Typing.{same_judgement, same_type}
use Rattle.cedar_typechecker_model.proofs.Alike.Levels.{same_violations, same_violations_in}

-- a test holds of each of these where one that is the same holds of each of those
abbrev AreWithin : {X : Type 0} → List X → List X → Type 0
AreWithin {X} xs ys = (x : X) → Contains xs x → Contains ys x

all_within : {X : Type 0} (p q : X → Bool) → ((x : X) → p x ≡ q x) → (xs ys : List X) → AreWithin ys xs → list_all p xs ≡ true → list_all q ys ≡ true
all_within p q same xs ys within h = all_from q ys (λ x k. sym (same x) ∙ all_each p xs h x (within x k))

all_alike : {X : Type 0} (p q : X → Bool) → ((x : X) → p x ≡ q x) → (xs ys : List X) → AreWithin xs ys → AreWithin ys xs → list_all p xs ≡ list_all q ys
all_alike p q same xs ys f g = same_test (list_all p xs) (list_all q ys) (all_within p q same xs ys g) (all_within q p (λ x. sym (same x)) ys xs f)

filter_within : {X : Type 0} (p : X → Bool) (xs ys : List X) → AreWithin xs ys → AreWithin (filter p xs) (filter p ys)
filter_within p xs ys f x k = let r = filter_only p xs x k in filter_has p ys x (f x r.0) r.1

-- there is nothing of any of these
nil_joined : {X : Type 0} (xs ys : List X) → is_nil (xs ++ ys) ≡ (is_nil xs && is_nil ys)
nil_joined [] ys = refl
nil_joined (x ∷ xs) ys = refl

nil_of_each : {X Y : Type 0} (f : X → List Y) (xs : List X) → is_nil (flat_map f xs) ≡ list_all (λ x. is_nil (f x)) xs
nil_of_each f [] = refl
nil_of_each f (x ∷ xs) = nil_joined (f x) (flat_map f xs) ∙ ap (λ b. is_nil (f x) && b) (nil_of_each f xs)

module _ (s t : Schema) (m : AnswersAlike s t) where
  at_or_above : (n k : Name) → Contains (n ∷ types_above s n) k → Contains (n ∷ types_above t n) k
  at_or_above n k c =
      contains_cases (Contains (n ∷ types_above t n) k) n (types_above s n) k c
      (λ e. subst (Contains (n ∷ types_above t n)) e (contains_head n (types_above t n)))
      (λ d. contains_tail n (types_above t n) k ((m.above n k).0 d))

  slots_into : (u : SlotUse) (n : Name) → AreWithin (slot_types s u n) (slot_types t u n)
  slots_into no_slot n o k = k
  slots_into equal_slot n o k = k
  slots_into in_slot n o k =
      let r = map_from (λ (x : Name). Some x) (n ∷ types_above s n) o k in
      subst (Contains (slot_types t in_slot n)) r.2 (map_has (λ (x : Name). Some x) (n ∷ types_above t n) r.0 (at_or_above n r.0 r.1))

  pub policies_into : (p : Policy) → AreWithin (policy_environments s p) (policy_environments t p)
  policies_into p x k =
      let a = scope_use p.principal in
      let b = scope_use p.resource in
      let e = flat_from (linked s a b) (environments s) x k in
      let o = flat_from (λ o. map (with_slots e.0 o) (slot_types s b e.0.resource)) (slot_types s a e.0.principal) x e.2 in
      let q = map_from (with_slots e.0 o.0) (slot_types s b e.0.resource) x o.2 in
      subst (Contains (policy_environments t p)) q.2
      (flat_has (linked t a b) (environments t) e.0 (with_slots e.0 o.0 q.0) ((m.environments e.0).0 e.1)
      (flat_has (λ o. map (with_slots e.0 o) (slot_types t b e.0.resource)) (slot_types t a e.0.principal) o.0 (with_slots e.0 o.0 q.0) (slots_into a e.0.principal o.0 o.1)
      (map_has (with_slots e.0 o.0) (slot_types t b e.0.resource) q.0 (slots_into b e.0.resource q.0 q.1))))

module _ (s t : Schema) (m : AnswersAlike s t) (x y : Table) (q : HasSameSignatures x y) where
  abbrev there : (p : Policy) → AreWithin (policy_environments s p) (policy_environments t p)
  there p = policies_into s t m p

  abbrev back : (p : Policy) → AreWithin (policy_environments t p) (policy_environments s p)
  back p = policies_into t s (alike_back s t m) p

  same_condition : (w : Mode) (p : Policy) (e : Environment) → type_of (in_mode w s x e) (condition p) ≡ type_of (in_mode w t y e) (condition p)
  same_condition w p e = same_type s t m w x y q e no_facts (condition p)

  same_passing : (w : Mode) (p : Policy) → passes_in w s x p ≡ passes_in w t y p
  same_passing w p =
      all_alike (λ e. is_bool (type_of (in_mode w s x e) (condition p))) (λ e. is_bool (type_of (in_mode w t y e) (condition p)))
      (λ e. ap is_bool (same_condition w p e)) (policy_environments s p) (policy_environments t p) (there p) (back p)

  abbrev is_false_in : Mode → Schema → Table → Policy → Environment → Bool
  is_false_in w r o p e = is_false (type_of (in_mode w r o e) (condition p))

  same_false : (w : Mode) (p : Policy) (e : Environment) → is_false_in w s x p e ≡ is_false_in w t y p e
  same_false w p e = ap is_false (same_condition w p e)

  same_warned : (w : Mode) (p : Policy) → is_warned w s x p ≡ is_warned w t y p
  same_warned w p = all_alike (is_false_in w s x p) (is_false_in w t y p) (same_false w p) (policy_environments s p) (policy_environments t p) (there p) (back p)

  same_impossible : (p : Policy) → impossible s x p ≡ impossible t y p
  same_impossible p =
      all_alike (is_false_in strict s x p) (is_false_in strict t y p) (same_false strict p) (filter (fits p) (policy_environments s p)) (filter (fits p) (policy_environments t p))
      (filter_within (fits p) (policy_environments s p) (policy_environments t p) (there p)) (filter_within (fits p) (policy_environments t p) (policy_environments s p) (back p))

  same_irrelevant : (r : RequestType) (p : Policy) → irrelevant_for s x r p ≡ irrelevant_for t y r p
  same_irrelevant r p =
      let es = filter (fits p) (policy_environments s p) in
      let fs = filter (fits p) (policy_environments t p) in
      all_alike (is_false_in strict s x p) (is_false_in strict t y p) (same_false strict p) (filter (is_of_request r) es) (filter (is_of_request r) fs)
      (filter_within (is_of_request r) es fs (filter_within (fits p) (policy_environments s p) (policy_environments t p) (there p)))
      (filter_within (is_of_request r) fs es (filter_within (fits p) (policy_environments t p) (policy_environments s p) (back p)))

  violations_into : (w : Mode) (n : ℕ) (p : Policy) → AreWithin (policy_violations_in w n s x p) (policy_violations_in w n t y p)
  violations_into w n p v k =
      let r = flat_from (violations_in w n s x p) (policy_environments s p) v k in
      flat_has (violations_in w n t y p) (policy_environments t p) r.0 v (there p r.0 r.1) (subst (λ l. Contains l v) (same_violations_in s t m w x y q r.0 n p) r.2)

  same_levels : (w : Mode) (n : ℕ) (p : Policy) → is_nil (policy_violations_in w n s x p) ≡ is_nil (policy_violations_in w n t y p)
  same_levels w n p =
      nil_of_each (violations_in w n s x p) (policy_environments s p)
      ∙ all_alike (λ e. is_nil (violations_in w n s x p e)) (λ e. is_nil (violations_in w n t y p e)) (λ e. ap is_nil (same_violations_in s t m w x y q e n p)) (policy_environments s p) (policy_environments t p) (there p) (back p)
      ∙ sym (nil_of_each (violations_in w n t y p) (policy_environments t p))

-- tables back
signatures_back : (x y : Table) → HasSameSignatures x y → HasSameSignatures y x
signatures_back x y q = record { functions = sym q.functions; ordered = sym q.ordered }

pub types_alike : TypesAreAlike
types_alike s t m x y q w e known a = same_judgement s t m w x y q e known a

pub counts_alike : CountsAreAlike
counts_alike s t m x y q w e n known a = same_violations s t m w x y q e n known a

pub environments_alike : EnvironmentsAreAlike
environments_alike s t m p e = (policies_into s t m p e, policies_into t s (alike_back s t m) p e)

pub passing_alike : PassingIsAlike
passing_alike s t m x y q w p = same_passing s t m x y q w p

pub warnings_alike : WarningsAreAlike
warnings_alike s t m x y q w p = same_warned s t m x y q w p

pub impossible_alike : ImpossibleIsAlike
impossible_alike s t m x y q p = same_impossible s t m x y q p

pub irrelevant_alike : IrrelevantIsAlike
irrelevant_alike s t m x y q r p = same_irrelevant s t m x y q r p

pub violations_alike : ViolationsAreAlike
violations_alike s t m x y q w n p v = (violations_into s t m x y q w n p v, violations_into t s (alike_back s t m) y x (signatures_back x y q) w n p v)

pub levels_alike : LevelsAreAlike
levels_alike s t m x y q w n p = same_levels s t m x y q w n p
