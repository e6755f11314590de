-- The policies that must and may determine a decision, and the reasons, by the kinds of their verdicts.
use Rattle.std.proofs.Common.{◌≡◌, ◌&&◌, ◌||◌, Bool, true, false, not, cond, ℕ, List, [], ◌∷◌, ◌++◌, map, Option, Some, None, Contains, if◌then◌else◌, refl, sym, ap, ◌∙◌, subst, ◌⊎◌, inl, inr}
use Rattle.std.specs.List.{list_any, filter_map, cons_option, zip}
use Rattle.std.specs.Prelude.{is_some}
use Rattle.std.specs.Str.{bytes_eq}
use Rattle.std.proofs.lemmas.List.{append-nil}
use Rattle.std.proofs.lemmas.Slice.Eq.{bytes_eq-Decides}
use Rattle.cedar_expr_model.specs.Name.{Text}
use Rattle.cedar_expr_model.specs.ListLaws.{AreDistinct}
use Rattle.cedar_expr_model.specs.Made.{made_prim, made_set, made_record, made_extension}
use Rattle.cedar_expr_model.specs.Tree.{Tree}
use Rattle.cedar_expr_model.specs.Value.{truth, long, text, entity}
use Rattle.cedar_expr_model.proofs.Lists.{contains_head, contains_tail, contains_cases, contains_none, found-Decides}
use Rattle.cedar_store_model.specs.Answer.{ids, decided, allow, deny}
use Rattle.cedar_store_model.specs.Policy as model
use Rattle.cedar_store_model.specs.Policy.{permit, forbid}
use Rattle.cedar_evaluator_model.specs.Scope.{Scope, Left, value_left, residual, stopped}
use Rattle.cedar_evaluator_model.specs.Members.{of_true, of_residual, if_none, must_be_determining, may_be_determining, in_order, bounds_in_session}
use Rattle.cedar_evaluator_model.specs.Response.{Noted, noted, verdict, of_effect, if_true, if_residual, response_of}
use Rattle.cedar_store_parts.specs.Parts.{effect_of}
use Rattle.cedar_store_parts.specs.declared.policy_id.Effect.{Effect}
use Rattle.cedar_store_parts.specs.declared.policy_id.Effect.TheVariants.{Permit, Forbid}
use Rattle.cedar_gate_sessions.specs.Answers.{reasons_left}
use Rattle.cedar_gate_sessions.specs.Verdicts.{kind_of, verdicts_of, is_satisfied, is_open, is_limit, has_effect, must_by, may_by}
use Rattle.cedar_gate_sessions.specs.declared.kinds.Verdict.{Verdict}
use Rattle.cedar_gate_sessions.specs.declared.kinds.Verdict.TheVariants.{Satisfied, Open, Not, Limit}
use Rattle.cedar_gate_sessions.proofs.Deciding.{has_some, taken_true, taken_open, of_its_effect, head_is, tail_is, such, satisfied, left_open, limit_is}

not_true : (b : Bool) → (b ≡ true → ⊥) → b ≡ false
not_true true h = absurd (h refl)
not_true false h = refl

-- a text that isn't there is found nowhere
not_found : (t : Text) (ts : List Text) → (Contains ts t → ⊥) → list_any (bytes_eq t) ts ≡ false
not_found t ts n = not_true (list_any (bytes_eq t) ts) (λ h. n ((found-Decides bytes_eq bytes_eq-Decides t ts).0 h))

same_text : (t u : Text) → t ≡ u → bytes_eq t u ≡ true
same_text t u e = (bytes_eq-Decides t u).1 e

other_text : (t u : Text) → (t ≡ u → ⊥) → bytes_eq t u ≡ false
other_text t u n = not_true (bytes_eq t u) (λ h. n ((bytes_eq-Decides t u).0 h))

-- what is taken of some policies, each under its own id
module _ {A : Type 0} (takes : model.Policy → Option A) (id : A → Text) (own : (p : model.Policy) (a : A) → takes p ≡ Some a → id a ≡ p.id) where
  taken_case : (p : model.Policy) (o : Option A) → takes p ≡ o → (as_ : List A) (ps : List model.Policy) (t : Text) → (Contains (map id as_) t → Contains (ids ps) t) → Contains (map id (cons_option o as_)) t → Contains (p.id ∷ ids ps) t
  taken_case p None e as_ ps t rest h = contains_tail p.id (ids ps) t (rest h)
  taken_case p (Some a) e as_ ps t rest h =
      contains_cases (Contains (p.id ∷ ids ps) t) (id a) (map id as_) t h
      (λ k. subst (Contains (p.id ∷ ids ps)) (sym (own p a e) ∙ k) (contains_head p.id (ids ps)))
      (λ k. contains_tail p.id (ids ps) t (rest k))

  taken_of : (ps : List model.Policy) (t : Text) → Contains (map id (filter_map takes ps)) t → Contains (ids ps) t
  taken_of [] t h = absurd (contains_none t h)
  taken_of (p ∷ ps) t h = taken_case p (takes p) refl (filter_map takes ps) ps t (taken_of ps t) h

  apart_case : (p : model.Policy) (o : Option A) → takes p ≡ o → (ps : List model.Policy) → ¬ (Contains (ids ps) p.id) → AreDistinct (map id (filter_map takes ps)) → AreDistinct (map id (cons_option o (filter_map takes ps)))
  apart_case p None e ps n d = d
  apart_case p (Some a) e ps n d = (λ h. n (taken_of ps p.id (subst (Contains (map id (filter_map takes ps))) (own p a e) h)), d)

  -- they are distinct where the policies' are
  pub taken_apart : (ps : List model.Policy) → AreDistinct (ids ps) → AreDistinct (map id (filter_map takes ps))
  taken_apart [] d = tt
  taken_apart (p ∷ ps) d = apart_case p (takes p) refl ps d.0 (taken_apart ps d.1)

  here_case : (p : model.Policy) (o : Option A) → takes p ≡ o → (ps : List model.Policy) → ¬ (Contains (ids ps) p.id) → list_any (bytes_eq p.id) (map id (cons_option o (filter_map takes ps))) ≡ is_some o
  here_case p None e ps n = not_found p.id (map id (filter_map takes ps)) (λ h. n (taken_of ps p.id h))
  here_case p (Some a) e ps n = ap (λ b. b || list_any (bytes_eq p.id) (map id (filter_map takes ps))) (same_text p.id (id a) (sym (own p a e)))

  there_case : (q p : model.Policy) (o : Option A) → takes q ≡ o → (ps : List model.Policy) → ¬ (Contains (ids ps) q.id) → Contains (ids ps) p.id → list_any (bytes_eq p.id) (map id (filter_map takes ps)) ≡ is_some (takes p)
      → list_any (bytes_eq p.id) (map id (cons_option o (filter_map takes ps))) ≡ is_some (takes p)
  there_case q p None e ps n c h = h
  there_case q p (Some a) e ps n c h =
      ap (λ b. b || list_any (bytes_eq p.id) (map id (filter_map takes ps))) (other_text p.id (id a) (λ k. n (subst (Contains (ids ps)) (k ∙ own q a e) c))) ∙ h

  ids_have : (ps : List model.Policy) (p : model.Policy) → Contains ps p → Contains (ids ps) p.id
  ids_have [] p c = absurd (contains_none p c)
  ids_have (q ∷ ps) p c = contains_cases (Contains (ids (q ∷ ps)) p.id) q ps p c (λ e. subst (λ z. Contains (z ∷ ids ps) p.id) (ap (λ (r : model.Policy). r.id) (sym e)) (contains_head p.id (ids ps))) (λ k. contains_tail q.id (ids ps) p.id (ids_have ps p k))

  -- of a policy among them its id is found where something is taken of it
  pub in_taken : (ps : List model.Policy) → AreDistinct (ids ps) → (p : model.Policy) → Contains ps p → list_any (bytes_eq p.id) (map id (filter_map takes ps)) ≡ is_some (takes p)
  in_taken [] d p c = absurd (contains_none p c)
  in_taken (q ∷ ps) d p c =
      contains_cases (list_any (bytes_eq p.id) (map id (filter_map takes (q ∷ ps))) ≡ is_some (takes p)) q ps p c
      (λ e. subst (λ z. list_any (bytes_eq z.id) (map id (filter_map takes (q ∷ ps))) ≡ is_some (takes z)) e (here_case q (takes q) refl ps d.0))
      (λ k. there_case q p (takes q) refl ps d.0 (ids_have ps p k) (in_taken ps d.1 p k))

-- what a group takes of a policy stands under the policy's id
first_is : {A : Type 0} (a b : A) → Some a ≡ Some b → a ≡ b
first_is a b h = cc

module _ {N : Type 0} (id : N → Text) where
  of_effect_own : (e f : model.Effect) (o : Option N) (t : Text) → ((a : N) → o ≡ Some a → id a ≡ t) → (a : N) → of_effect e f o ≡ Some a → id a ≡ t
  of_effect_own permit permit o t h a k = h a k
  of_effect_own permit forbid o t h a k = cc
  of_effect_own forbid permit o t h a k = cc
  of_effect_own forbid forbid o t h a k = h a k

own_true : (p : model.Policy) (l : Left) (a : Noted) → if_true p l ≡ Some a → a.id ≡ p.id
own_true p (value_left (made_prim (truth true))) a h = ap (λ n. n.id) (sym (first_is (noted p) a h))
own_true p (value_left (made_prim (truth false))) a h = cc
own_true p (value_left (made_prim (long n))) a h = cc
own_true p (value_left (made_prim (text t))) a h = cc
own_true p (value_left (made_prim (entity u))) a h = cc
own_true p (value_left (made_set ms)) a h = cc
own_true p (value_left (made_record fs)) a h = cc
own_true p (value_left (made_extension n k g ps)) a h = cc
own_true p (residual r) a h = cc
own_true p (stopped s) a h = cc

own_residual : (p : model.Policy) (l : Left) (a : Noted × Tree) → if_residual p l ≡ Some a → (a.0).id ≡ p.id
own_residual p (value_left m) a h = cc
own_residual p (residual r) a h = ap (λ n. (n.0).id) (sym (first_is (noted p, r) a h))
own_residual p (stopped s) a h = cc

-- ids of what is left
ids_true : (e : model.Effect) (ns : List Noted) → ids (of_true e ns) ≡ map (λ n. n.id) ns
ids_true e [] = refl
ids_true e (n ∷ ns) = ap (λ l. n.id ∷ l) (ids_true e ns)

ids_residual : (e : model.Effect) (ns : List (Noted × Tree)) → ids (of_residual e ns) ≡ map (λ n. (n.0).id) ns
ids_residual e [] = refl
ids_residual e (n ∷ ns) = ap (λ l. (n.0).id ∷ l) (ids_residual e ns)

or_assoc : (a b c : Bool) → ((a || b) || c) ≡ (a || (b || c))
or_assoc true b c = refl
or_assoc false b c = refl

any_append : (i : Text) (ps qs : List model.Policy) → list_any (bytes_eq i) (ids (ps ++ qs)) ≡ (list_any (bytes_eq i) (ids ps) || list_any (bytes_eq i) (ids qs))
any_append i [] qs = refl
any_append i (p ∷ ps) qs = ap (λ b. bytes_eq i p.id || b) (any_append i ps qs) ∙ sym (or_assoc (bytes_eq i p.id) (list_any (bytes_eq i) (ids ps)) (list_any (bytes_eq i) (ids qs)))

and_swap : (a b : Bool) → (a && b) ≡ (b && a)
and_swap true true = refl
and_swap true false = refl
and_swap false true = refl
and_swap false false = refl

and_none : (a : Bool) → (a && false) ≡ false
and_none true = refl
and_none false = refl

-- whether an id is among those that must determine
must_case : (tp tf : List Noted) (rf : List (Noted × Tree)) (i : Text) (e : model.Effect) (v : Verdict)
    → list_any (bytes_eq i) (ids (of_true permit tp)) ≡ (has_effect Permit e && is_satisfied v)
    → list_any (bytes_eq i) (ids (of_true forbid tf)) ≡ (has_effect Forbid e && is_satisfied v)
    → list_any (bytes_eq i) (ids (if_none tf (if_none rf (of_true permit tp) (of_true forbid tf)) (of_true forbid tf))) ≡ must_by (has_some tf) (has_some rf) e v
must_case tp [] [] i e v p f = p ∙ and_swap (has_effect Permit e) (is_satisfied v)
must_case tp [] (r ∷ rf) i e v p f = sym (and_none (is_satisfied v))
must_case tp (t ∷ tf) rf i e v p f = f ∙ and_swap (has_effect Forbid e) (is_satisfied v)

-- Where no forbid is satisfied, a satisfied permit may determine, and so may any policy that is open.
may_open : (e : model.Effect) (v : Verdict) → ((has_effect Permit e && is_satisfied v) || ((has_effect Permit e && is_open v) || (has_effect Forbid e && is_open v))) ≡ may_by false e v
may_open permit Satisfied = refl
may_open permit Open = refl
may_open permit Not = refl
may_open permit Limit = refl
may_open forbid Satisfied = refl
may_open forbid Open = refl
may_open forbid Not = refl
may_open forbid Limit = refl

may_deny : (e : model.Effect) (v : Verdict) → ((has_effect Forbid e && is_satisfied v) || (has_effect Forbid e && is_open v)) ≡ may_by true e v
may_deny permit Satisfied = refl
may_deny permit Open = refl
may_deny permit Not = refl
may_deny permit Limit = refl
may_deny forbid Satisfied = refl
may_deny forbid Open = refl
may_deny forbid Not = refl
may_deny forbid Limit = refl

may_case : (tp tf : List Noted) (rp rf : List (Noted × Tree)) (i : Text) (e : model.Effect) (v : Verdict)
    → list_any (bytes_eq i) (ids (of_true permit tp)) ≡ (has_effect Permit e && is_satisfied v)
    → list_any (bytes_eq i) (ids (of_true forbid tf)) ≡ (has_effect Forbid e && is_satisfied v)
    → list_any (bytes_eq i) (ids (of_residual permit rp)) ≡ (has_effect Permit e && is_open v)
    → list_any (bytes_eq i) (ids (of_residual forbid rf)) ≡ (has_effect Forbid e && is_open v)
    → list_any (bytes_eq i) (ids (if_none tf (of_true permit tp ++ (of_residual permit rp ++ of_residual forbid rf)) (of_true forbid tf ++ of_residual forbid rf))) ≡ may_by (has_some tf) e v
may_case tp [] rp rf i e v p f o q =
    any_append i (of_true permit tp) (of_residual permit rp ++ of_residual forbid rf)
    ∙ (λ j. p j || (any_append i (of_residual permit rp) (of_residual forbid rf) ∙ (λ k. o k || q k)) j)
    ∙ may_open e v
may_case tp (t ∷ tf) rp rf i e v p f o q = any_append i (of_true forbid (t ∷ tf)) (of_residual forbid rf) ∙ (λ j. f j || q j) ∙ may_deny e v

-- the ids that are found among some, in the order of the policies
abbrev pub picked : (model.Policy → Bool) → List model.Policy → List Text
picked picks ps = filter_map (λ p. if picks p then Some p.id else None) ps

one_picked : (a b : Bool) (i : Text) (xs ys : List Text) → a ≡ b → xs ≡ ys → cond a (i ∷ xs) xs ≡ cons_option (if b then Some i else None) ys
one_picked true true i xs ys e h = ap (λ l. i ∷ l) h
one_picked false false i xs ys e h = h
one_picked true false i xs ys e h = cc
one_picked false true i xs ys e h = cc

ordered : (is : List Text) (picks : model.Policy → Bool) (ps : List model.Policy) → ((p : model.Policy) → Contains ps p → list_any (bytes_eq p.id) is ≡ picks p) → in_order ps is ≡ picked picks ps
ordered is picks [] h = refl
ordered is picks (p ∷ ps) h =
    one_picked (list_any (bytes_eq p.id) is) (picks p) p.id (in_order ps is) (picked picks ps) (h p (contains_head p ps)) (ordered is picks ps (λ q c. h q (contains_tail p ps q c)))

picked_alike : (f g : model.Policy → Bool) → ((p : model.Policy) → f p ≡ g p) → (ps : List model.Policy) → picked f ps ≡ picked g ps
picked_alike f g h [] = refl
picked_alike f g h (p ∷ ps) = let rest = picked_alike f g h ps in λ i. cons_option (if h p i then Some p.id else None) (rest i)

module _ (s : Scope) (n : ℕ) where
  -- the verdict on a policy
  abbrev kinds : model.Policy → Verdict
  kinds p = kind_of (verdict s n p)

  abbrev trues : Effect → model.Policy → Option Noted
  trues e p = of_effect (effect_of e) p.effect (if_true p (verdict s n p))

  abbrev opens : Effect → model.Policy → Option (Noted × Tree)
  opens e p = of_effect (effect_of e) p.effect (if_residual p (verdict s n p))

  trues_own : (e : Effect) (p : model.Policy) (a : Noted) → trues e p ≡ Some a → a.id ≡ p.id
  trues_own e p a k = of_effect_own (λ (m : Noted). m.id) (effect_of e) p.effect (if_true p (verdict s n p)) p.id (own_true p (verdict s n p)) a k

  opens_own : (e : Effect) (p : model.Policy) (a : Noted × Tree) → opens e p ≡ Some a → (a.0).id ≡ p.id
  opens_own e p a k = of_effect_own (λ (m : Noted × Tree). (m.0).id) (effect_of e) p.effect (if_residual p (verdict s n p)) p.id (own_residual p (verdict s n p)) a k

  module _ (ps : List model.Policy) (distinct : AreDistinct (ids ps)) (p : model.Policy) (c : Contains ps p) where
    in_true : (e : Effect) → list_any (bytes_eq p.id) (ids (of_true (effect_of e) (filter_map (trues e) ps))) ≡ (has_effect e p.effect && is_satisfied (kinds p))
    in_true e =
        ap (list_any (bytes_eq p.id)) (ids_true (effect_of e) (filter_map (trues e) ps))
        ∙ in_taken (trues e) (λ (m : Noted). m.id) (trues_own e) ps distinct p c
        ∙ of_its_effect e p.effect (if_true p (verdict s n p))
        ∙ ap (λ b. has_effect e p.effect && b) (taken_true p (verdict s n p))

    in_open : (e : Effect) → list_any (bytes_eq p.id) (ids (of_residual (effect_of e) (filter_map (opens e) ps))) ≡ (has_effect e p.effect && is_open (kinds p))
    in_open e =
        ap (list_any (bytes_eq p.id)) (ids_residual (effect_of e) (filter_map (opens e) ps))
        ∙ in_taken (opens e) (λ (m : Noted × Tree). (m.0).id) (opens_own e) ps distinct p c
        ∙ of_its_effect e p.effect (if_residual p (verdict s n p))
        ∙ ap (λ b. has_effect e p.effect && b) (taken_open p (verdict s n p))

  abbrev must_pick : Bool → Bool → model.Policy → Bool
  must_pick forbids open_forbids p = must_by forbids open_forbids p.effect (kinds p)

  abbrev may_pick : Bool → model.Policy → Bool
  may_pick forbids p = may_by forbids p.effect (kinds p)

  must_ordered : (ps : List model.Policy) → AreDistinct (ids ps) → in_order ps (ids (must_be_determining (response_of s n ps))) ≡ picked (must_pick (has_some (response_of s n ps).true_forbids) (has_some (response_of s n ps).residual_forbids)) ps
  must_ordered ps d =
      let r = response_of s n ps in
      ordered (ids (must_be_determining r)) (must_pick (has_some r.true_forbids) (has_some r.residual_forbids)) ps
      (λ p c. must_case r.true_permits r.true_forbids r.residual_forbids p.id p.effect (kinds p) (in_true ps d p c Permit) (in_true ps d p c Forbid))

  may_ordered : (ps : List model.Policy) → AreDistinct (ids ps) → in_order ps (ids (may_be_determining (response_of s n ps))) ≡ picked (may_pick (has_some (response_of s n ps).true_forbids)) ps
  may_ordered ps d =
      let r = response_of s n ps in
      ordered (ids (may_be_determining r)) (may_pick (has_some r.true_forbids)) ps
      (λ p c. may_case r.true_permits r.true_forbids r.residual_permits r.residual_forbids p.id p.effect (kinds p) (in_true ps d p c Permit) (in_true ps d p c Forbid) (in_open ps d p c Permit) (in_open ps d p c Forbid))

  -- the ids of satisfied policies of an effect
  named_case : (e : Effect) (p : model.Policy) (o : Option Noted) → trues e p ≡ o → (b : Bool) → b ≡ is_some o → (xs : List Text) (ns : List Noted) → xs ≡ ids (of_true (effect_of e) ns)
      → cons_option (if b then Some p.id else None) xs ≡ ids (of_true (effect_of e) (cons_option o ns))
  named_case e p None k true h xs ns r = cc
  named_case e p None k false h xs ns r = r
  named_case e p (Some a) k true h xs ns r = let i : p.id ≡ a.id = sym (trues_own e p a k) in λ j. i j ∷ r j
  named_case e p (Some a) k false h xs ns r = cc

  named : (e : Effect) (picks : model.Policy → Bool) → ((p : model.Policy) → picks p ≡ is_some (trues e p)) → (ps : List model.Policy) → picked picks ps ≡ ids (of_true (effect_of e) (filter_map (trues e) ps))
  named e picks h [] = refl
  named e picks h (p ∷ ps) = named_case e p (trues e p) refl (picks p) (h p) (picked picks ps) (filter_map (trues e) ps) (named e picks h ps)

  is_named : (e : Effect) (p : model.Policy) → (is_satisfied (kinds p) && has_effect e p.effect) ≡ is_some (trues e p)
  is_named e p = and_swap (is_satisfied (kinds p)) (has_effect e p.effect) ∙ sym (of_its_effect e p.effect (if_true p (verdict s n p)) ∙ ap (λ b. has_effect e p.effect && b) (taken_true p (verdict s n p)))

  reasons_case : (tp tf : List Noted) (ps : List model.Policy) → picked (must_pick false false) ps ≡ ids (of_true permit tp) → picked (must_pick true false) ps ≡ ids (of_true forbid tf)
      → picked (must_pick (has_some tf) false) ps ≡ ids (if_none tf (of_true permit tp) (of_true forbid tf))
  reasons_case tp [] ps p f = p
  reasons_case tp (t ∷ tf) ps p f = f

  pub reasons_picked : (ps : List model.Policy) → picked (must_pick (has_some (response_of s n ps).true_forbids) false) ps ≡ reasons_left (response_of s n ps)
  reasons_picked ps =
      let r = response_of s n ps in
      reasons_case r.true_permits r.true_forbids ps (named Permit (must_pick false false) (is_named Permit) ps) (named Forbid (must_pick true false) (is_named Forbid) ps)

-- the ids that are picked are distinct where all ids are
picked_own : (picks : model.Policy → Bool) (p : model.Policy) (b : Bool) (t : Text) → (if b then Some p.id else None) ≡ Some t → t ≡ p.id
picked_own picks p true t h = sym (first_is p.id t h)
picked_own picks p false t h = cc

map_same : (ts : List Text) → map (λ t. t) ts ≡ ts
map_same [] = refl
map_same (t ∷ ts) = ap (λ l. t ∷ l) (map_same ts)

pub picked_apart : (picks : model.Policy → Bool) (ps : List model.Policy) → AreDistinct (ids ps) → AreDistinct (picked picks ps)
picked_apart picks ps d = subst AreDistinct (map_same (picked picks ps)) (taken_apart (λ p. if picks p then Some p.id else None) (λ t. t) (λ p t h. picked_own picks p (picks p) t h) ps d)

decision_case : (tp tf : List Noted) (permits forbids : Bool) → permits ≡ has_some tp → forbids ≡ has_some tf → (if permits && not forbids then allow else deny) ≡ decided tp tf
decision_case tp tf permits forbids p f = (λ i. if p i && not (f i) then allow else deny) ∙ go tp tf
  where
    go : (tp tf : List Noted) → (if has_some tp && not (has_some tf) then allow else deny) ≡ decided tp tf
    go [] [] = refl
    go [] (f ∷ fs) = refl
    go (p ∷ ps) [] = refl
    go (p ∷ ps) (f ∷ fs) = refl

module _ {P : Type 0} (view : P → model.Policy) where
  -- the ids of policies that are picked by effect and verdict
  abbrev picked_pairs : (model.Effect → Verdict → Bool) → List (P × Verdict) → List Text
  picked_pairs picks xs = filter_map (λ (x : P × Verdict). if picks (view x.0).effect x.1 then Some (view x.0).id else None) xs

  pairs_are : (picks : model.Effect → Verdict → Bool) (kinds : model.Policy → Verdict) (ps : List P) (vs : List Verdict) → vs ≡ map kinds (map view ps) → picked_pairs picks (zip ps vs) ≡ picked (λ p. picks p.effect (kinds p)) (map view ps)
  pairs_are picks kinds [] vs same = refl
  pairs_are picks kinds (p ∷ ps) [] same = cc
  pairs_are picks kinds (p ∷ ps) (v ∷ vs) same =
      let first : v ≡ kinds (view p) = head_is v (kinds (view p)) vs (map kinds (map view ps)) same in
      let rest = pairs_are picks kinds ps vs (tail_is v (kinds (view p)) vs (map kinds (map view ps)) same) in
      λ i. cons_option (if picks (view p).effect (first i) then Some (view p).id else None) (rest i)

  module _ (s : Scope) (n : ℕ) (ps : List P) (vs : List Verdict) (same : vs ≡ verdicts_of s n (map view ps)) (distinct : AreDistinct (ids (map view ps))) where
    -- no bounds where a policy met the limit
    pub no_bounds : list_any is_limit vs ≡ true → None ≡ bounds_in_session (map view ps) (response_of s n (map view ps))
    no_bounds e =
        let r = response_of s n (map view ps) in
        let met = sym e ∙ limit_is view s n ps vs same in
        λ i. if met i then None else Some (record { must = in_order (map view ps) (ids (must_be_determining r)); may = in_order (map view ps) (ids (may_be_determining r)) })

    -- else these
    pub bounds_are : list_any is_limit vs ≡ false → (forbids open_forbids : Bool) → forbids ≡ list_any (such view is_satisfied Forbid) (zip ps vs) → open_forbids ≡ list_any (such view is_open Forbid) (zip ps vs)
        → (must may : List Text) → must ≡ picked_pairs (must_by forbids open_forbids) (zip ps vs) → may ≡ picked_pairs (may_by forbids) (zip ps vs)
        → Some (record { must = must; may = may }) ≡ bounds_in_session (map view ps) (response_of s n (map view ps))
    bounds_are e forbids open_forbids ef eo must may em ey =
        let r = response_of s n (map view ps) in
        let met = sym e ∙ limit_is view s n ps vs same in
        let f : forbids ≡ has_some r.true_forbids = ef ∙ satisfied view s n ps vs same Forbid in
        let o : open_forbids ≡ has_some r.residual_forbids = eo ∙ left_open view s n ps vs same Forbid in
        let m = em ∙ pairs_are (must_by forbids open_forbids) (kinds s n) ps vs same ∙ (λ i. picked (must_pick s n (f i) (o i)) (map view ps)) ∙ sym (must_ordered s n (map view ps) distinct) in
        let y = ey ∙ pairs_are (may_by forbids) (kinds s n) ps vs same ∙ (λ i. picked (may_pick s n (f i)) (map view ps)) ∙ sym (may_ordered s n (map view ps) distinct) in
        λ i. if met i then None else Some (record { must = m i; may = y i })

    -- the reasons, which are distinct, and the decision
    pub reasons_are : (forbids : Bool) → forbids ≡ list_any (such view is_satisfied Forbid) (zip ps vs) → picked_pairs (must_by forbids false) (zip ps vs) ≡ reasons_left (response_of s n (map view ps))
    reasons_are forbids ef =
        let f = ef ∙ satisfied view s n ps vs same Forbid in
        pairs_are (must_by forbids false) (kinds s n) ps vs same ∙ (λ i. picked (must_pick s n (f i) false) (map view ps)) ∙ reasons_picked s n (map view ps)

    pub picks_apart : (picks : model.Effect → Verdict → Bool) → AreDistinct (picked_pairs picks (zip ps vs))
    picks_apart picks = subst AreDistinct (sym (pairs_are picks (kinds s n) ps vs same)) (picked_apart (λ p. picks p.effect (kinds s n p)) (map view ps) distinct)

    pub decision_is : (permits forbids : Bool) → permits ≡ list_any (such view is_satisfied Permit) (zip ps vs) → forbids ≡ list_any (such view is_satisfied Forbid) (zip ps vs)
        → (if permits && not forbids then allow else deny) ≡ decided (response_of s n (map view ps)).true_permits (response_of s n (map view ps)).true_forbids
    decision_is permits forbids p f = decision_case _ _ permits forbids (p ∙ satisfied view s n ps vs same Permit) (f ∙ satisfied view s n ps vs same Forbid)

-- nothing is left where one of the two lists is empty
zip_empty : {A B : Type 0} (ls : List A) (rs : List B) → (ls ≡ []) ⊎ (rs ≡ []) → zip ls rs ≡ []
zip_empty [] rs e = refl
zip_empty (a ∷ ls) [] e = refl
zip_empty (a ∷ ls) (b ∷ rs) (inl e) = cc
zip_empty (a ∷ ls) (b ∷ rs) (inr e) = cc

-- what is made so far is all, where nothing is left
pub is_all : {A B X : Type 0} (f : List (A × B) → List X) (out all : List X) (ls : List A) (rs : List B) → f [] ≡ []
    → out ++ f (zip ls rs) ≡ all → (ls ≡ []) ⊎ (rs ≡ []) → out ≡ all
is_all f out all ls rs none e ends =
    let rest : f (zip ls rs) ≡ [] = ap f (zip_empty ls rs ends) ∙ none in
    sym (append-nil out) ∙ (sym (ap (λ r. out ++ r) rest) ∙ e)
