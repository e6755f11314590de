-- The decision of a response by the kinds of its verdicts.
use Rattle.std.proofs.Common.{◌≡◌, ◌&&◌, ◌||◌, Bool, true, false, ℕ, List, [], ◌∷◌, map, Option, Some, None, if◌then◌else◌, refl, sym, ap, ◌∙◌}
use Rattle.std.specs.List.{list_any, filter_map, cons_option, zip}
use Rattle.std.specs.Prelude.{is_some}
use Rattle.cedar_expr_model.specs.Made.{made_prim, made_set, made_record, made_extension}
use Rattle.cedar_expr_model.specs.Value.{truth, long, text, entity}
use Rattle.cedar_store_model.specs.Answer.{Decision}
use Rattle.cedar_store_model.specs.Policy as model
use Rattle.cedar_evaluator_model.specs.Scope.{Scope, Left, value_left, residual, stopped, fault, limit}
use Rattle.cedar_evaluator_model.specs.Members.{decided_by, decision, met_limit, decision_in_session, is_limit as is_limit_cause}
use Rattle.cedar_evaluator_model.specs.Response.{ResponseError, verdict, of_effect, if_true, if_residual, if_stopped, group, response_of}
use Rattle.cedar_store_parts.specs.Parts.{effect_of}
use Rattle.cedar_store_parts.specs.declared.policy_id.Effect.{Effect}
use Rattle.cedar_store_parts.specs.declared.policy_id.Effect.TheVariants.{Permit, Forbid}
use Rattle.cedar_gate_sessions.specs.Verdicts.{kind_of, verdicts_of, is_satisfied, is_open, is_limit, has_effect, decided_by_any}
use Rattle.cedar_gate_sessions.specs.declared.kinds.Verdict.{Verdict}

-- whether a list has something
abbrev pub has_some : {A : Type 0} → List A → Bool
has_some [] = false
has_some (x ∷ xs) = true

-- the decision by whether the groups have something
by_groups : {A B C D : Type 0} (ps : List A) (qs : List B) (fs : List C) (gs : List D) → decided_by ps qs fs gs ≡ decided_by_any (has_some ps) (has_some qs) (has_some fs) (has_some gs)
by_groups [] [] (f ∷ fs) gs = refl
by_groups [] (q ∷ qs) (f ∷ fs) gs = refl
by_groups (p ∷ ps) qs (f ∷ fs) [] = refl
by_groups (p ∷ ps) qs (f ∷ fs) (g ∷ gs) = refl
by_groups [] [] [] gs = refl
by_groups [] (q ∷ qs) [] gs = refl
by_groups (p ∷ ps) qs [] [] = refl
by_groups (p ∷ ps) qs [] (g ∷ gs) = refl

-- what a group takes, by the kind of the verdict
pub taken_true : (p : model.Policy) (l : Left) → is_some (if_true p l) ≡ is_satisfied (kind_of l)
taken_true p (value_left (made_prim (truth true))) = refl
taken_true p (value_left (made_prim (truth false))) = refl
taken_true p (value_left (made_prim (long n))) = refl
taken_true p (value_left (made_prim (text t))) = refl
taken_true p (value_left (made_prim (entity u))) = refl
taken_true p (value_left (made_set ms)) = refl
taken_true p (value_left (made_record fs)) = refl
taken_true p (value_left (made_extension n k g ps)) = refl
taken_true p (residual r) = refl
taken_true p (stopped limit) = refl
taken_true p (stopped (fault f)) = refl

pub taken_open : (p : model.Policy) (l : Left) → is_some (if_residual p l) ≡ is_open (kind_of l)
taken_open p (value_left (made_prim (truth true))) = refl
taken_open p (value_left (made_prim (truth false))) = refl
taken_open p (value_left (made_prim (long n))) = refl
taken_open p (value_left (made_prim (text t))) = refl
taken_open p (value_left (made_prim (entity u))) = refl
taken_open p (value_left (made_set ms)) = refl
taken_open p (value_left (made_record fs)) = refl
taken_open p (value_left (made_extension n k g ps)) = refl
taken_open p (residual r) = refl
taken_open p (stopped limit) = refl
taken_open p (stopped (fault f)) = refl

pub of_its_effect : {A : Type 0} (e : Effect) (f : model.Effect) (o : Option A) → is_some (of_effect (effect_of e) f o) ≡ (has_effect e f && is_some o)
of_its_effect Permit model.permit o = refl
of_its_effect Permit model.forbid o = refl
of_its_effect Forbid model.permit o = refl
of_its_effect Forbid model.forbid o = refl

-- one more item of a filtered list
cons_some : {B : Type 0} (o : Option B) (ys : List B) (b : Bool) → has_some ys ≡ b → has_some (cons_option o ys) ≡ (is_some o || b)
cons_some None ys b h = h
cons_some (Some y) ys b h = refl

-- the head and the tail of two equal lists
pub head_is : {X : Type 0} (x y : X) (xs ys : List X) → x ∷ xs ≡ y ∷ ys → x ≡ y
head_is x y xs ys e = cc

pub tail_is : {X : Type 0} (x y : X) (xs ys : List X) → x ∷ xs ≡ y ∷ ys → xs ≡ ys
tail_is x y xs ys e = cc

-- some policy met the limit
limit_more : (p : model.Policy) (l : Left) (ys : List ResponseError) (b : Bool) → list_any (λ x. is_limit_cause x.cause) ys ≡ b → list_any (λ x. is_limit_cause x.cause) (cons_option (if_stopped p l) ys) ≡ (is_limit (kind_of l) || b)
limit_more p (value_left (made_prim (truth true))) ys b h = h
limit_more p (value_left (made_prim (truth false))) ys b h = h
limit_more p (value_left (made_prim (long n))) ys b h = h
limit_more p (value_left (made_prim (text t))) ys b h = h
limit_more p (value_left (made_prim (entity u))) ys b h = h
limit_more p (value_left (made_set ms)) ys b h = h
limit_more p (value_left (made_record fs)) ys b h = h
limit_more p (value_left (made_extension n k g qs)) ys b h = h
limit_more p (residual r) ys b h = h
limit_more p (stopped limit) ys b h = refl
limit_more p (stopped (fault f)) ys b h = h

pub limit_any : (s : Scope) (n : ℕ) (ps : List model.Policy) → list_any (λ x. is_limit_cause x.cause) (filter_map (λ p. if_stopped p (verdict s n p)) ps) ≡ list_any is_limit (verdicts_of s n ps)
limit_any s n [] = refl
limit_any s n (p ∷ ps) = limit_more p (verdict s n p) (filter_map (λ q. if_stopped q (verdict s n q)) ps) (list_any is_limit (verdicts_of s n ps)) (limit_any s n ps)

module _ {P : Type 0} (view : P → model.Policy) where
  -- whether a policy has this effect and this holds of its verdict
  abbrev pub such : (Verdict → Bool) → Effect → P × Verdict → Bool
  such k e p = has_effect e (view p.0).effect && k p.1

  -- a group has something where some policy of the effect has a verdict of the kind
  group_some : {A : Type 0} (e : Effect) (takes : model.Policy → Option A) (k : Verdict → Bool) (kinds : model.Policy → Verdict) → ((p : model.Policy) → is_some (takes p) ≡ k (kinds p)) → (ps : List P) (vs : List Verdict) → vs ≡ map kinds (map view ps)
      → has_some (group (effect_of e) takes (map view ps)) ≡ list_any (such k e) (zip ps vs)
  group_some e takes k kinds each [] vs same = refl
  group_some e takes k kinds each (p ∷ ps) [] same = cc
  group_some e takes k kinds each (p ∷ ps) (v ∷ vs) same =
      let first : v ≡ kinds (view p) = head_is v (kinds (view p)) vs (map kinds (map view ps)) same in
      let rest : vs ≡ map kinds (map view ps) = tail_is v (kinds (view p)) vs (map kinds (map view ps)) same in
      cons_some (of_effect (effect_of e) (view p).effect (takes (view p))) (group (effect_of e) takes (map view ps)) (list_any (such k e) (zip ps vs)) (group_some e takes k kinds each ps vs rest)
      ∙ ap (λ b. b || list_any (such k e) (zip ps vs))
      (of_its_effect e (view p).effect (takes (view p)) ∙ ap (λ b. has_effect e (view p).effect && b) (each (view p) ∙ ap k (sym first)))

  module _ (s : Scope) (n : ℕ) (ps : List P) (vs : List Verdict) (same : vs ≡ verdicts_of s n (map view ps)) where
    pub satisfied : (e : Effect) → list_any (such is_satisfied e) (zip ps vs) ≡ has_some (group (effect_of e) (λ p. if_true p (verdict s n p)) (map view ps))
    satisfied e = sym (group_some e (λ p. if_true p (verdict s n p)) is_satisfied (λ p. kind_of (verdict s n p)) (λ p. taken_true p (verdict s n p)) ps vs same)

    pub left_open : (e : Effect) → list_any (such is_open e) (zip ps vs) ≡ has_some (group (effect_of e) (λ p. if_residual p (verdict s n p)) (map view ps))
    left_open e = sym (group_some e (λ p. if_residual p (verdict s n p)) is_open (λ p. kind_of (verdict s n p)) (λ p. taken_open p (verdict s n p)) ps vs same)

    pub limit_is : list_any is_limit vs ≡ met_limit (response_of s n (map view ps))
    limit_is = ap (list_any is_limit) same ∙ sym (limit_any s n (map view ps))

    -- the decision by what is found of the verdicts
    pub decided_is : (over permits open_permits forbids open_forbids : Bool) → over ≡ list_any is_limit vs → permits ≡ list_any (such is_satisfied Permit) (zip ps vs) → open_permits ≡ list_any (such is_open Permit) (zip ps vs)
        → forbids ≡ list_any (such is_satisfied Forbid) (zip ps vs) → open_forbids ≡ list_any (such is_open Forbid) (zip ps vs)
        → (d : Option Decision) → d ≡ (if over then None else decided_by_any permits open_permits forbids open_forbids) → d ≡ decision_in_session (response_of s n (map view ps))
    decided_is over permits open_permits forbids open_forbids eo ep eop ef eof d h =
        let r = response_of s n (map view ps) in
        let met = eo ∙ limit_is in
        let p = ep ∙ satisfied Permit in
        let op = eop ∙ left_open Permit in
        let f = ef ∙ satisfied Forbid in
        let of = eof ∙ left_open Forbid in
        let by : decided_by_any permits open_permits forbids open_forbids ≡ decision r = (λ i. decided_by_any (p i) (op i) (f i) (of i)) ∙ sym (by_groups r.true_permits r.residual_permits r.true_forbids r.residual_forbids) in
        h ∙ (λ i. if met i then None else by i)
