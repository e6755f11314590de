-- The groups of policies of distinct ids, put in maps.
use Rattle.std.proofs.Common.{◌≡◌, ℕ, Bool, true, false, List, [], ◌∷◌, ◌++◌, map, Option, Some, None, refl, sym, ap, ◌∙◌, subst}
use Rattle.std.proofs.lemmas.List.{map-append}
use Rattle.std.proofs.lemmas.Slice.Eq.{bytes_eq-Decides}
use Rattle.std.specs.List.{filter_map}
use Rattle.std.specs.Str.{bytes_eq}
use Rattle.std.specs.declared.alloc.Global.{Global}
use Rattle.std.specs.declared.rc.Rc.{Rc}
use Rattle.cedar_expr_model.specs.Name.{Text}
use Rattle.cedar_expr_model.specs.ListLaws.{AreDistinct}
use Rattle.cedar_expr_model.specs.Made.{made_prim, made_set, made_record, made_extension}
use Rattle.cedar_expr_model.specs.Tree.{Tree}
use Rattle.cedar_expr_model.specs.Value.{truth, long, text, entity}
use Rattle.cedar_expr_trees.specs.declared.expr.Expr.{Expr}
use Rattle.cedar_store_model.specs.OfLaws.Distinct.{has_distinct_ids}
use Rattle.cedar_store_model.specs.Policy.{Policy, Effect, permit, forbid}
use Rattle.cedar_store_model.specs.PolicySet.{PolicySet}
use Rattle.cedar_store_model.proofs.Distinct.{distinct-Decides}
use Rattle.cedar_store_parts.specs.Parts.{id_text}
use Rattle.cedar_store_parts.specs.declared.policy_id.PolicyID.{PolicyID}
use Rattle.cedar_store_parts.specs.declared.annotation.Annotations.{Annotations}
use Rattle.cedar_evaluator_model.specs.Scope.{Scope, Left, value_left, residual, stopped}
use Rattle.cedar_evaluator_model.specs.Response.{PartialRequest, Noted, ErrorState, no_error, with_error, Response, noted, group, of_effect, if_true, if_false, if_residual, verdict, response_of}
use Rattle.cedar_evaluator_requests.specs.Views.{error_of}
use Rattle.cedar_evaluator_requests.specs.Groups.{noted_seen, false_seen, residual_seen, each_once}
use Rattle.cedar_evaluator_requests.specs.declared.groups.ErrorState as code
use Rattle.cedar_evaluator_requests.proofs.Once.{all_once}
use Rattle.cedar_evaluator.specs.Gathering.{gathered, each_kept}
use Rattle.cedar_evaluator.specs.declared.gathering.Gathering.{Gathering}
use Rattle.cedar_evaluator.proofs.Answered.{taken_apart, later_apart}

-- the ids of a set's policies are distinct where all ids are
pub policies_apart : (s : PolicySet) → has_distinct_ids s ≡ true → AreDistinct (map (λ p. p.id) s.policies)
policies_apart s h =
    later_apart (map (λ (p : Policy). p.id) s.templates) (map (λ (p : Policy). p.id) s.policies)
    (subst AreDistinct (map-append (λ (p : Policy). p.id) s.templates s.policies) ((distinct-Decides bytes_eq bytes_eq-Decides (map (λ (p : Policy). p.id) (s.templates ++ s.policies))).0 h))

-- entries each seen as what a group takes of a policy, under its id
module _ {V N : Type 0} (seen : PolicyID × V → N) (id : N → Text) (named : (e : PolicyID × V) → id (seen e) ≡ id_text e.0) where
  names : (es : List (PolicyID × V)) → map id (map seen es) ≡ map (λ e. id_text e.0) es
  names es = go es
    where
      go : (es : List (PolicyID × V)) → map id (map seen es) ≡ map (λ e. id_text e.0) es
      go [] = refl
      go (e ∷ es) = λ i. named e i ∷ go es i

  pub kept_once : (takes : Policy → Option N) → ((p : Policy) (a : N) → takes p ≡ Some a → id a ≡ p.id) → (ps : List Policy) → AreDistinct (map (λ p. p.id) ps) → (es : List (PolicyID × V)) → map seen es ≡ filter_map takes ps → each_once es ≡ es
  kept_once takes own ps d es h = all_once id_text es (subst AreDistinct (ap (map id) (sym h) ∙ names es) (taken_apart takes id own ps d))

-- what a group takes of a policy stands under the policy's id
module _ {N : Type 0} (id : N → Text) where
  pub of_effect_own : (e f : Effect) (o : Option N) (t : Text) → ((a : N) → o ≡ Some a → id a ≡ t) → (a : N) → of_effect e f o ≡ Some a → id a ≡ t
  of_effect_own permit permit o t h a k = h a k
  of_effect_own permit forbid o t h a k = cc
  of_effect_own forbid permit o t h a k = cc
  of_effect_own forbid forbid o t h a k = h a k

first_is : {A : Type 0} (a b : A) → Some a ≡ Some b → a ≡ b
first_is a b h = cc

own_true : (p : Policy) (l : Left) (a : Noted) → if_true p l ≡ Some a → a.id ≡ p.id
own_true p (value_left (made_prim (truth true))) a h = ap (λ n. n.id) (sym (first_is (noted p) a h))
own_true p (value_left (made_prim (truth false))) a h = cc
own_true p (value_left (made_prim (long n))) a h = cc
own_true p (value_left (made_prim (text t))) a h = cc
own_true p (value_left (made_prim (entity u))) a h = cc
own_true p (value_left (made_set ms)) a h = cc
own_true p (value_left (made_record fs)) a h = cc
own_true p (value_left (made_extension n k g ps)) a h = cc
own_true p (residual r) a h = cc
own_true p (stopped s) a h = cc

own_false : (p : Policy) (l : Left) (a : Noted × ErrorState) → if_false p l ≡ Some a → (a.0).id ≡ p.id
own_false p (value_left (made_prim (truth false))) a h = ap (λ n. (n.0).id) (sym (first_is (noted p, no_error) a h))
own_false p (value_left (made_prim (truth true))) a h = cc
own_false p (value_left (made_prim (long n))) a h = cc
own_false p (value_left (made_prim (text t))) a h = cc
own_false p (value_left (made_prim (entity u))) a h = cc
own_false p (value_left (made_set ms)) a h = cc
own_false p (value_left (made_record fs)) a h = cc
own_false p (value_left (made_extension n k g ps)) a h = cc
own_false p (residual r) a h = cc
own_false p (stopped s) a h = ap (λ n. (n.0).id) (sym (first_is (noted p, with_error) a h))

own_residual : (p : Policy) (l : Left) (a : Noted × Tree) → if_residual p l ≡ Some a → (a.0).id ≡ p.id
own_residual p (value_left m) a h = cc
own_residual p (residual r) a h = ap (λ n. (n.0).id) (sym (first_is (noted p, r) a h))
own_residual p (stopped s) a h = cc

module _ (s : Scope) (n : ℕ) (ps : List Policy) (d : AreDistinct (map (λ p. p.id) ps)) where
  true_kept : (e : Effect) (es : List (PolicyID × Rc Annotations Global)) → map noted_seen es ≡ group e (λ p. if_true p (verdict s n p)) ps → each_once es ≡ es
  true_kept e es h =
      let id_of : Noted → Text = λ m. m.id in
      kept_once noted_seen id_of (λ x. refl) (λ p. of_effect e p.effect (if_true p (verdict s n p))) (λ p a k. of_effect_own id_of e p.effect (if_true p (verdict s n p)) p.id (own_true p (verdict s n p)) a k) ps d es h

  false_kept : (e : Effect) (es : List (PolicyID × (code.ErrorState × Rc Annotations Global))) → map false_seen es ≡ group e (λ p. if_false p (verdict s n p)) ps → each_once es ≡ es
  false_kept e es h =
      let id_of : Noted × ErrorState → Text = λ m. (m.0).id in
      kept_once false_seen id_of (λ x. refl) (λ p. of_effect e p.effect (if_false p (verdict s n p))) (λ p a k. of_effect_own id_of e p.effect (if_false p (verdict s n p)) p.id (own_false p (verdict s n p)) a k) ps d es h

  residual_kept : (e : Effect) (es : List (PolicyID × (Rc (Expr Unit) Global × Rc Annotations Global))) → map residual_seen es ≡ group e (λ p. if_residual p (verdict s n p)) ps → each_once es ≡ es
  residual_kept e es h =
      let id_of : Noted × Tree → Text = λ m. (m.0).id in
      kept_once residual_seen id_of (λ x. refl) (λ p. of_effect e p.effect (if_residual p (verdict s n p))) (λ p a k. of_effect_own id_of e p.effect (if_residual p (verdict s n p)) p.id (own_residual p (verdict s n p)) a k) ps d es h

  -- a response of the groups that were gathered
  pub all_kept : (q asked : PartialRequest) (g : Gathering) → q ≡ asked → gathered asked g ≡ response_of s n ps
      → each_kept q g ≡ response_of s n ps
  all_kept q asked g same h =
      let tp = true_kept permit g.true_permits.items (ap (λ (r : Response). r.true_permits) h) in
      let fp = false_kept permit g.false_permits.items (ap (λ (r : Response). r.false_permits) h) in
      let rp = residual_kept permit g.residual_permits.items (ap (λ (r : Response). r.residual_permits) h) in
      let tf = true_kept forbid g.true_forbids.items (ap (λ (r : Response). r.true_forbids) h) in
      let ff = false_kept forbid g.false_forbids.items (ap (λ (r : Response). r.false_forbids) h) in
      let rf = residual_kept forbid g.residual_forbids.items (ap (λ (r : Response). r.residual_forbids) h) in
      (λ i. record {
        true_permits = map noted_seen (tp i);
        false_permits = map false_seen (fp i);
        residual_permits = map residual_seen (rp i);
        true_forbids = map noted_seen (tf i);
        false_forbids = map false_seen (ff i);
        residual_forbids = map residual_seen (rf i);
        errors = map error_of g.errors.items;
        request = same i;
      }) ∙ h
