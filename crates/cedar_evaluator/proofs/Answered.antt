-- Policies answered one after the other, and the ids in a group of policies of distinct ids.
use Rattle.std.proofs.Common.{◌≡◌, ℕ, Bool, true, false, List, [], ◌∷◌, ◌++◌, map, Option, Some, None, Contains, refl, sym, ap, ◌∙◌, subst}
use Rattle.std.proofs.lemmas.List.Elements.{filter_map-append}
use Rattle.std.specs.List.{filter_map, cons_option}
use Rattle.cedar_expr_model.specs.Name.{Text}
use Rattle.cedar_expr_model.specs.ListLaws.{AreDistinct}
use Rattle.cedar_expr_model.proofs.Lists.{contains_head, contains_tail, contains_cases, contains_none}
use Rattle.cedar_store_model.specs.Policy.{Policy, permit, forbid}
use Rattle.cedar_evaluator_model.specs.Scope.{Scope}
use Rattle.cedar_evaluator_model.specs.Response.{of_effect, if_true, if_false, if_residual, if_stopped, verdict, response_of}
use Rattle.cedar_evaluator.specs.Gathering.{with_left}

-- one policy more
pub one_more_answered : (s : Scope) (n : ℕ) (ps : List Policy) (p : Policy) → response_of s n (ps ++ p ∷ []) ≡ with_left (response_of s n ps) p (verdict s n p)
one_more_answered s n ps p = λ i. record (response_of s n ps) {
  true_permits = filter_map-append (λ q. of_effect permit q.effect (if_true q (verdict s n q))) ps (p ∷ []) i;
  false_permits = filter_map-append (λ q. of_effect permit q.effect (if_false q (verdict s n q))) ps (p ∷ []) i;
  residual_permits = filter_map-append (λ q. of_effect permit q.effect (if_residual q (verdict s n q))) ps (p ∷ []) i;
  true_forbids = filter_map-append (λ q. of_effect forbid q.effect (if_true q (verdict s n q))) ps (p ∷ []) i;
  false_forbids = filter_map-append (λ q. of_effect forbid q.effect (if_false q (verdict s n q))) ps (p ∷ []) i;
  residual_forbids = filter_map-append (λ q. of_effect forbid q.effect (if_residual q (verdict s n q))) ps (p ∷ []) i;
  errors = filter_map-append (λ q. if_stopped q (verdict s n q)) ps (p ∷ []) i;
}

-- what is taken of some policies, each under its own id
module _ {A : Type 0} (takes : Policy → Option A) (id : A → Text) (own : (p : Policy) (a : A) → takes p ≡ Some a → id a ≡ p.id) where
  taken_case : (p : Policy) (o : Option A) → takes p ≡ o → (as_ : List A) (ps : List Policy) (t : Text) → (Contains (map id as_) t → Contains (map (λ q. q.id) ps) t) → Contains (map id (cons_option o as_)) t → Contains (p.id ∷ map (λ q. q.id) ps) t
  taken_case p None e as_ ps t rest h = contains_tail p.id (map (λ (q : Policy). q.id) ps) t (rest h)
  taken_case p (Some a) e as_ ps t rest h =
      contains_cases (Contains (p.id ∷ map (λ q. q.id) ps) t) (id a) (map id as_) t h
      (λ k. subst (Contains (p.id ∷ map (λ (q : Policy). q.id) ps)) (sym (own p a e) ∙ k) (contains_head p.id (map (λ (q : Policy). q.id) ps)))
      (λ k. contains_tail p.id (map (λ (q : Policy). q.id) ps) t (rest k))

  pub taken_of : (ps : List Policy) (t : Text) → Contains (map id (filter_map takes ps)) t → Contains (map (λ q. q.id) ps) t
  taken_of [] t h = absurd (contains_none t h)
  taken_of (p ∷ ps) t h = taken_case p (takes p) refl (filter_map takes ps) ps t (taken_of ps t) h

  apart_case : (p : Policy) (o : Option A) → takes p ≡ o → (ps : List Policy) → ¬ (Contains (map (λ q. q.id) ps) p.id) → AreDistinct (map id (filter_map takes ps)) → AreDistinct (map id (cons_option o (filter_map takes ps)))
  apart_case p None e ps n d = d
  apart_case p (Some a) e ps n d = (λ h. n (taken_of ps p.id (subst (Contains (map id (filter_map takes ps))) (own p a e) h)), d)

  -- they are distinct where the policies' are
  pub taken_apart : (ps : List Policy) → AreDistinct (map (λ q. q.id) ps) → AreDistinct (map id (filter_map takes ps))
  taken_apart [] d = tt
  taken_apart (p ∷ ps) d = apart_case p (takes p) refl ps d.0 (taken_apart ps d.1)

-- the last of a row that is distinct is distinct too
pub later_apart : (front back : List Text) → AreDistinct (front ++ back) → AreDistinct back
later_apart [] back d = d
later_apart (t ∷ front) back d = later_apart front back d.1
