-- What reauthorizing makes, step by step, and what it keeps by the laws.
use Rattle.std.proofs.Common.{◌≡◌, ℕ, Bool, true, false, List, Option, Some, None, refl, sym, ap, ◌∙◌, subst, if◌then◌else◌}
use Rattle.std.specs.Option.{option_map_or}
use Rattle.std.specs.Prelude.{is_none, Result, Ok, Err, IfOk, IfSome, IsErrAnd}
use Rattle.std.specs.Str.{bytes_eq}
use Rattle.cedar_expr_model.specs.Canonical.{is_canonical}
use Rattle.cedar_expr_model.specs.Made.{bare}
use Rattle.cedar_expr_model.specs.Name.{Text}
use Rattle.cedar_expr_model.specs.Repeats.{repeated}
use Rattle.cedar_expr_model.specs.Substitution.{Bindings}
use Rattle.cedar_store_model.specs.Answer.{ids}
use Rattle.cedar_store_model.specs.Policy.{Policy}
use Rattle.cedar_store_model.specs.World.{World}
use Rattle.cedar_evaluator_model.specs.Members.{all_residuals}
use Rattle.cedar_evaluator_model.specs.Reauthorize.{Outcome, makes_it, refuses, Refusal, repeated_id, and_next, distinct, request_bound, reauthorized, resumed}
use Rattle.cedar_evaluator_model.specs.ReauthorizeLaws.{CompletesResponse, FitsStep, Step}
use Rattle.cedar_evaluator_model.specs.OfLaws.WellMade.{IsContextCanonical, AllAreValues}
use Rattle.cedar_evaluator_model.specs.Response.{PartialRequest, Response, response_of}
use Rattle.cedar_evaluator_model.specs.Scope.{Scope}
use Rattle.cedar_evaluator_model.proofs.Again.{again_leaves_none, again_answers}
use Rattle.cedar_evaluator_model.proofs.Represented.{all_well, value_well, context_well, context_represented}
use Rattle.cedar_evaluator_model.proofs.Residuals.Chains.{parts_of, reauthorizing_completes, reauthorizing_decides, reauthorizing_keeps}
use Rattle.cedar_store_parts.specs.Parts.{id_text}
use Rattle.cedar_store_policies.specs.SetRefusals.{RefusesIds}
use Rattle.cedar_store_parts.specs.declared.err.PolicySetError.{PolicySetError}
use Rattle.cedar_store_parts.specs.declared.err.PolicySetError.TheVariants as adding
use Rattle.cedar_evaluator.specs.Again.{IsAgain, FitsAgain, CompletesLeft}
use Rattle.cedar_evaluator_contexts.specs.Refusals.{is_request_memory, refusal_or}
use Rattle.cedar_evaluator.specs.Refusals.{as_reauthorization, is_again_memory, refused_or, set_refusal, Reauthorizes}
use Rattle.cedar_evaluator.specs.Responses.{response_seen}
use Rattle.cedar_evaluator_contexts.specs.declared.err.ConcretizationError as code
use Rattle.cedar_evaluator.specs.declared.err.ReauthorizationError.{ReauthorizationError}
use Rattle.cedar_evaluator.specs.declared.err.ReauthorizationError.TheVariants.{OutOfMemory, ConcretizationError}
use Rattle.cedar_evaluator.specs.declared.partial_response.PartialResponse.{PartialResponse}

-- the request of what is made is the one that is bound
pub asked_again : (s : Scope) (n : ℕ) (env : Bindings) (r q : Response) → reauthorized s n env r ≡ makes_it q → request_bound s env r.request ≡ makes_it q.request
asked_again s n env r q e = let p = (parts_of s n env r q e).1 in p.1 ∙ ap makes_it (sym (ap (λ (x : Response). x.request) p.2))

-- Of values alone: the scope of a step, its values, and the context of a response.
pub record AreOfValues (x : Step) (r : Response) : Type 0 where
  pub scope : AllAreValues x.scope
  pub bound : (n : Text) → IfSome (x.values n) (λ m. is_canonical (bare m) ≡ true)
  pub context : IsContextCanonical r.request.context

module _ (x : Step) (r : Response) (v : AreOfValues x r) (w : World) where
  fits_step : FitsAgain w x → FitsStep w x
  fits_step f = record {
    agrees = f.agrees;
    made = all_well x.scope v.scope f.represented;
    completes = f.completes;
    binds = record { means = f.means; made = λ n. value_well w.table (x.values n) (v.bound n) (f.bound n) };
  }

  completes_response : CompletesLeft w r → CompletesResponse w r
  completes_response h = record { request = record { means = h.request; made = context_well w.table r.request.context v.context h.represented }; fits = h.fits }

completes_left : (w : World) (q : Response) → CompletesResponse w q → CompletesLeft w q
completes_left w q h = record { request = (h.request).means; represented = context_represented w.table q.request.context (h.request).made; fits = h.fits }

pub is_again : (x : Step) (r q : Response) → AreOfValues x r → reauthorized x.scope x.depth x.values r ≡ makes_it q → IsAgain x r q
is_again x r q v e = record {
  completes = λ w f h. completes_left w q (reauthorizing_completes w x (fits_step x r v w f) r q (completes_response x r v w h) e);
  keeps = λ w f h. reauthorizing_keeps w x (fits_step x r v w f) r q (completes_response x r v w h) e;
  decides = λ w f h. reauthorizing_decides w x (fits_step x r v w f) r q (completes_response x r v w h) e;
  leaves_none = λ k. again_leaves_none x.scope x.depth x.values r q q.request (asked_again x.scope x.depth x.values r q e) e k.agrees k.known k.loaded k.bound;
  answers = λ k m. again_answers x.scope x.depth x.values r q q.request (asked_again x.scope x.depth x.values r q e) e k.agrees k.known k.loaded k.bound m;
}

-- the policies of distinct ids, and those of which one stands twice
distinct_if : (ps : List Policy) (o : Option Text) → repeated bytes_eq (ids ps) ≡ o → distinct ps ≡ option_map_or (λ i. refuses (repeated_id i)) o (makes_it ps)
distinct_if ps o e = ap (λ x. option_map_or (λ i. refuses (repeated_id i)) x (makes_it ps)) e

none_from : {A : Type 0} (o : Option A) → is_none o ≡ true → o ≡ None
none_from None e = refl
none_from (Some a) e = cc

pub are_distinct : (ps : List Policy) → is_none (repeated bytes_eq (ids ps)) ≡ true → distinct ps ≡ makes_it ps
are_distinct ps e = distinct_if ps None (none_from (repeated bytes_eq (ids ps)) e)

pub are_repeated : (ps : List Policy) (i : Text) → repeated bytes_eq (ids ps) ≡ Some i → distinct ps ≡ refuses (repeated_id i)
are_repeated ps i e = distinct_if ps (Some i) e

-- the policies, then the request, then the response
module _ (s : Scope) (n : ℕ) (env : Bindings) (r : Response) where
  abbrev with_request : List Policy → PartialRequest → Outcome Response
  with_request ps c = makes_it (response_of (resumed s env c) n ps)

  abbrev with_policies : List Policy → Outcome Response
  with_policies ps = and_next (request_bound s env r.request) (with_request ps)

  pub first_step : (o : Outcome (List Policy)) → distinct (all_residuals r) ≡ o → reauthorized s n env r ≡ and_next o with_policies
  first_step o h = ap (λ x. and_next x with_policies) h

  pub second_step : (o : Outcome PartialRequest) → distinct (all_residuals r) ≡ makes_it (all_residuals r) → request_bound s env r.request ≡ o → reauthorized s n env r ≡ and_next o (with_request (all_residuals r))
  second_step o h k = first_step (makes_it (all_residuals r)) h ∙ ap (λ x. and_next x (with_request (all_residuals r))) k

-- refusals that are handed on
pub memory_passed : (o : Outcome Response) (r : Result PartialResponse ReauthorizationError) → IsErrAnd r (λ y. y ≡ OutOfMemory) → Reauthorizes o r
memory_passed o (Ok q) same = absurd same
memory_passed o (Err y) same = λ other m. let t = ap is_again_memory (sym same) ∙ m in absurd (cc)

pub set_told : (s : Scope) (n : ℕ) (env : Bindings) (r : Response) (e : PolicySetError) → RefusesIds (ids (all_residuals r)) e → (other : Refusal) → is_again_memory (set_refusal e) ≡ false → reauthorized s n env r ≡ refuses (refused_or other (set_refusal e))
set_told s n env r adding.OutOfMemory h other m = cc
set_told s n env r (adding.Occupied i) h other m = first_step s n env r (refuses (repeated_id (id_text i))) (are_repeated (all_residuals r) (id_text i) h)

pub set_passed : (s : Scope) (n : ℕ) (env : Bindings) (r : Response) (e : PolicySetError) (q : Result PartialResponse ReauthorizationError) → IsErrAnd q (λ y. y ≡ set_refusal e) → RefusesIds (ids (all_residuals r)) e → Reauthorizes (reauthorized s n env r) q
set_passed s n env r e (Ok q) same h = absurd same
set_passed s n env r e (Err y) same h = λ other m. set_told s n env r e h other (subst (λ z. is_again_memory z ≡ false) same m) ∙ ap (λ z. refuses (refused_or other z)) (sym same)

request_case : (e : code.ConcretizationError) (b : Bool) → is_request_memory e ≡ b → (o : Outcome PartialRequest) (p : Outcome Response) → ((other : Refusal) → is_request_memory e ≡ false → o ≡ refuses (refusal_or other e)) → ((f : Refusal) → o ≡ refuses f → p ≡ refuses f)
    → (other : Refusal) → is_again_memory (as_reauthorization e) ≡ false → p ≡ refuses (refused_or other (as_reauthorization e))
request_case e true h o p told next other m =
    let t : is_again_memory (as_reauthorization e) ≡ true = ap (λ b. is_again_memory (if b then OutOfMemory else ConcretizationError e)) h in
    let f = sym t ∙ m in
    absurd (cc)
request_case e false h o p told next other m = next (refusal_or other e) (told other h) ∙ ap (λ b. refuses (refused_or other (if b then OutOfMemory else ConcretizationError e))) (sym h)

pub request_passed : (s : Scope) (n : ℕ) (env : Bindings) (r : Response) (e : code.ConcretizationError) (q : Result PartialResponse ReauthorizationError) → IsErrAnd q (λ y. y ≡ as_reauthorization e) → distinct (all_residuals r) ≡ makes_it (all_residuals r)
    → ((other : Refusal) → is_request_memory e ≡ false → request_bound s env r.request ≡ refuses (refusal_or other e)) → Reauthorizes (reauthorized s n env r) q
request_passed s n env r e (Ok q) same d h = absurd same
request_passed s n env r e (Err y) same d h = λ other m.
    request_case e (is_request_memory e) refl (request_bound s env r.request) (reauthorized s n env r) h (λ f k. second_step s n env r (refuses f) d k) other (subst (λ z. is_again_memory z ≡ false) same m)
    ∙ ap (λ z. refuses (refused_or other z)) (sym same)

-- what is made keeps the laws
pub again_laws : (x : Step) (r : Response) (q : Result PartialResponse ReauthorizationError) → AreOfValues x r → Reauthorizes (reauthorized x.scope x.depth x.values r) q → IfOk q (λ p. IsAgain x r (response_seen p))
again_laws x r (Ok q) v h = is_again x r (response_seen q) v h
again_laws x r (Err e) v h = tt
