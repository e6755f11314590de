-- Requests and their roots at a state of a session.
use Rattle.std.proofs.Common.{◌≡◌, true, false, Bool, Option, Some, None, Result, Ok, Err, IfOk, Contains, codes, not, is_some, inl, inr, ⊎_elim, refl, sym, ap, ◌∙◌, subst}
use Rattle.std.specs.Prelude.{◌&&◌}
use Rattle.cedar_expr_model.specs.Name.{Text}
use Rattle.cedar_expr_model.specs.Made.{Made}
use Rattle.cedar_expr_model.specs.Substitution.{Bindings}
use Rattle.cedar_evaluator_model.specs.Response.{PartialRequest}
use Rattle.cedar_evaluator_model.specs.Scope.{Entry, uid, unknown_uid, Context, closed, residual_fields, unknown_context, Stop, Left, value_left, residual, stopped}
use Rattle.cedar_expr_model.specs.Tree.{record_literal}
use Rattle.cedar_evaluator_restricted_exprs.specs.Lefts.{is_stopped}
use Rattle.cedar_evaluator_requests.specs.Views.{request_of}
use Rattle.cedar_evaluator_requests.specs.declared.request.Request.{Request}
use Rattle.cedar_evaluator_model.specs.Functions.{Functions}
use Rattle.cedar_gate_model.specs.Session.{State, value_of, known_now, entry_now, context_now, with_bound, ContextFails}
use Rattle.cedar_typechecker_model.specs.Slice.{roots}
use Rattle.cedar_typechecker_model.proofs.Mentions.{root_cases, root_from}
use Rattle.cedar_gate_model.proofs.Gate.Slices.{known_kept}
use Rattle.cedar_gate_model.proofs.Gate.Slices as slices
use Rattle.cedar_gate_model.proofs.Runs.Contexts.{binding_grows, entry_kept, context_kept}
use Rattle.cedar_gate_openings.specs.Laws.{RootsAreKnown, RootsAreListed, BindingIsMore}
use Rattle.cedar_gate_openings.specs.Requests.{entry_with, context_by, fails_by, request_by, request_at, fields_left, AreValuesOf}
use Rattle.cedar_gate_openings.specs.Roots.{known_roots}

-- the request of a state
entry_at : (s : State) (n : Text) (e : Entry) → entry_with (value_of s n) e ≡ entry_now s n e
entry_at s n (uid u) = refl
entry_at s n (unknown_uid k) = refl

context_at : (f : Functions) (s : State) (c : Context) → context_by f (value_of s) c ≡ context_now f s c
context_at f s (closed fs) = refl
context_at f s (residual_fields fs) = refl
context_at f s unknown_context = refl

at_values : (f : Functions) (s : State) (r : PartialRequest) → request_by f (value_of s) r ≡ request_at f s r
at_values f s r = λ i. record {
  principal = entry_at s (codes "principal") r.principal i;
  action = entry_at s (codes "action") r.action i;
  resource = entry_at s (codes "resource") r.resource i;
  context = context_at f s r.context i;
}

all_same : (s : State) (values : Bindings) → AreValuesOf s values → values ≡ value_of s
all_same s values same = λ i n. same n i

pub request_is : (f : Functions) (values : Bindings) (r q : PartialRequest) → q ≡ request_by f values r → (s : State) → AreValuesOf s values → q ≡ request_at f s r
request_is f values r q e s same = e ∙ ap (λ v. request_by f v r) (all_same s values same) ∙ at_values f s r

-- whether its context fails
never : true ≡ false → ⊥
never e = cc

stops : (l : Left) → is_stopped l ≡ true → (why : Stop) × (l ≡ stopped why)
stops (stopped why) e = (why, refl)
stops (value_left m) e = cc
stops (residual r) e = cc

fails_at : (f : Functions) (s : State) (c : Context) → fails_by f (value_of s) c ≡ true → ContextFails f s c
fails_at f s (closed fs) e = cc
fails_at f s (residual_fields fs) e = stops (fields_left f (value_of s) (record_literal fs)) e
fails_at f s unknown_context e = cc

evaluates_at : (f : Functions) (s : State) (c : Context) → fails_by f (value_of s) c ≡ false → ContextFails f s c → ⊥
evaluates_at f s (closed fs) e h = h
evaluates_at f s (residual_fields fs) e h = never (ap is_stopped (sym h.1) ∙ e)
evaluates_at f s unknown_context e h = h

pub it_fails : (f : Functions) (values : Bindings) (c : Context) (b : Bool) → b ≡ fails_by f values c → b ≡ true → (s : State) → AreValuesOf s values → ContextFails f s c
it_fails f values c b e h s same = fails_at f s c (sym (ap (λ v. fails_by f v c) (all_same s values same)) ∙ sym e ∙ h)

pub it_evaluates : (f : Functions) (values : Bindings) (c : Context) (b : Bool) → b ≡ fails_by f values c → b ≡ false → (s : State) → AreValuesOf s values → ContextFails f s c → ⊥
it_evaluates f values c b e h s same = evaluates_at f s c (sym (ap (λ v. fails_by f v c) (all_same s values same)) ∙ sym e ∙ h)

ok_maps : {A E : Type 0} {P Q : A → Type 0} (q : Result A E) → ((a : A) → P a → Q a) → IfOk q P → IfOk q Q
ok_maps (Ok a) f h = f a h
ok_maps (Err e) f h = tt

-- a request that is made of its parts
pub request_made : (f : Functions) (values : Bindings) (r q : PartialRequest) (p a o : Entry) (c : Context) → q ≡ record { principal = p; action = a; resource = o; context = c }
    → p ≡ entry_with (values (codes "principal")) r.principal → a ≡ entry_with (values (codes "action")) r.action → o ≡ entry_with (values (codes "resource")) r.resource → c ≡ context_by f values r.context
    → q ≡ request_by f values r
request_made f values r q p a o c e ep ea eo ec = e ∙ (λ i. record { principal = ep i; action = ea i; resource = eo i; context = ec i })

-- What a call answers of a request, and of whether its context fails, by values and whichever of these functions, holds at each state that
-- has these values.
module _ {E : Type 0} (Are : Functions → Type 0) (values : Bindings) (r : PartialRequest) (q : Result (Request × Bool) E) where
  pub at_states : IfOk q (λ p. (f : Functions) → Are f → request_of p.0 ≡ request_by f values r) → IfOk q (λ p. (f : Functions) → Are f → (s : State) → AreValuesOf s values → request_of p.0 ≡ request_at f s r)
  at_states h = ok_maps q (λ p e f a. request_is f values r (request_of p.0) (e f a)) h

  pub all_fail : IfOk q (λ p. (f : Functions) → Are f → p.1 ≡ fails_by f values r.context) → IfOk q (λ p. (f : Functions) → Are f → p.1 ≡ true → (s : State) → AreValuesOf s values → ContextFails f s r.context)
  all_fail h = ok_maps q (λ p e f a. it_fails f values r.context p.1 (e f a)) h

  pub none_fails : IfOk q (λ p. (f : Functions) → Are f → p.1 ≡ fails_by f values r.context) → IfOk q (λ p. (f : Functions) → Are f → p.1 ≡ false → (s : State) → AreValuesOf s values → ContextFails f s r.context → ⊥)
  none_fails h = ok_maps q (λ p e f a. it_evaluates f values r.context p.1 (e f a)) h

-- roots
pub roots_known : RootsAreKnown
roots_known x s r e = ap known_roots e

pub roots_listed : RootsAreListed
roots_listed x s r us e k u =
    let is : us ≡ roots (known_now x s) = k ∙ roots_known x s r e in
    (subst (λ vs. Contains vs u) is, subst (λ vs. Contains vs u) (sym is))

open_unvalued : (o : Option Made) (b : Bool) → (not (is_some o) && b) ≡ true → o ≡ None
open_unvalued None b e = refl
open_unvalued (Some m) b e = cc

pub binding_more : BindingIsMore
binding_more x s n m made e =
    let t = with_bound s n m in
    let grows = binding_grows s n m (open_unvalued (value_of s n) _ e) in
    record {
      asked = refl;
      more = λ u h.
          root_from (known_now x t) u
          (⊎_elim (λ k. inl (known_kept _ _ u (entry_kept s t grows (codes "principal") x.start.principal) k))
          (λ k. inr (⊎_elim (λ q. inl (known_kept _ _ u (entry_kept s t grows (codes "resource") x.start.resource) q))
          (λ q. inr (slices.context_kept _ _ u (context_kept x s t grows x.start.context made) q)) k)) (root_cases (known_now x s) u h));
    }
