-- What the laws of reauthorizing say of the completions of a scope.
-- Rule: reauthorizing; completions (docs/RULES.md).
use Rattle.std.specs.Prelude.{◌≡◌, ℕ, List, [], ◌∷◌, Contains, Some, option_map, false, codes}
use Rattle.cedar_expr_model.specs.Name.{Text}
use Rattle.cedar_expr_model.specs.Made.{bare}
use Rattle.cedar_expr_model.specs.ListLaws.{AreDistinct}
use Rattle.cedar_expr_model.specs.Substitution.{Bindings}
use Rattle.cedar_store_model.specs.World.{World}
use Rattle.cedar_store_model.specs.OfLaws.Extends.{Keeps}
use Rattle.cedar_store_model.specs.Policy.{Policy}
use Rattle.cedar_store_model.specs.Answer.{Decision, ids, decision_of}
use Rattle.cedar_evaluator_model.specs.Scope.{Scope}
use Rattle.cedar_evaluator_model.specs.OfLaws.Calls.{Agrees}
use Rattle.cedar_evaluator_model.specs.OfLaws.WellMade.{IsMadeWell, IsContextMadeWell, AllMadeWell}
use Rattle.cedar_evaluator_model.specs.OfLaws.Completing.{EntryMeans, ContextMeans, Completes}
use Rattle.cedar_evaluator_model.specs.Response.{PartialRequest, Response, response_of}
use Rattle.cedar_evaluator_model.specs.Members.{all_residuals, get, met_limit, decision_in_session}
use Rattle.cedar_evaluator_model.specs.Reauthorize.{makes_it, reauthorized}
use Rattle.cedar_evaluator_model.specs.ResponseLaws.{FitConditions, IsKept}

-- In the world each part of a request means what it says there.
pub record MeansRequest (w : World) (q : PartialRequest) : Type 0 where
  pub principal : EntryMeans w (codes "principal") q.principal w.principal
  pub action : EntryMeans w (codes "action") q.action w.action
  pub resource : EntryMeans w (codes "resource") q.resource w.resource
  pub context : ContextMeans w q.context w.context

-- It completes a request, and the values of its context are well made.
pub record CompletesRequest (w : World) (q : PartialRequest) : Type 0 where
  pub means : MeansRequest w q
  pub made : IsContextMadeWell w.table q.context

-- It completes what a response leaves open: its request, and the annotations of what is left of the policies fit.
pub record CompletesResponse (w : World) (r : Response) : Type 0 where
  pub request : CompletesRequest w r.request
  pub fits : FitConditions w (all_residuals r)

-- The values are well made, and are what their names mean in the world.
pub record BindsRightly (w : World) (env : Bindings) : Type 0 where
  pub means : (n : Text) → Keeps (option_map bare (env n)) (w.unknowns n)
  pub made : (n : Text) → IsMadeWell w.table (env n)

-- One time of reauthorizing: over which scope, to which depth, and under which values.
pub record Step : Type 0 where
  pub scope : Scope
  pub depth : ℕ
  pub values : Bindings

-- The calls of the scope answer as its table does, its values are well made, the world completes it, and the values fit the world.
pub record FitsStep (w : World) (x : Step) : Type 0 where
  pub agrees : Agrees x.scope
  pub made : AllMadeWell x.scope
  pub completes : Completes w x.scope
  pub binds : BindsRightly w x.values

-- A completion of a scope that fits the policies completes their response;
abbrev pub ResponsesAreCompleted : Type 0
ResponsesAreCompleted = (s : Scope) → Agrees s → AllMadeWell s → (n : ℕ) (ps : List Policy) (w : World) → Completes w s → FitConditions w ps → CompletesResponse w (response_of s n ps)

-- and what completes a response and fits a step completes the response that reauthorizing makes.
abbrev pub ReauthorizingCompletes : Type 0
ReauthorizingCompletes = (w : World) (x : Step) → FitsStep w x → (r q : Response) → CompletesResponse w r → reauthorized x.scope x.depth x.values r ≡ makes_it q → CompletesResponse w q

-- There, where no policy met the limit, each policy of the response is kept;
abbrev pub ReauthorizingKeeps : Type 0
ReauthorizingKeeps =
    (w : World) (x : Step) → FitsStep w x → (r q : Response) → CompletesResponse w r → reauthorized x.scope x.depth x.values r ≡ makes_it q → met_limit q ≡ false
    → (i : Text) (p : Policy) → get r i ≡ Some p → IsKept w q p

-- and a decision that is given is that of what was left of the policies.
abbrev pub ReauthorizingDecides : Type 0
ReauthorizingDecides =
    (w : World) (x : Step) → FitsStep w x → (r q : Response) → CompletesResponse w r → reauthorized x.scope x.depth x.values r ≡ makes_it q
    → (d : Decision) → decision_in_session q ≡ Some d → d ≡ decision_of w (all_residuals r)

-- Reauthorizing by steps that fit the world comes from the first response to the second, and no policy meets the limit on the way.
abbrev pub Chain : World → Response → List Step → Response → Type 0
Chain w r [] q = r ≡ q
Chain w r (x ∷ xs) q = (y : Response) × FitsStep w x × (reauthorized x.scope x.depth x.values r ≡ makes_it y) × (met_limit y ≡ false) × Chain w y xs q

-- The policies of distinct ids whose response begins a chain: the world completes their scope and fits them, and no policy met the limit.
pub record BeginsIn (w : World) (s : Scope) (n : ℕ) (ps : List Policy) : Type 0 where
  pub agrees : Agrees s
  pub made : AllMadeWell s
  pub completes : Completes w s
  pub fits : FitConditions w ps
  pub distinct : AreDistinct (ids ps)
  pub within : met_limit (response_of s n ps) ≡ false

-- At the end of a chain each policy is kept,
abbrev pub ChainsKeep : Type 0
ChainsKeep =
    (w : World) (s : Scope) (n : ℕ) (ps : List Policy) → BeginsIn w s n ps → (xs : List Step) (q : Response) → Chain w (response_of s n ps) xs q → (p : Policy) → Contains ps p → IsKept w q p

-- a decision that is given is the decision in the world,
abbrev pub ChainsDecide : Type 0
ChainsDecide =
    (w : World) (s : Scope) (n : ℕ) (ps : List Policy) → BeginsIn w s n ps → (xs : List Step) (q : Response) → Chain w (response_of s n ps) xs q
    → (d : Decision) → decision_in_session q ≡ Some d → d ≡ decision_of w ps

-- and so it is one that is given afresh over any scope that the world completes.
abbrev pub ChainsAgree : Type 0
ChainsAgree =
    (w : World) (s : Scope) (n : ℕ) (ps : List Policy) → BeginsIn w s n ps → (xs : List Step) (q : Response) → Chain w (response_of s n ps) xs q
    → (t : Scope) → Agrees t → AllMadeWell t → Completes w t → (m : ℕ) (d e : Decision) → decision_in_session q ≡ Some d → decision_in_session (response_of t m ps) ≡ Some e → d ≡ e
