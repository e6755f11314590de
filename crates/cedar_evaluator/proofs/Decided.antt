-- What a decision says, by the laws.
use Rattle.std.proofs.Common.{◌≡◌, ℕ, Bool, true, false, List, Option, Some, None, refl, sym, ap, ◌∙◌, subst}
use Rattle.std.specs.Prelude.{All, if◌then◌else◌}
use Rattle.cedar_expr_model.specs.ListLaws.{AreDistinct}
use Rattle.cedar_store_model.specs.Answer.{Decision, answer_of, ids}
use Rattle.cedar_store_model.specs.Policy.{Policy}
use Rattle.cedar_store_model.specs.World.{World}
use Rattle.cedar_evaluator_model.specs.Members.{bounds_in_session, concretize, decision, decision_in_session, met_limit}
use Rattle.cedar_evaluator_model.specs.Known.{known_world}
use Rattle.cedar_evaluator_model.specs.Laws.{IsBound, IsReady, WithinLimit, as_concrete}
use Rattle.cedar_evaluator_model.specs.OfLaws.WellMade.{AllAreValues}
use Rattle.cedar_evaluator_model.specs.Response.{Response, response_of}
use Rattle.cedar_evaluator_model.specs.ResponseLaws.{IsKept}
use Rattle.cedar_evaluator_model.specs.Scope.{Scope}
use Rattle.cedar_evaluator_model.proofs.Forced.{forbid_forces, permit_forces, no_permit_forces}
use Rattle.cedar_evaluator_model.proofs.Limits.{none_met}
use Rattle.cedar_evaluator_model.proofs.Represented.{all_well}
use Rattle.cedar_evaluator_model.proofs.Residuals.Decisions.{given, bounds_hold}
use Rattle.cedar_evaluator_model.proofs.Residuals.Kept.{keeps_satisfied}
use Rattle.cedar_evaluator_model.proofs.Responses.{answers}
use Rattle.cedar_evaluator.specs.Completed.{HoldsIn, IsCompletionFor, IsForced}
use Rattle.cedar_evaluator.specs.Decisions.{IsClosedFor, IsDecision}

-- where no policy met the limit, a session's decision is the decision
open_session : (r : Response) (b : Bool) → b ≡ false → (if b then None else decision r) ≡ decision r
open_session r true e = cc
open_session r false e = refl

same_session : (r : Response) → met_limit r ≡ false → decision_in_session r ≡ decision r
same_session r e = open_session r (met_limit r) e

-- the decision of a response to policies is the session's
decides : (r q : Response) (o : Option Decision) → o ≡ decision r → r ≡ q → met_limit q ≡ false → o ≡ decision_in_session q
decides r q o h same m = h ∙ ap decision same ∙ sym (same_session q m)

-- the decision that is owed
pub is_forced : (s : Scope) (n : ℕ) (ps : List Policy) (r : Response) (o : Option Decision) → o ≡ decision r → r ≡ response_of s n ps → IsReady s n ps → IsForced (known_world s) ps o
is_forced s n ps r o h same ready = record {
  by_forbid = λ p c f i. decides r (response_of s n ps) o h same ready.within ∙ forbid_forces s n ps ready p c f i;
  by_permit = λ out p c f i. decides r (response_of s n ps) o h same ready.within ∙ permit_forces s n ps ready out p c f i;
  by_no_permit = λ out. decides r (response_of s n ps) o h same ready.within ∙ no_permit_forces s n ps ready out;
}

pub is_decision : (r : Response) (o : Option Decision) → o ≡ decision r → IsDecision r o
is_decision r o h = record {
  given = λ s n ps same m v w k d e. given s k.agrees (all_well s v k.represented) n ps d (sym (decides r (response_of s n ps) o h same (ap met_limit (sym same) ∙ m)) ∙ e) w k.completes k.fits;
  owed = λ s n ps same ready. is_forced s n ps r o h same ready;
}

-- what a response to policies of distinct ids says in a completion
pub holds_in : (s : Scope) (n : ℕ) (ps : List Policy) → AreDistinct (ids ps) → (r : Response) → r ≡ response_of s n ps → AllAreValues s → (w : World) → IsCompletionFor w s ps → HoldsIn w ps r
holds_in s n ps d r same v w k = let made = all_well s v k.represented in record {
  decides = λ m e h. given s k.agrees made n ps e (sym (decides r (response_of s n ps) (decision r) refl same (ap met_limit (sym same) ∙ m)) ∙ h) w k.completes k.fits;
  bounds = λ b h. bounds_hold s k.agrees made n ps b (ap (bounds_in_session ps) (sym same) ∙ h) w k.completes k.fits;
  keeps = λ m p h. subst (λ q. IsKept w q p) (sym same) (keeps_satisfied s k.agrees made n ps d (ap met_limit (sym same) ∙ m) w k.completes k.fits p h);
}

-- where nothing is unknown and everything is loaded the answer is that by what the policies mean
bound_each : (s : Scope) (n : ℕ) (ps : List Policy) → All (WithinLimit s n) ps → All (IsBound s) ps
bound_each s n ps h j d lt = (h j d lt).0

pub closed_answer : (s : Scope) (n : ℕ) (ps : List Policy) → IsClosedFor s n ps → concretize (response_of s n ps) ≡ as_concrete (answer_of (known_world s) ps)
closed_answer s n ps k = answers s k.agrees k.known k.loaded n ps (bound_each s n ps k.within) (none_met s k.agrees k.known n ps k.within)
