-- Which answer, and which response, is given.
-- Rule: partial responses; completions (docs/RULES.md).
use Rattle.std.specs.Prelude.{◌≡◌, ℕ, List, Result, IfOk}
use Rattle.std.specs.declared.alloc.AllocError.{AllocError}
use Rattle.cedar_expr_model.specs.Substitution.{Bindings}
use Rattle.cedar_store_model.specs.Answer as model
use Rattle.cedar_store_model.specs.Policy.{Policy}
use Rattle.cedar_store_model.specs.World.{World}
use Rattle.cedar_evaluator_model.specs.Known.{known_world}
use Rattle.cedar_evaluator_model.specs.Laws.{as_concrete}
use Rattle.cedar_evaluator_model.specs.Members.{Concrete, concretize, decision}
use Rattle.cedar_evaluator_model.specs.Response.{PartialRequest, Response, response_of}
use Rattle.cedar_evaluator_model.specs.Scope.{Scope}
use Rattle.cedar_evaluator_requests.specs.Views.{answer_of}
use Rattle.cedar_evaluator_requests.specs.declared.response.Response as code
use Rattle.cedar_evaluator.specs.Again.{IsAgain}
use Rattle.cedar_evaluator.specs.Completed.{HoldsIn, IsCompletionFor, IsForced}
use Rattle.cedar_evaluator.specs.Gathering.{gathered}
use Rattle.cedar_evaluator.specs.Responses.{response_seen}
use Rattle.cedar_evaluator.specs.declared.err.ReauthorizationError.{ReauthorizationError}
use Rattle.cedar_evaluator.specs.declared.gathering.Gathering.{Gathering}
use Rattle.cedar_evaluator.specs.declared.partial_response.PartialResponse.{PartialResponse}

-- what is left of the policies, as an answer in which each residual is an error
abbrev pub answer_left : Scope → ℕ → List Policy → Concrete
answer_left s n ps = concretize (response_of s n ps)

-- the answer by what the policies mean, of what is known in the scope
abbrev pub answer_meant : Scope → List Policy → Concrete
answer_meant s ps = as_concrete (model.answer_of (known_world s) ps)

-- This is answered, but when out of memory.
abbrev pub Answers : Concrete → Result code.Response AllocError → Type 0
Answers c r = IfOk r (λ a. answer_of a ≡ c)

-- This response is given, but when out of memory.
abbrev pub Responds : Response → Result PartialResponse AllocError → Type 0
Responds m r = IfOk r (λ x. response_seen x ≡ m)

-- What is given holds in each completion of the scope, for these policies.
abbrev pub HoldsInCompletions : Scope → List Policy → Result PartialResponse AllocError → Type 0
HoldsInCompletions s ps r = (w : World) → IsCompletionFor w s ps → IfOk r (λ x. HoldsIn w ps (response_seen x))

-- The decision of what is given is that which what is known in the scope forces.
abbrev pub DecidesForced : Scope → List Policy → Result PartialResponse AllocError → Type 0
DecidesForced s ps r = IfOk r (λ x. IsForced (known_world s) ps (decision (response_seen x)))

-- Of this request these groups are gathered, but when out of memory.
abbrev pub Gathers : PartialRequest → Response → Result Gathering AllocError → Type 0
Gathers q m r = IfOk r (λ g. gathered q g ≡ m)

-- What is given is what this response becomes by the step to these values.
abbrev pub StepsTo : Scope → ℕ → Bindings → Response → Result PartialResponse ReauthorizationError → Type 0
StepsTo s n b m r = IfOk r (λ x. IsAgain (record { scope = s; depth = n; values = b }) m (response_seen x))
