-- What the refusals of reauthorizing say.
-- Rule: reauthorizing (docs/RULES.md).
use Rattle.std.specs.Prelude.{◌≡◌, Bool, true, false, Result, Ok, Err, if◌then◌else◌}
use Rattle.cedar_store_parts.specs.Parts.{id_text}
use Rattle.cedar_store_parts.specs.declared.err.PolicySetError.{PolicySetError}
use Rattle.cedar_store_parts.specs.declared.err.PolicySetError.TheVariants as adding
use Rattle.cedar_evaluator_model.specs.Reauthorize.{Refusal, repeated_id, Outcome, makes_it, refuses}
use Rattle.cedar_evaluator_model.specs.Response.{Response}
use Rattle.cedar_evaluator_contexts.specs.Refusals.{is_request_memory, refusal_or}
use Rattle.cedar_evaluator_contexts.specs.declared.err.ConcretizationError.{ConcretizationError}
use Rattle.cedar_evaluator.specs.Responses.{response_seen}
use Rattle.cedar_evaluator.specs.declared.err.ReauthorizationError.{ReauthorizationError}
use Rattle.cedar_evaluator.specs.declared.err.ReauthorizationError.TheVariants as reauthorization
use Rattle.cedar_evaluator.specs.declared.partial_response.PartialResponse.{PartialResponse}

-- an error of a set of policies and one of a request as those of reauthorizing: out of memory stays itself
abbrev pub set_refusal : PolicySetError → ReauthorizationError
set_refusal adding.OutOfMemory = reauthorization.OutOfMemory
set_refusal (adding.Occupied i) = reauthorization.PolicySetError (adding.Occupied i)

abbrev pub as_reauthorization : ConcretizationError → ReauthorizationError
as_reauthorization e = if is_request_memory e then reauthorization.OutOfMemory else reauthorization.ConcretizationError e

-- whether it is out of memory, and which refusal of the model it reports
abbrev pub is_set_memory : PolicySetError → Bool
is_set_memory adding.OutOfMemory = true
is_set_memory (adding.Occupied i) = false

abbrev pub is_again_memory : ReauthorizationError → Bool
is_again_memory reauthorization.OutOfMemory = true
is_again_memory (reauthorization.PolicySetError e) = is_set_memory e
is_again_memory (reauthorization.ConcretizationError e) = is_request_memory e

abbrev pub set_refused_or : Refusal → PolicySetError → Refusal
set_refused_or other adding.OutOfMemory = other
set_refused_or other (adding.Occupied i) = repeated_id (id_text i)

abbrev pub refused_or : Refusal → ReauthorizationError → Refusal
refused_or other reauthorization.OutOfMemory = other
refused_or other (reauthorization.PolicySetError e) = set_refused_or other e
refused_or other (reauthorization.ConcretizationError e) = refusal_or other e

-- This response is made, or it is refused for this reason. Out of memory says nothing.
abbrev pub Reauthorizes : Outcome Response → Result PartialResponse ReauthorizationError → Type 0
Reauthorizes o (Ok r) = o ≡ makes_it (response_seen r)
Reauthorizes o (Err e) = (other : Refusal) → is_again_memory e ≡ false → o ≡ refuses (refused_or other e)
