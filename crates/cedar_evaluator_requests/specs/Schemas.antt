-- What schemas say of requests.
-- Rule: partial evaluation (docs/RULES.md).
use Rattle.std.specs.Prelude.{Option, Some, None}
use Rattle.std.specs.Borrow.{Bor}
use Rattle.cedar_evaluator_requests.specs.declared.schema.RequestError.{RequestError}
use Rattle.cedar_evaluator_requests.specs.declared.schema.RequestError.TheVariants.{OutOfMemory, Schema}

-- The schema passes the request; without a schema nothing is asked.
abbrev pub Passes : {S Q : Type 0} → (S → Q → Type 0) → Option (Bor S) → Q → Type 0
Passes passes (Some s) q = passes s.now q
Passes passes None q = Unit {0}

-- The schema says this against the request, or it is out of memory.
abbrev pub Refuses : {S Q E : Type 0} → (S → Q → E → Type 0) → Option (Bor S) → Q → RequestError E → Type 0
Refuses refuses s q OutOfMemory = Unit {0}
Refuses refuses (Some s) q (Schema e) = refuses s.now q e
Refuses refuses None q (Schema e) = ⊥
