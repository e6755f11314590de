-- Outcomes: a value, or an error of one kind.
-- Rule: the meaning (docs/RULES.md).
use Rattle.std.specs.Prelude.{◌≡◌, Option, Some, None}
use Rattle.std.proofs.Common.{◌⊎◌}
use Rattle.cedar_expr_model.specs.Name.{Name}
use Rattle.cedar_expr_model.specs.Uid.{Uid}

-- The kinds of errors. That of a missing entity keeps its uid, and that of an extension its name.
pub data Fault : Type 0 where
  missing_entity : Uid → Fault
  missing_attribute_or_tag missing_field wrong_type overflow zero_divisor no_function wrong_count unlinked_slot : Fault
  extension_failed : Name → Fault

pub data Res (A : Type 0) : Type 0 where
  val : A → Res A
  err : Fault → Res A

-- First this; what comes next takes its value. The first error is the outcome.
abbrev pub Then : {A B : Type 0} → (Res A → Type 0) → (A → Res B → Type 0) → Res B → Type 0
Then first next (val w) = (v : _) × first (val v) × next v (val w)
Then first next (err f) = first (err f) ⊎ ((v : _) × first (val v) × next v (err f))

-- this outcome and no other
abbrev pub Is : {A : Type 0} → Res A → Res A → Type 0
Is expected outcome = outcome ≡ expected

-- this outcome, where what is known gives one
abbrev pub Gives : {A : Type 0} → Option (Res A) → Res A → Type 0
Gives found outcome = found ≡ Some outcome

-- the function beside them: where what is known gives no outcome there is none
abbrev pub bind : {A B : Type 0} → Option (Res A) → (A → Option (Res B)) → Option (Res B)
bind None next = None
bind (Some (val v)) next = next v
bind (Some (err f)) next = Some (err f)
