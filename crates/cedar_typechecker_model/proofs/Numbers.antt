-- Steps that are counted up to a greatest number.
use Rattle.std.proofs.Common.{◌≡◌, ℕ, ◌+◌, arith}
use Rattle.std.specs.Prelude.{max}
use Rattle.cedar_typechecker_model.specs.Levels.{needed}

pub needed_again : (j k : ℕ) → needed (needed j + k) ≡ needed (j + k)
needed_again j k = omega arith

pub needed_twice : (j k : ℕ) → needed (j + needed k) ≡ needed (j + k)
needed_twice j k = omega arith

pub needed_max : (j k : ℕ) → max (needed j) (needed k) ≡ needed (max j k)
needed_max j k = omega arith

pub max_none : (k : ℕ) → max k 0 ≡ k
max_none k = omega arith

pub none_max : (k : ℕ) → max 0 k ≡ k
none_max k = omega arith
