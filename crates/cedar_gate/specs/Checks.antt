-- What a check of an entity or a request says.
-- Rule: conforming entities; conforming requests (docs/RULES.md).
use Rattle.std.specs.Prelude.{◌≡◌, Bool, true, false, is_some, Result, Ok, Err}
use Rattle.cedar_gate_conforming.specs.Faults.{fault_seen}
use Rattle.cedar_gate_conforming.specs.declared.faults.ConformFault.{ConformFault}

-- A check passed or found a fault, and this says which.
abbrev pub IsVerdict : Result Unit ConformFault → Bool → Type 0
IsVerdict (Ok u) b = b ≡ true
IsVerdict (Err f) b = (b ≡ false) × (is_some (fault_seen f) ≡ true)
