-- The faults of the code in the model, and what a refusal says.
-- Rule: conforming entities; conforming requests (docs/RULES.md).
use Rattle.std.specs.Prelude.{◌≡◌, ℕ, Bool, true, Option, Some, None, IfSome, is_some}
use Rattle.cedar_schema_model.specs.Conforming.{ConformFault, undeclared, not_listed, no_member, lacks_attribute, undeclared_attribute, attribute_value, tag, ancestor, context_value, open_part}
use Rattle.cedar_gate_model.specs.First.{first_fault}
use Rattle.cedar_gate_conforming.specs.declared.faults.ConformFault as code
use Rattle.cedar_gate_conforming.specs.declared.faults.ConformFault.TheVariants.{OutOfMemory, Undeclared, NotListed, NoMember, LacksAttribute, UndeclaredAttribute, AttributeValue, Tag, Ancestor, Context, OpenPart}

abbrev pub fault_number : code.ConformFault → ℕ
fault_number OutOfMemory = 0
fault_number Undeclared = 1
fault_number NotListed = 2
fault_number NoMember = 3
fault_number LacksAttribute = 4
fault_number UndeclaredAttribute = 5
fault_number AttributeValue = 6
fault_number Tag = 7
fault_number Ancestor = 8
fault_number Context = 9
fault_number OpenPart = 10

-- the fault; out of memory is none
abbrev pub fault_seen : code.ConformFault → Option ConformFault
fault_seen OutOfMemory = None
fault_seen Undeclared = Some undeclared
fault_seen NotListed = Some not_listed
fault_seen NoMember = Some no_member
fault_seen LacksAttribute = Some lacks_attribute
fault_seen UndeclaredAttribute = Some undeclared_attribute
fault_seen AttributeValue = Some attribute_value
fault_seen Tag = Some tag
fault_seen Ancestor = Some ancestor
fault_seen Context = Some context_value
fault_seen OpenPart = Some open_part

-- it is a fault, and not out of memory
abbrev pub IsTold : code.ConformFault → Type 0
IsTold f = is_some (fault_seen f) ≡ true

-- It is the first fault that is there. Out of memory says nothing.
abbrev pub IsFirst : (ConformFault → Bool) → code.ConformFault → Type 0
IsFirst has f = IfSome (fault_seen f) (λ g. first_fault has ≡ Some g)

-- The fault is there, and the first. Out of memory says nothing.
abbrev pub IsThere : (ConformFault → Bool) → code.ConformFault → Type 0
IsThere has f = IfSome (fault_seen f) (λ g. (has g ≡ true) × (first_fault has ≡ Some g))
