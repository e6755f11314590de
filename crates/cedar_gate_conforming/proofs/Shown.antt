-- What is refused by what is kept is refused by the schema.
use Rattle.std.proofs.Common.{◌≡◌, ◌∙◌, Bool, true, Option, Some, None}
use Rattle.std.specs.Prelude.{IfSome}
use Rattle.cedar_schema_model.specs.Conforming.{ConformFault}
use Rattle.cedar_gate_model.specs.First.{first_fault}
use Rattle.cedar_gate_model.specs.ConformingLaws.{FirstIsFault}
use Rattle.cedar_gate_model.proofs.First.{first_alike}
use Rattle.cedar_gate_conforming.specs.Faults.{fault_seen, IsFirst, IsThere}
use Rattle.cedar_gate_conforming.specs.declared.faults.ConformFault as code

pub there : FirstIsFault → (has is : ConformFault → Bool) → ((f : ConformFault) → has f ≡ is f) → (x : code.ConformFault) → IsFirst is x → IsThere has x
there law has is same x h = go (fault_seen x) h
  where
    go : (o : Option ConformFault) → IfSome o (λ g. first_fault is ≡ Some g) → IfSome o (λ g. (has g ≡ true) × (first_fault has ≡ Some g))
    go None h = tt
    go (Some g) h = (same g ∙ law is g h, first_alike has is same ∙ h)
