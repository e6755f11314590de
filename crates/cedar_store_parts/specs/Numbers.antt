-- The numbers of what is refused of policies and sets of them.
-- Rule: policies and templates (docs/RULES.md).
use Rattle.std.specs.Prelude.{ℕ}
use Rattle.cedar_store_model.specs.PolicySet.{LinkFault, id_present, slot_not_bound, slot_not_of_template, no_template}
use Rattle.cedar_store_parts.specs.declared.err.PolicySetError.{PolicySetError}
use Rattle.cedar_store_parts.specs.declared.err.PolicySetError.TheVariants as adding
use Rattle.cedar_store_parts.specs.declared.err.LinkingError.{LinkingError}
use Rattle.cedar_store_parts.specs.declared.err.LinkingError.TheVariants as linking

-- the numbers of the faults
abbrev pub link_fault_number : LinkFault → ℕ
link_fault_number id_present = 1
link_fault_number slot_not_bound = 2
link_fault_number slot_not_of_template = 3
link_fault_number no_template = 4

abbrev pub set_error_number : PolicySetError → ℕ
set_error_number adding.OutOfMemory = 0
set_error_number (adding.Occupied id) = link_fault_number id_present

abbrev pub linking_error_number : LinkingError → ℕ
linking_error_number linking.OutOfMemory = 0
linking_error_number (linking.PolicyIdConflict id) = link_fault_number id_present
linking_error_number (linking.UnboundSlot s) = link_fault_number slot_not_bound
linking_error_number (linking.ExtraSlot s) = link_fault_number slot_not_of_template
linking_error_number (linking.NoSuchTemplate id) = link_fault_number no_template

-- an id that is present, where a template is linked under it
abbrev pub as_linking : PolicySetError → LinkingError
as_linking adding.OutOfMemory = linking.OutOfMemory
as_linking (adding.Occupied id) = linking.PolicyIdConflict id
