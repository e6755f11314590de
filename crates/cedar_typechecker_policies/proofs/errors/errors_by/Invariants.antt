use Rattle.std.proofs.Common.{◌≡◌, true}
use Rattle.std.specs.List.{list_all}
use Rattle.cedar_store_parts.specs.Parts.{id_text}
use Rattle.cedar_typechecker_policies.specs.Checks.{is_error_of}
use Rattle.cedar_typechecker_policies.proofs.errors.errors_by.Given as goal

abbrev pub invariant-loop-fault : goal.invariant-loop-fault
invariant-loop-fault l = list_all (is_error_of (id_text l.policy_id)) l.errors.items ≡ true
