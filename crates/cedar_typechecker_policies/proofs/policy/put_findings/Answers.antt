use Rattle.cedar_store_parts.specs.contracts.diagnostics.ValidationErrorPartialEq.TheImpl as errors
use Rattle.cedar_store_parts.specs.contracts.diagnostics.ValidationWarningPartialEq.TheImpl as warnings
use Rattle.cedar_typechecker_policies.proofs.Finding.{union_after}
use Rattle.cedar_typechecker_policies.proofs.policy.put_findings.Goals as goal

pub returns-clause-errors : goal.returns-clause-errors
returns-clause-errors c =
    union_after (errors.ghosts).eq c.args.type_errors.now.keys c.reserve.new.self.keys c.args.found.errors.items c.add_all.new.set.keys c.in_ok-reserve.ensures.keys.2 c.add_all.ensures

pub returns-clause-warnings : goal.returns-clause-warnings
returns-clause-warnings c =
    (c.in_ok-warned.warned.items, c.in_ok-warned.ensures, union_after (warnings.ghosts).eq c.args.warnings.now.keys c.reserve-2.new.self.keys c.in_ok-warned.warned.items c.add_all-2.new.set.keys c.in_ok-reserve-2.ensures.keys.2 c.add_all-2.ensures)
