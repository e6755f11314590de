use Rattle.std.proofs.Common.{◌≡◌, map, length}
use Rattle.std.specs.Rc.{rc_str_bytes}
use Rattle.cedar_expr_values.specs.Extensions.{extension_of}
use Rattle.cedar_expr_values.specs.Values.{made}
use Rattle.cedar_evaluator_model.specs.Steps.{path_of}
use Rattle.cedar_evaluator_reads.specs.Scopes.{scope_seen}
use Rattle.cedar_evaluator_reads.proofs.knowledge.Knowledge.path.Given as goal

abbrev pub invariant-loop-next : goal.invariant-loop-next
invariant-loop-next g l =
    path_of (scope_seen l.self) (rc_str_bytes l.first) (map rc_str_bytes l.others) (made extension_of l.v) ≡ path_of (scope_seen l.self) (rc_str_bytes l.name) (map rc_str_bytes l.rest) (made extension_of l.value)

abbrev pub decreases-loop-next : goal.decreases-loop-next
decreases-loop-next g l = length l.rest
