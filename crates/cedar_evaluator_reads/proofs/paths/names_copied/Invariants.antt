use Rattle.std.proofs.Common.{◌≡◌, map, take}
use Rattle.std.specs.Rc.{rc_str_bytes}
use Rattle.cedar_evaluator_reads.proofs.paths.names_copied.Given as goal

abbrev pub invariant-loop-name : goal.invariant-loop-name
invariant-loop-name l = map rc_str_bytes l.copies.items ≡ map rc_str_bytes (take l.name-index l.names)
