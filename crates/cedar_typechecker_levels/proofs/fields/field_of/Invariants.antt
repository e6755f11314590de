use Rattle.std.specs.Rc.{rc_str_bytes}
use Rattle.cedar_typechecker_levels.proofs.Finding.{FoundFrom}
use Rattle.cedar_typechecker_levels.proofs.fields.field_of.Given as goal

abbrev pub invariant-loop-key : goal.invariant-loop-key
invariant-loop-key l = FoundFrom (rc_str_bytes l.name) l.fields.entries l.key-iterator
