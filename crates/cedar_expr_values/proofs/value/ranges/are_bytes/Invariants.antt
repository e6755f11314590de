use Rattle.std.proofs.Common.{◌≡◌, true, take}
use Rattle.std.specs.List.{list_all}
use Rattle.cedar_expr_model.specs.Ranges.{is_byte}
use Rattle.cedar_expr_values.proofs.value.ranges.are_bytes.Given as goal

abbrev pub invariant-loop-byte : goal.invariant-loop-byte
invariant-loop-byte l = list_all is_byte (take l.byte-index l.bytes) ≡ true
