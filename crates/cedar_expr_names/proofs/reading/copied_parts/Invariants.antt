-- The parts that were copied so far.
use Rattle.std.proofs.Common.{◌≡◌, map, take}
use Rattle.cedar_expr_names.specs.Ids.{id_text}
use Rattle.cedar_expr_names.proofs.reading.copied_parts.Given as goal

abbrev pub invariant-loop-part : goal.invariant-loop-part
invariant-loop-part l = map id_text l.parts.items ≡ map id_text (take l.part-index l.path)
