use Rattle.std.proofs.Common.{◌≡◌}
use Rattle.cedar_store_entities.proofs.Ranged.{parts_in_range}
use Rattle.cedar_store_entities.proofs.laws.parts_are_in_range.Given as goal

abbrev pub invariant-loop-part : goal.invariant-loop-part
invariant-loop-part l = parts_in_range l.initial.part-iterator ≡ parts_in_range l.part-iterator
