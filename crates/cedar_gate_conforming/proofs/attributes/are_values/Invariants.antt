use Rattle.std.proofs.Common.{◌≡◌}
use Rattle.std.specs.List.{list_all}
use Rattle.cedar_store_model.specs.Knowledge.{is_known}
use Rattle.cedar_gate_conforming.specs.Parts.{parts_left}
use Rattle.cedar_gate_conforming.proofs.attributes.are_values.Given as goal

abbrev pub invariant-loop-name : goal.invariant-loop-name
invariant-loop-name l = list_all (λ p. is_known p.1) (parts_left l._name-iterator) ≡ list_all (λ p. is_known p.1) (parts_left l.fn.parts)
