use Rattle.std.proofs.Common.{◌≡◌, ◌++◌, map}
use Rattle.cedar_expr_model.specs.Parts.{slots}
use Rattle.cedar_expr_trees.specs.Trees.{tree_of}
use Rattle.cedar_expr_trees.specs.Positions.{slot_placed, slots_left}
use Rattle.cedar_store_policies.specs.Places.{slots_within}
use Rattle.cedar_store_policies.specs.TemplateParts.{slot_ids}
use Rattle.cedar_store_policies.proofs.template_body.push_slots.Given as goal

abbrev pub invariant-loop-slot : goal.invariant-loop-slot
invariant-loop-slot l = record {
  places : map slot_placed l.found.items ++ slots_left l.slot-iterator ≡ map slot_placed l.initial.found.items ++ slots_within l.e;
  ids : slot_ids l.found.items ++ map (λ s. s.0) (slots_left l.slot-iterator) ≡ slot_ids l.initial.found.items ++ slots (tree_of l.e);
}
