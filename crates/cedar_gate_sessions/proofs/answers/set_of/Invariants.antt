use Rattle.std.proofs.Common.{◌≡◌, ◌++◌, map, length}
use Rattle.std.specs.Vec.Iter.{into_iter_items, into_iter_len}
use Rattle.cedar_expr_model.specs.ListLaws.{AreDistinct}
use Rattle.cedar_store_parts.specs.Parts.{id_text}
use Rattle.cedar_gate_sessions.proofs.answers.set_of.Given as goal

abbrev pub invariant-loop-id : goal.invariant-loop-id
invariant-loop-id l = record {
  goes : AreDistinct (map id_text l.fn.ids.items) → map id_text l.set.keys ++ map id_text (into_iter_items l.id-iterator) ≡ map id_text l.fn.ids.items;
  full : into_iter_len l.id-iterator ≡ length (into_iter_items l.id-iterator);
}
